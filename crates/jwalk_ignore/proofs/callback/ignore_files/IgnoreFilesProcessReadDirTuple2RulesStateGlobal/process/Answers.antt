use Rattle.std.proofs.Common.{map}
use Rattle.jwalk.specs.jwalk_model.ReadDir.{list_depth}
use Rattle.jwalk.specs.jwalk_job.Entry.{item}
use Rattle.jwalk_ignore.specs.Callback.IgnoreViews.{next_of, settings_of, texts_of, with_processed}
use Rattle.jwalk_ignore.specs.Callback.States.{nothing_beside, rules_held}
use Rattle.jwalk_ignore.proofs.IgnoreFacts.{then_next}
use Rattle.std.proofs.lemmas.Result.{on_ok_weaker}
use Rattle.jwalk.proofs.GivenFacts.{adds_more}
use Rattle.jwalk_ignore.proofs.callback.ignore_files.IgnoreFilesProcessReadDirTuple2RulesStateGlobal.process.Goals as goal

pub process-requires-clause-depths : goal.process-requires-clause-depths
process-requires-clause-depths g c = c.in_ok-drop_ignored.ensures.depth (list_depth c.args.depth) c.requires.depths

pub returns-clause-made : goal.returns-clause-made
returns-clause-made g c = λ given ignores.
    let it = c.args.self.now in
    then_next rules_held nothing_beside given (g.T.Texts.IsFixed (texts_of it)) (g.T.Texts.functions (texts_of it)) (settings_of it) (g.P.ProcessReadDir.Makes (next_of it)) ignores
    c.args.depth c.args.path.now c.process.result c.args.state.now _ c.process.new.state (map item c.args.list.now.items) (map item c.drop_ignored.new.list.items) _
    (c.process.ensures.made (with_processed given ignores.3 ignores.4) ignores.5) tt (c.in_ok-drop_ignored.ensures.value ignores.0)

pub returns-clause-root : goal.returns-clause-root
returns-clause-root g c = λ keeps at.
    on_ok_weaker c.process.result (adds_more (map item c.args.list.now.items) (map item c.drop_ignored.new.list.items) (map item c.process.new.list.items) (c.in_ok-drop_ignored.ensures.root at)) (c.process.ensures.root keeps at)
