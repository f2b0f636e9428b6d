use Rattle.std.proofs.Common.{◌∙◌, map, ap, ◌++◌, subst}
use Rattle.std.specs.Prelude.{fold}
use Rattle.jwalk.specs.jwalk_job.Entry.{item}
use Rattle.jwalk_ignore.specs.Callback.Settings.{settings_value}
use Rattle.jwalk_ignore.specs.Rules.ChainViews.{chain_value}
use Rattle.jwalk_ignore.specs.Callback.IgnoreFiles.{with_root_item}
use Rattle.jwalk_ignore.proofs.ReaderFacts.{begun}
use Rattle.jwalk.specs.jwalk_job.Given.{AddsErrors}
use Rattle.jwalk_ignore.proofs.callback.rules_reader.RulesReader.at_root.Goals as goal

pub returns-clause-value : goal.returns-clause-value
returns-clause-value g c = λ fixed.
    c.in_ok-add_roots.ensures.value fixed
    ∙ ap (λ l. fold (with_root_item (settings_value c.args.self.now.settings) (g.T.Texts.functions c.args.self.now.texts)) (begun (chain_value c.args.chain) (map item l)) (map item c.args.list.items)) c.new.ensures.items

pub returns-clause-depth : goal.returns-clause-depth
returns-clause-depth g c = λ depth all. c.in_ok-add_roots.ensures.depth depth all (rw c.new.ensures.items tt)

pub returns-clause-errors : goal.returns-clause-errors
returns-clause-errors g c =
    subst (λ l. AddsErrors (map item l ++ map item c.args.list.items) (map item c.add_roots.new.made.list.items)) c.new.ensures.items c.in_ok-add_roots.ensures.errors
