use Rattle.std.proofs.Common.{map, ap, sym, ◌∙◌, refl}
use Rattle.std.specs.Prelude.{fold}
use Rattle.std.proofs.lemmas.List.{map-id}
use Rattle.std.proofs.lemmas.Iterator.Adapters.{YieldsList-from_vec}
use Rattle.std.proofs.lemmas.Iterator.Consumers.{YieldsList-end}
use Rattle.jwalk_ignore.specs.Callback.Settings.{settings_value}
use Rattle.jwalk_ignore.specs.Rules.Folder.{folder_value}
use Rattle.jwalk_ignore.specs.Callback.IgnoreFiles.{with_folder}
use Rattle.jwalk_ignore.specs.Callback.Sources.{made_value}
use Rattle.jwalk_ignore.proofs.ListFacts.{fold_more}
use Rattle.jwalk.proofs.GivenFacts.{adds_more, adds_none}
use Rattle.jwalk.specs.jwalk_job.Entry.{item}
use Rattle.jwalk_ignore.proofs.callback.rules_reader.RulesReader.add_each.Goals as goal

pub loop-folder-preserved : goal.loop-folder-preserved
loop-folder-preserved g c = record {
  value = λ fixed.
      let step = with_folder (settings_value c.args.self.now.settings) (g.T.Texts.functions c.args.self.now.texts) in
      c.in_ok-add_folder.ensures.value fixed ∙ ap (λ m. step m (folder_value c.in-Some.folder)) (c.loop-folder.invariant.value fixed)
      ∙ sym (fold_more step folder_value (made_value c.args.made.now) c.loop-folder.yielded c.in-Some.folder);
  depth = λ depth before. c.in_ok-add_folder.ensures.depth depth (c.loop-folder.invariant.depth depth before);
  errors = adds_more _ _ _ c.loop-folder.invariant.errors c.in_ok-add_folder.ensures.errors;
}

pub returns-clause-value : goal.returns-clause-value
returns-clause-value g c = λ fixed.
    let begins = c.into_iter-folder-iterator.ensures.into_iter_gives in
    let all = YieldsList-end (YieldsList-from_vec {s = c.into_iter-folder-iterator.result} c.args.folders.items begins.0 (begins.1 ∙ c.args.folders.ok.0)) c.loop-folder.yielded c.loop-folder.folder-iterator c.loop-folder.yielded_by c.next.result c.next.new.self c.in-None.is c.next.ensures.steps in
    c.loop-folder.invariant.value fixed
    ∙ ap (λ l. fold (with_folder (settings_value c.args.self.now.settings) (g.T.Texts.functions c.args.self.now.texts)) (made_value c.args.made.now) (map folder_value l)) (sym (map-id c.loop-folder.yielded) ∙ all.0)

pub loop-folder-init : goal.loop-folder-init
loop-folder-init g c = record {
  value = λ fixed. refl;
  depth = λ depth before. before;
  errors = adds_none (map item c.args.made.now.list.items);
}
