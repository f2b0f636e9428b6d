use Rattle.std.proofs.Common.{◌≡◌, ◌∙◌, ◌++◌, ◌-◌, None, false, map, length, ap, sym, rules, arith}
use Rattle.jwalk_model.specs.Paths.{parent}
use Rattle.jwalk_ignore_rules.specs.Rules.Folder.{folder_value, folders_above}
use Rattle.jwalk_ignore_rules.proofs.FolderFacts.{all_found, more_found}
use Rattle.jwalk_ignore_rules.proofs.rules.folder.folders_above.Goals as goal

pub returns-in_default : goal.returns-in_default
returns-in_default g c = λ fixed.
    let texts = g.T.Texts.functions c.args.texts.now in
    let none : parent c.folders.rest.now ≡ None = search rules in
    all_found texts folder_value c.folders.folders.items (folders_above texts false (length c.args.path.now) c.args.path.now) c.folders.is_outer c.folders.left c.folders.rest.now (c.folders.invariant.all fixed) none

pub folders-preserved : goal.folders-preserved
folders-preserved g c = record {
  text = search rules;
  all = λ fixed.
      let texts = g.T.Texts.functions c.args.texts.now in
      let left = c.folders.left - 1 in
      more_found texts folder_value c.folders.folders.items (folders_above texts false (length c.args.path.now) c.args.path.now) c.folders.is_outer c.folders.left c.folders.rest.now (c.folders.invariant.all fixed)
      c.in_ok-folder.folder c.in-Some.above.now left c.ends_git-is_outer.result (omega arith) (sym c.in-Some.ensures) (c.in_ok-folder.ensures fixed) c.ends_git-is_outer.ensures
      ∙ ap (λ l. map folder_value l ++ folders_above texts c.ends_git-is_outer.result left c.in-Some.above.now) (sym c.in_ok-push.ensures.items);
}
