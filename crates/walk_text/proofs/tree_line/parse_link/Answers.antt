use Rattle.std.proofs.Common.{arith, ap, sym, ◌∙◌, ◌++◌, ◌∷◌, Some, codes}
use Rattle.std.proofs.lemmas.Str.Pattern.{split_parts}
use Rattle.walk_text.specs.TreeLine.{tab}
use Rattle.walk_text.proofs.Texts.{on_none, no_tab, no_linked_path}
use Rattle.walk_text.proofs.tree_line.parse_link.Goals as goal

pub returns-in_err-target-clause-none : goal.returns-in_err-target-clause-none
returns-in_err-target-clause-none c = on_none _ (no_tab c.args.text.now c.in_err-target.ensures.cases)

pub returns-in_err-path_in-clause-none : goal.returns-in_err-path_in-clause-none
returns-in_err-path_in-clause-none c = on_none _ (no_linked_path c.args.text.now (c.in_ok-target.target, c.in_ok-target.path) c.in_ok-target.ensures.cases c.in_err-path_in.ensures)

pub returns-clause-some : goal.returns-clause-some
returns-clause-some c =
    let target = c.in_ok-target.target.now in
    let parts = split_parts 9 c.args.text.now (Some (c.in_ok-target.target, c.in_ok-target.path)) c.in_ok-target.ensures.cases (omega arith) in
    let path = sym c.in_ok-path_in.ensures.0 in
    (ap (λ rest. codes "l " ++ rest) (parts.0 ∙ ap (λ p. target ++ tab ∷ p) path), parts.1, c.in_ok-path_in.ensures.1)
