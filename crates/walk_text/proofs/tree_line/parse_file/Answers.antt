use Rattle.std.proofs.Common.{arith, ap, sym, ◌∙◌, ◌++◌, ◌∷◌, Some, codes}
use Rattle.std.proofs.lemmas.Str.Pattern.{split_parts}
use Rattle.walk_text.specs.TreeLine.{space}
use Rattle.walk_text.proofs.Texts.{on_none, unsplit, no_number, no_path}
use Rattle.walk_text.proofs.tree_line.parse_file.Goals as goal

pub returns-in_err-len-clause-none : goal.returns-in_err-len-clause-none
returns-in_err-len-clause-none c = on_none _ (unsplit c.args.text.now c.in_err-len.ensures.cases)

pub returns-in_err-len-2-clause-none : goal.returns-in_err-len-2-clause-none
returns-in_err-len-2-clause-none c = on_none _ (no_number c.args.text.now (c.in_ok-len.len, c.in_ok-len.path) c.in_ok-len.ensures.cases c.in_err-len-2.ensures)

pub returns-in_err-path_in-clause-none : goal.returns-in_err-path_in-clause-none
returns-in_err-path_in-clause-none c = on_none _ (no_path c.args.text.now (c.in_ok-len.len, c.in_ok-len.path) c.in_ok-len.ensures.cases c.in_err-path_in.ensures)

pub returns-clause-some : goal.returns-clause-some
returns-clause-some c =
    let len = c.in_ok-len.len.now in
    let parts = split_parts 32 c.args.text.now (Some (c.in_ok-len.len, c.in_ok-len.path)) c.in_ok-len.ensures.cases (omega arith) in
    let path = sym c.in_ok-path_in.ensures.0 in
    (len, ap (λ rest. codes "f " ++ rest) (parts.0 ∙ ap (λ p. len ++ space ∷ p) path), c.in_ok-len-2.ensures.0, sym c.in_ok-len-2.ensures.1, c.in_ok-path_in.ensures.1)
