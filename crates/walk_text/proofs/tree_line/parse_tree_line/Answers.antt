use Rattle.std.proofs.Common.{◌++◌, codes, IfSome, sym, ap, subst, ◌∙◌}
use Rattle.walk_text.specs.TreeLine.{Says}
use Rattle.walk_text.proofs.Texts.{on_none, on_none_weaker}
use Rattle.walk_text.proofs.TreeLineFacts.{no_dir, no_deny, no_link, no_file, no_beginning}
use Rattle.walk_text.proofs.tree_line.parse_tree_line.Goals as goal

pub returns-in_err-path_in-clause-none : goal.returns-in_err-path_in-clause-none
returns-in_err-path_in-clause-none c = on_none _ (no_dir c.args.text.now c.in-Some.path.now c.in-Some.ensures c.in_err-path_in.ensures)

pub returns-in-Some-clause-some : goal.returns-in-Some-clause-some
returns-in-Some-clause-some c = (c.in-Some.ensures ∙ ap (λ path. codes "d " ++ path) (sym c.in_ok-path_in.ensures.0), c.in_ok-path_in.ensures.1)

pub returns-in_err-path_in-2-clause-none : goal.returns-in_err-path_in-2-clause-none
returns-in_err-path_in-2-clause-none c = on_none _ (no_deny c.args.text.now c.in-Some-rest_after.path.now c.in-Some-rest_after.ensures c.in_err-path_in-2.ensures)

pub returns-in-Some-rest_after-clause-some : goal.returns-in-Some-rest_after-clause-some
returns-in-Some-rest_after-clause-some c = (c.in-Some-rest_after.ensures ∙ ap (λ path. codes "x " ++ path) (sym c.in_ok-path_in-2.ensures.0), c.in_ok-path_in-2.ensures.1)

pub returns-in-Some-rest_after-2-clause-some : goal.returns-in-Some-rest_after-2-clause-some
returns-in-Some-rest_after-2-clause-some c = subst (λ text. IfSome c.parse_link.result (Says text)) (sym c.in-Some-rest_after-2.ensures) c.parse_link.ensures.some

pub returns-in-Some-rest_after-2-clause-none : goal.returns-in-Some-rest_after-2-clause-none
returns-in-Some-rest_after-2-clause-none c = on_none_weaker c.parse_link.result (no_link c.args.text.now c.in-Some-rest_after-2.link.now c.in-Some-rest_after-2.ensures) c.parse_link.ensures.none

pub returns-in_err-rest_after-clause-none : goal.returns-in_err-rest_after-clause-none
returns-in_err-rest_after-clause-none c = on_none _ (no_beginning c.args.text.now c.in_default.ensures c.in_default-rest_after.ensures c.in_default-rest_after-2.ensures c.in_err-rest_after.ensures)

pub returns-clause-some : goal.returns-clause-some
returns-clause-some c = subst (λ text. IfSome c.parse_file.result (Says text)) (sym c.in_ok-rest_after.ensures) c.parse_file.ensures.some

pub returns-clause-none : goal.returns-clause-none
returns-clause-none c = on_none_weaker c.parse_file.result (no_file c.args.text.now c.in_ok-rest_after.field-0.now c.in_ok-rest_after.ensures) c.parse_file.ensures.none
