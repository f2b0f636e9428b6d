use Rattle.std.proofs.Common.{IfSome, List, ℕ, ◌≡◌, sym, subst}
use Rattle.std.proofs.lemmas.Result.{err_from_is_err_and, IfErr-weaker}
use Rattle.walk_text.specs.TextLines.{text_lines}
use Rattle.walk_text.specs.Built.{TellsOf, TellsOfInput}
use Rattle.walk_text.proofs.BuiltFacts.{unread, tells_of_read}
use Rattle.walk_text.proofs.input.read_tree.Goals as goal

pub returns-in_err-bytes-clause-bad : goal.returns-in_err-bytes-clause-bad
returns-in_err-bytes-clause-bad g c =
    let p = err_from_is_err_and c.from_residual.result c.from_residual.ensures.1 in
    rw (p.1, p.2) (unread (g.R.Read.remaining c.args.input.now) c.in_err-bytes.field-0.0 c.in_err-bytes.ensures.err)

pub returns-clause-bad : goal.returns-clause-bad
returns-clause-bad g c =
    let to_come = g.R.Read.remaining c.args.input.now in
    let read = c.as_slice.result.now in
    let P : List ℕ → Type 0 = λ items. IfSome to_come (λ bytes. items ≡ bytes) in
    let is = subst P (sym c.as_slice.ensures.value) c.in_ok-bytes.ensures.ok in
    IfErr-weaker c.build_tree.result (TellsOf (text_lines read)) (TellsOfInput to_come) (λ failure. tells_of_read to_come read failure is) c.build_tree.ensures.bad
