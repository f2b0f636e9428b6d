use Rattle.std.proofs.Common.{rules, ◌≡◌, subst, sym}
use Rattle.std.specs.Prelude.{IfErr}
use Rattle.std.proofs.lemmas.Result.{err_from_is_err_and}
use Rattle.jwalk_usage.specs.declared.report.UsageFault.TheVariants.{TooMany}
use Rattle.jwalk_subtotals.specs.Stack.{frame, frames_of, CannotClose}
use Rattle.jwalk_subtotals.proofs.LastFacts.{EndsWith, reverse_last}
use Rattle.jwalk_subtotals.proofs.stack.Stack.close.Goals as goal

pub returns-in_err-count-clause-too_many : goal.returns-in_err-count-clause-too_many
returns-in_err-count-clause-too_many g c =
    let p = err_from_is_err_and c.from_residual.result c.from_residual.ensures.1 in
    let items = c.args.self.now.«open».items in
    let ends : EndsWith items c.in-Some.last = record { front = c.pop.new.self.items; is = c.in-Some.ensures.items } in
    let great : CannotClose (frames_of c.args.self.now) = subst CannotClose (sym (reverse_last frame items c.in-Some.last ends)) c.in_err-count.ensures.too_many.1 in
    subst (λ r. IfErr r (λ fault. (fault ≡ TooMany) × CannotClose (frames_of c.args.self.now))) (sym p.1) (search rules, great)
