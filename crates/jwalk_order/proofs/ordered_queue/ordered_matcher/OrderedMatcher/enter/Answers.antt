use Rattle.std.proofs.lemmas.Result.{IfOk-from_err}
use Rattle.jwalk_order.proofs.Frontiers.{enters}
use Rattle.jwalk_order.proofs.ordered_queue.ordered_matcher.OrderedMatcher.enter.Goals as goal

pub returns-clause-entered : goal.returns-clause-entered
returns-clause-entered g c =
    rw (c.push_reserved.ensures.items, c.reserve.ensures.items, c.in_ok-push.ensures.pushed)
    (enters _ _ _ _ c.self.view_is c.requires.some c.self.invariant c.requires.children)

pub invariant_of-self : goal.invariant_of-self
invariant_of-self g c = rw c.in_err-reserve.ensures.items c.self.invariant

pub returns-in_err-reserve-clause-entered : goal.returns-in_err-reserve-clause-entered
returns-in_err-reserve-clause-entered g c = IfOk-from_err c.from_residual.result _ c.from_residual.ensures.0

pub returns-in_err-push-clause-entered : goal.returns-in_err-push-clause-entered
returns-in_err-push-clause-entered g c = IfOk-from_err c.from_residual-in_err-push.result _ c.from_residual-in_err-push.ensures.0
