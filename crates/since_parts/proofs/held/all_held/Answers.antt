use Rattle.std.proofs.lemmas.List.Sorted.{IsPermutation-trans}
use Rattle.since_parts.proofs.held.all_held.Goals as goal

pub loop-order-preserved : goal.loop-order-preserved
loop-order-preserved c = IsPermutation-trans _ _ _ c.loop-order.invariant (c.in_ok-turn.ensures.passes c.if-branch.true).same
