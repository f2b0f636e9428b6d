use Rattle.std.proofs.Common.{length}
use Rattle.jwalk_order.specs.IndexPath.{address}
use Rattle.jwalk_order.specs.Within.{Leaves}
use Rattle.jwalk_order.proofs.sibling_queue.SiblingQueue.remove_within.Given as goal

abbrev pub invariant-loop-least : goal.invariant-loop-least
invariant-loop-least g l = Leaves (address l.path) l.fn.self l.self

abbrev pub decreases-loop-least : goal.decreases-loop-least
decreases-loop-least g l = length l.self
