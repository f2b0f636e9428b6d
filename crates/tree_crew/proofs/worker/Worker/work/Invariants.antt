use Rattle.std.proofs.Common.{IfSome}
use Rattle.std.specs.Arc.{arc_value}
use Rattle.jwalk_order.specs.Ordered.{address_of}
use Rattle.tree_crew.specs.BoardTag.{origin_at}
use Rattle.tree_crew.specs.Origin.{IsAt}
use Rattle.tree_crew.proofs.worker.Worker.work.Given as goal

-- What was taken and not read is a specification of the walk.
abbrev pub invariant-loop : goal.invariant-loop
invariant-loop g l =
    ((goal.iterator-loop g).can_next l.iterator' × (goal.iterator-loop g).is_finite l.iterator')
    × IfSome l.taken (λ item. IsAt g.J.Plan (origin_at (arc_value l.self.shared).work) (address_of item) item.value)
