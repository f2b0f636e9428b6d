use Rattle.std.proofs.Common.{◌≤◌, length}
use Rattle.std.specs.List.{AllZip}
use Rattle.tree_walk.specs.Batch.{IsMadeOf}
use Rattle.tree_walk.proofs.batch.read_in_turn.Given as goal

-- those so far were made from what was gone over, and there is room for all
abbrev pub invariant-loop-item : goal.invariant-loop-item
invariant-loop-item g l = record {
  all : AllZip (IsMadeOf (g.J.Plan.IsReading l.plan)) l.yielded l.made.items;
  room : length l.fn.taken.items ≤ l.made.cap;
}
