use Rattle.std.specs.Iterator.{IsFinite, Yields, size}
use Rattle.example_proofs.proofs.subtotals.take_all.Given as goal

abbrev pub invariant-loop-yielded : goal.invariant-loop-yielded
invariant-loop-yielded g l =
    record {
      can : g.I.Iterator.can_next l.subtotals;
      ends : IsFinite (g.I.Iterator.remaining l.subtotals);
      so_far : Yields g.I.Iterator.next_gives l.fn.subtotals l.all.items l.subtotals;
    }

-- at most how many are to come
abbrev pub decreases-loop-yielded : goal.decreases-loop-yielded
decreases-loop-yielded g l = size (g.I.Iterator.remaining l.subtotals)
