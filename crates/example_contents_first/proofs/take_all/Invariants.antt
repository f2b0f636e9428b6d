use Rattle.std.specs.Iterator.{IsFinite, Yields, size}
use Rattle.example_contents_first.proofs.take_all.Given as goal

abbrev pub invariant-loop-answer : goal.invariant-loop-answer
invariant-loop-answer g l =
    record {
      can : g.I.Iterator.can_next l.answers;
      ends : IsFinite (g.I.Iterator.remaining l.answers);
      so_far : Yields g.I.Iterator.next_gives l.fn.answers l.all.items l.answers;
    }

-- at most how many are to come
abbrev pub decreases-loop-answer : goal.decreases-loop-answer
decreases-loop-answer g l = size (g.I.Iterator.remaining l.answers)
