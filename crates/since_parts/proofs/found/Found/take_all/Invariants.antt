use Rattle.std.specs.Iterator.{IsFinite, size}
use Rattle.since_parts.proofs.FoundFacts.{TakenSoFar}
use Rattle.since_parts.proofs.found.Found.take_all.Given as goal

abbrev pub invariant-loop-answer : goal.invariant-loop-answer
invariant-loop-answer g l =
    record {
      can : g.I.Iterator.can_next l.answers;
      ends : IsFinite (g.I.Iterator.remaining l.answers);
      so_far : TakenSoFar g.I.Iterator.next_gives l.fn.tree l.fn.answers l.answers l.self;
    }

-- at most how many answers are to come
abbrev pub decreases-loop-answer : goal.decreases-loop-answer
decreases-loop-answer g l = size (g.I.Iterator.remaining l.answers)
