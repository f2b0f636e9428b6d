use Rattle.std.specs.Iterator.{IsFinite, size}
use Rattle.jwalk_usage.proofs.CountFacts.{CountedSoFar}
use Rattle.jwalk_usage.proofs.usage_of_rest.Given as goal

abbrev pub invariant-loop-answer : goal.invariant-loop-answer
invariant-loop-answer g l =
    record {
      can : g.I.Iterator.can_next l.answers;
      ends : IsFinite (g.I.Iterator.remaining l.answers);
      so_far : CountedSoFar g.I.Iterator.next_gives (g.S.FileSystem.IsFixed l.fs) (g.S.FileSystem.functions l.fs) l.fn.answers l.answers l.usage;
    }

-- at most how many answers are to come
abbrev pub decreases-loop-answer : goal.decreases-loop-answer
decreases-loop-answer g l = size (g.I.Iterator.remaining l.answers)
