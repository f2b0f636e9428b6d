use Rattle.std.specs.Iterator.{IsFinite, size}
use Rattle.jwalk_usage.specs.Kept.{errors_kept, bytes_kept}
use Rattle.jwalk_usage.proofs.AddFacts.{AddedSoFar}
use Rattle.jwalk_usage.proofs.kept.usage_kept_of_rest.Given as goal

abbrev pub invariant-loop-answer : goal.invariant-loop-answer
invariant-loop-answer g l =
    record {
      can : g.I.Iterator.can_next l.answers;
      ends : IsFinite (g.I.Iterator.remaining l.answers);
      so_far : AddedSoFar errors_kept bytes_kept g.I.Iterator.next_gives l.fn.answers l.answers l.usage;
    }

-- at most how many answers are to come
abbrev pub decreases-loop-answer : goal.decreases-loop-answer
decreases-loop-answer g l = size (g.I.Iterator.remaining l.answers)
