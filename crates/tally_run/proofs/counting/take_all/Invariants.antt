use Rattle.jwalk_subtotals.specs.Coming.{weight, CanGoOn, Gives}
use Rattle.tally_run.proofs.CountingFacts.{TakenSoFar}
use Rattle.tally_run.proofs.counting.take_all.Given as goal

abbrev pub invariant-loop-yielded : goal.invariant-loop-yielded
invariant-loop-yielded g l =
    record {
      can : CanGoOn g.I.Iterator.can_next g.I.Iterator.remaining l.subtotals;
      so_far : TakenSoFar (Gives g.I.Iterator.next_gives) l.fn.root l.fn.shown l.fn.subtotals l.fn.results (g.W.Write.contents l.fn.out)
          l.subtotals l.results (g.W.Write.contents l.out) l.clean;
    }

-- at most how many subtotals are to come
abbrev pub decreases-loop-yielded : goal.decreases-loop-yielded
decreases-loop-yielded g l = weight g.I.Iterator.remaining l.subtotals
