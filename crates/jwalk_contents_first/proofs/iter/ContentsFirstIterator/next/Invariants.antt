use Rattle.jwalk_contents_first.specs.Coming.{weight}
use Rattle.jwalk_contents_first.proofs.RunFacts.{Reaches}
use Rattle.jwalk_contents_first.proofs.iter.ContentsFirstIterator.next.Given as goal

abbrev pub invariant-loop-self : goal.invariant-loop-self
invariant-loop-self g l = Reaches g.I.Iterator.next_gives g.I.Iterator.can_next g.I.Iterator.remaining l.fn.self l.self

-- at most how many turns are left
abbrev pub decreases-loop-self : goal.decreases-loop-self
decreases-loop-self g l = weight g.I.Iterator.remaining l.self
