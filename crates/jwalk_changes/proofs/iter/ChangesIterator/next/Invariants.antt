use Rattle.jwalk_changes.specs.Coming.{weight}
use Rattle.jwalk_changes.proofs.RunFacts.{Reaches}
use Rattle.jwalk_changes.proofs.iter.ChangesIterator.next.Given as goal

abbrev pub invariant-loop-yielded : goal.invariant-loop-yielded
invariant-loop-yielded g l = Reaches g.I.Iterator.next_gives g.J.Iterator.next_gives g.K.Iterator.next_gives g.I.Iterator.can_next g.I.Iterator.remaining g.J.Iterator.can_next g.J.Iterator.remaining g.K.Iterator.can_next g.K.Iterator.remaining g.O.AtPath.path g.O.Entry.facts g.N.AtPath.path g.N.Entry.facts g.U.AtPath.path l.fn.self l.self

-- at most how many turns are left
abbrev pub decreases-loop-yielded : goal.decreases-loop-yielded
decreases-loop-yielded g l = weight g.I.Iterator.remaining g.J.Iterator.remaining g.K.Iterator.remaining l.self
