use Rattle.jwalk_changes.specs.Coming.{CanGoOn, weight}
use Rattle.jwalk_changes.proofs.WholeFacts.{SoFar}
use Rattle.jwalk_changes.proofs.all_changes.Given as goal

abbrev pub invariant-loop-change : goal.invariant-loop-change
invariant-loop-change g l = record {
  can : CanGoOn g.I.Iterator.can_next g.I.Iterator.remaining g.J.Iterator.can_next g.J.Iterator.remaining g.K.Iterator.can_next g.K.Iterator.remaining l.coming;
  so_far : SoFar g.I.Iterator.next_gives g.J.Iterator.next_gives g.K.Iterator.next_gives g.O.AtPath.path g.O.Entry.facts g.N.AtPath.path g.N.Entry.facts g.U.AtPath.path l.initial.coming l.found.items l.coming;
}

-- at most how many differences are to come
abbrev pub decreases-loop-change : goal.decreases-loop-change
decreases-loop-change g l = weight g.I.Iterator.remaining g.J.Iterator.remaining g.K.Iterator.remaining l.coming
