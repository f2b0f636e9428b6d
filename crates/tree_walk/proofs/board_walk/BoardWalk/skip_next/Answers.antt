use Rattle.std.proofs.Common.{refl, inl}
use Rattle.tree_walk.proofs.SkipFacts.{skips_next, keeps_skipped}
use Rattle.tree_walk.proofs.board_walk.BoardWalk.skip_next.Goals as goal

pub invariant_of-self : goal.invariant_of-self
invariant_of-self g c = c.self.invariant

pub invariant_of-self-2 : goal.invariant_of-self-2
invariant_of-self-2 g c = (c.self.invariant.0, keeps_skipped c.in-Some.board c.skip_next.new.self (rw c.in-Some.is at c.self.invariant.1) c.skip_next.ensures)

pub returns-in_default-clause-skips : goal.returns-in_default-clause-skips
returns-in_default-clause-skips g c = rw (← c.self.view_is, c.in_default.is) (inl (refl, refl, refl))

pub returns-clause-skips : goal.returns-clause-skips
returns-clause-skips g c =
    let keeps = rw c.in-Some.is at c.self.invariant.1 in
    rw (← c.self.view_is, c.in-Some.is) (skips_next c.in-Some.board c.skip_next.new.self c.pending-pending.ensures.whole keeps.none_in_hand c.skip_next.ensures)
