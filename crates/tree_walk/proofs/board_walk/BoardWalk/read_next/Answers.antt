use Rattle.std.proofs.Common.{arith, refl}
use Rattle.tree_walk.proofs.board_walk.BoardWalk.read_next.Goals as goal

pub invariant_of-self : goal.invariant_of-self
invariant_of-self g c = c.self.invariant

pub invariant_of-self-in-Ok : goal.invariant_of-self-in-Ok
invariant_of-self-in-Ok g c = (c.self.invariant.0, c.in-Ok.ensures.goes_on.keeps)

pub invariant_of-self-in-Err : goal.invariant_of-self-in-Err
invariant_of-self-in-Err g c = (c.self.invariant.0, tt)

pub returns-in_default-clause-answers : goal.returns-in_default-clause-answers
returns-in_default-clause-answers g c = rw (← c.self.view_is, c.in_default.is) (record { ahead = omega (arith, c.self.invariant.0); stopped = tt; some = tt; next = (refl, refl); enters = refl })

pub returns-in-Ok-clause-answers : goal.returns-in-Ok-clause-answers
returns-in-Ok-clause-answers g c =
    let goes_on = c.in-Ok.ensures.goes_on in
    rw (← c.self.view_is, c.in-Some.is) (record { ahead = goes_on.ahead; stopped = tt; some = tt; next = goes_on.next; enters = goes_on.enters })

pub returns-in-Err-clause-answers : goal.returns-in-Err-clause-answers
returns-in-Err-clause-answers g c = rw (← c.self.view_is, c.in-Some.is) (record { ahead = omega (arith, c.self.invariant.0); stopped = refl; some = c.in-Err.ensures.some; next = tt; enters = tt })
