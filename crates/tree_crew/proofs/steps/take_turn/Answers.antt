use Rattle.std.proofs.Common.{inr, subst}
use Rattle.jwalk_board.specs.Refusal.{RefusesTake}
use Rattle.tree_crew.proofs.ReadAheadFacts.{taken_may}
use Rattle.tree_crew.proofs.steps.take_turn.Goals as goal

pub returns-in-Ok : goal.returns-in-Ok
returns-in-Ok g c = (taken_may _ _ _ _ _ (c.holds_back.ensures.free c.if-holds_back.false) c.in-Ok.ensures.taken, c.in-Ok.ensures.taken)

pub returns-in-Err-Empty : goal.returns-in-Err-Empty
returns-in-Err-Empty g c =
    (subst (RefusesTake c.args.board.now) c.in-Err-Empty.field-0-is c.in-Err-Empty.ensures.refused, c.in-Err-Empty.ensures.unchanged)

pub returns-in-Err-Memory : goal.returns-in-Err-Memory
returns-in-Err-Memory g c =
    let refused = subst (RefusesTake c.args.board.now) c.in-Err-Memory.field-0-is c.in-Err-Memory.ensures.refused in
    inr (refused, rw (c.in-Err-Memory.ensures.unchanged) at c.stop.ensures)
