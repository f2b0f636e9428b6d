use Rattle.std.proofs.Common.{inl, inr, refl}
use Rattle.since_run.proofs.run.save_told.Goals as goal

pub returns-clause-ends : goal.returns-clause-ends
returns-clause-ends g c = inl (c.if-not-told.false, refl, c.in_ok-save.ensures.saves)
