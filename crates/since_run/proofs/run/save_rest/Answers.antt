use Rattle.std.proofs.Common.{inl}
use Rattle.std.proofs.lemmas.Result.{on_ok_weaker}
use Rattle.since_run.proofs.run.save_rest.Goals as goal

pub returns-in-Some-clause-saves : goal.returns-in-Some-clause-saves
returns-in-Some-clause-saves g c = on_ok_weaker c.save.result (λ saves. inl (c.in-Some.rest, c.in-Some.is, saves)) c.save.ensures.saves
