use Rattle.std.proofs.Common.{sym, ◌∙◌}
use Rattle.walk_run.proofs.RunFacts.{never_zero}
use Rattle.walk_run.proofs.run.run.Goals as goal

pub returns-in-Err-clause-printed : goal.returns-in-Err-clause-printed
returns-in-Err-clause-printed g c = λ zero. absurd (never_zero c.in-Err.failure (sym c.report.ensures.status ∙ zero))
