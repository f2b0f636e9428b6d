use Rattle.std.proofs.Common.{◌∙◌}
use Rattle.jwalk_readings.proofs.AlikeFacts.{alike_copies}
use Rattle.jwalk_readings.proofs.ResultFacts.{none_ok}
use Rattle.jwalk_readings.proofs.crew_reads.started.CrewReads+C+S+P+A+Session+R+C+S+P+A.by_workers.Goals as goal

pub returns-in_err-shared : goal.returns-in_err-shared
returns-in_err-shared g c = record { job = none_ok _ c.from_residual.result c.from_residual.ensures.0; to_read = none_ok _ c.from_residual.result c.from_residual.ensures.0; begins = none_ok _ c.from_residual.result c.from_residual.ensures.0; most = none_ok _ c.from_residual.result c.from_residual.ensures.0 }

pub returns-in_default : goal.returns-in_default
returns-in_default g c = record { job = tt; to_read = tt; begins = tt; most = tt }

pub returns-in_err-start : goal.returns-in_err-start
returns-in_err-start g c = record { job = none_ok _ c.from_residual-in_err-start.result c.from_residual-in_err-start.ensures.0; to_read = none_ok _ c.from_residual-in_err-start.result c.from_residual-in_err-start.ensures.0; begins = none_ok _ c.from_residual-in_err-start.result c.from_residual-in_err-start.ensures.0; most = none_ok _ c.from_residual-in_err-start.result c.from_residual-in_err-start.ensures.0 }

pub returns : goal.returns
returns g c = record { job = c.start.ensures.job ∙ c.in-Ok.ensures.made.0; to_read = c.in_ok-start.ensures.to_read; begins = c.in_ok-start.ensures.begins; most = c.in_ok-start.ensures.most }

pub start-requires-clause-alike : goal.start-requires-clause-alike
start-requires-clause-alike g c κs within = alike_copies g.C.ReadDirState.Clone c.args.roots.items c.in_ok-shared.shared.items c.in_ok-shared.ensures.cases.0
