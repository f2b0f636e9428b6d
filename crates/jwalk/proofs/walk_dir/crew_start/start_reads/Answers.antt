use Rattle.std.proofs.Common.{map, refl}
use Rattle.jwalk_model.specs.ReadDir.{children, AreClones}
use Rattle.jwalk_job.specs.ReadDirSpec.{spec}
use Rattle.jwalk_job.specs.ReadDir.{reading}
use Rattle.jwalk_readings.specs.CrewReads.{to_read}
use Rattle.jwalk_readings.proofs.AlikeFacts.{alike_clones}
use Rattle.jwalk_readings.proofs.ResultFacts.{none_on_ok, on_err, on_ok_as}
use Rattle.jwalk.proofs.walk_dir.crew_start.start_reads.Goals as goal

pub returns-in_err-own : goal.returns-in_err-own
returns-in_err-own g c = record { job = refl; to_read = none_on_ok _ c.from_residual.result c.from_residual.ensures.0; begins = none_on_ok _ c.from_residual.result c.from_residual.ensures.0; most = none_on_ok _ c.from_residual.result c.from_residual.ensures.0; unchanged = on_err c.from_residual.result refl }

pub returns-in_err-shared : goal.returns-in_err-shared
returns-in_err-shared g c = record { job = refl; to_read = none_on_ok _ c.from_residual-in_err-shared.result c.from_residual-in_err-shared.ensures.0; begins = none_on_ok _ c.from_residual-in_err-shared.result c.from_residual-in_err-shared.ensures.0; most = none_on_ok _ c.from_residual-in_err-shared.result c.from_residual-in_err-shared.ensures.0; unchanged = on_err c.from_residual-in_err-shared.result refl }

pub start-requires-clause-alike : goal.start-requires-clause-alike
start-requires-clause-alike g c κs within = alike_clones g.C.ReadDirState.Clone (children (reading c.args.read.now)) (map spec c.in_ok-shared.shared.items) (map spec c.in_ok-own.own.items) c.in_ok-shared.ensures c.in_ok-own.ensures

pub returns : goal.returns
returns g c = record {
  job = c.start.ensures.job;
  to_read = on_ok_as (AreClones g.C.ReadDirState.Clone.is_clone (children (reading c.args.read.now))) (to_read c.start.new.self) (map spec c.in_ok-own.own.items) c.start.result c.start.ensures.to_read c.in_ok-own.ensures;
  begins = c.start.ensures.begins;
  most = c.start.ensures.most;
  unchanged = c.start.ensures.unchanged;
}
