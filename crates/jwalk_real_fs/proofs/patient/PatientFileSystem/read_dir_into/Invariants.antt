use Rattle.std.proofs.Common.{◌≡◌}
use Rattle.jwalk_real_fs.proofs.patient.PatientFileSystem.read_dir_into.Given as goal

-- the sink was given nothing yet
abbrev pub invariant-loop : goal.invariant-loop
invariant-loop g l = l.sink ≡ l.initial.sink
