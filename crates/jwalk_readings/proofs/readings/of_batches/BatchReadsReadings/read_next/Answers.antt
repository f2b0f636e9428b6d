use Rattle.std.specs.Prelude.{option_map, false}
use Rattle.jwalk_job.specs.ReadDir.{outcome}
use Rattle.jwalk_job.specs.Job.{IsGivenOver, greatest_depth}
use Rattle.jwalk_readings.specs.BatchReads.{IsSteadyBatches, to_read, next_of}
use Rattle.jwalk_readings.specs.Source.{IsKnown}
use Rattle.jwalk_readings.specs.Sources.{source_by}
use Rattle.jwalk_readings.proofs.SourceInFacts.{reads_in}
use Rattle.jwalk_readings.proofs.RestFacts.{fewer_done}
use Rattle.jwalk_readings.proofs.readings.of_batches.BatchReadsReadings.read_next.Goals as goal

pub returns-clause-next : goal.returns-clause-next
returns-clause-next g c =
    let old = c.args.self.now in
    reads_in g.C.ReadDirState.Clone (IsGivenOver g.S.FileSystem (IsSteadyBatches g.S.FileSystem g.P.ProcessReadDir g.C.ReadDirState.Clone g.C.DirEntryState.Default old) old.job) (IsKnown (source_by g.S.FileSystem g.P.ProcessReadDir g.C.ReadDirState.Clone g.C.DirEntryState.Default (record { by_crew = false; job = old.job; width = old.width })) (IsSteadyBatches g.S.FileSystem g.P.ProcessReadDir g.C.ReadDirState.Clone g.C.DirEntryState.Default old) (next_of old)) (greatest_depth old.job) (λ s o known. record { told = tt; value = known }) (to_read old) (option_map outcome c.in_ok-read_next.field-0) (to_read c.read_next.new.self) c.in_ok-read_next.ensures.next

pub returns-clause-ahead : goal.returns-clause-ahead
returns-clause-ahead g c = fewer_done c.args.self.now c.read_next.new.self c.args.self.now.width c.read_next.ensures.ahead

pub returns-in_err-read_next-clause-ahead : goal.returns-in_err-read_next-clause-ahead
returns-in_err-read_next-clause-ahead g c = fewer_done c.args.self.now c.read_next.new.self c.args.self.now.width c.read_next.ensures.ahead
