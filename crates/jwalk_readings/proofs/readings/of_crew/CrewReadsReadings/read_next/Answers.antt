use Rattle.jwalk_job.specs.ReadDir.{outcome}
use Rattle.jwalk_readings.specs.CrewReads.{job_of, next_address}
use Rattle.jwalk_readings.proofs.SourceInFacts.{crew_enters}
use Rattle.jwalk_readings.proofs.ResultFacts.{tells_missed}
use Rattle.jwalk_readings.proofs.readings.of_crew.CrewReadsReadings.read_next.Goals as goal

pub returns-clause-next : goal.returns-clause-next
returns-clause-next g c = c.read_next.ensures.next

pub returns-clause-enters : goal.returns-clause-enters
returns-clause-enters g c =
    let old = c.args.self.now in
    crew_enters g.S.FileSystem g.P.ProcessReadDir g.C.ReadDirState.Clone g.C.DirEntryState.Default (job_of old) (next_address old) outcome c.read_next.result

pub returns-clause-tells : goal.returns-clause-tells
returns-clause-tells g c = tells_missed c.read_next.result
