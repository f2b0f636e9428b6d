use Rattle.std.proofs.Common.{None, map, reverse, sym, subst}
use Rattle.jwalk_job.specs.ReadDirSpec.{spec}
use Rattle.jwalk_readings.specs.CrewReads.{job_of, IsSteadyOver}
use Rattle.jwalk_readings.proofs.CrewSteadyFacts.{nothing_steady}
use Rattle.jwalk_readings.proofs.crew_reads.CrewReads.stop.Goals as goal

pub returns-clause-steady : goal.returns-clause-steady
returns-clause-steady g c = λ given steady.
    subst (λ l. IsSteadyOver g.S.FileSystem g.P.ProcessReadDir g.C.ReadDirState.Clone g.C.DirEntryState.Default g.L.Readers (job_of c.args.self.now) None c.args.self.now.matcher (map spec (reverse l)) given) (sym c.clear.ensures.items)
    (nothing_steady g.S.FileSystem g.P.ProcessReadDir g.C.ReadDirState.Clone g.C.DirEntryState.Default g.L.Readers (job_of c.args.self.now) c.args.self.now.matcher given steady)
