use Rattle.std.proofs.Common.{None, map, reverse, sym, subst}
use Rattle.std.specs.Arc.{arc_value}
use Rattle.jwalk_job.specs.ReadDirSpec.{spec}
use Rattle.jwalk_readings.specs.CrewReads.{IsSteadyOver}
use Rattle.jwalk_readings.proofs.CrewSteadyFacts.{nothing_steady}
use Rattle.jwalk_readings.proofs.crew_reads.CrewReads.new.Goals as goal

pub returns-in-Ok-new-clause-steady : goal.returns-in-Ok-new-clause-steady
returns-in-Ok-new-clause-steady g c = λ given steady.
    subst (λ l. IsSteadyOver g.S.FileSystem g.P.ProcessReadDir g.C.ReadDirState.Clone g.C.DirEntryState.Default g.L.Readers (arc_value c.in-Ok-new.job) None c.in-Ok.matcher (map spec (reverse l)) given) (sym c.new-in-Ok-new.ensures.items)
    (nothing_steady g.S.FileSystem g.P.ProcessReadDir g.C.ReadDirState.Clone g.C.DirEntryState.Default g.L.Readers (arc_value c.in-Ok-new.job) c.in-Ok.matcher given steady)
