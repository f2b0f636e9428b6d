use Rattle.std.proofs.Common.{◌∙◌, map, reverse, sym, subst, arith}
use Rattle.jwalk_job.specs.ReadDirSpec.{spec}
use Rattle.jwalk_job.specs.Job.{IsSteadyJob}
use Rattle.jwalk_readings.specs.CrewReads.{job_of, IsSteadyOver}
use Rattle.jwalk_readings.proofs.StackFacts.{popped}
use Rattle.jwalk_readings.proofs.crew_reads.CrewReads.skip_next.Goals as goal

pub returns-in-Ok-clause-steady : goal.returns-in-Ok-clause-steady
returns-in-Ok-clause-steady g c = λ given steady.
    let old = c.args.self.now in
    let took = popped spec old.unread.items c.pop.new.self.items c.in-Some._of c.in-Some.ensures.items in
    c.in-Ok.ensures.steady (spec c.in-Some._of) given (subst (λ l. IsSteadyOver g.S.FileSystem g.P.ProcessReadDir g.C.ReadDirState.Clone g.C.DirEntryState.Default g.L.Readers (job_of old) old.readers old.matcher l given) took steady)

pub returns-clause-steady : goal.returns-clause-steady
returns-clause-steady g c = λ given steady.
    c.stop.ensures.steady given (subst (λ j. IsSteadyJob g.S.FileSystem g.P.ProcessReadDir g.C.ReadDirState.Clone g.C.DirEntryState.Default j given) (sym (c.stop.ensures.job ∙ c.pass_address.ensures.job)) steady.steady)
