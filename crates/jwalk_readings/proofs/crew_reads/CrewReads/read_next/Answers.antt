use Rattle.std.proofs.Common.{◌∙◌, map, reverse, sym, subst, arith}
use Rattle.jwalk_job.specs.ReadDirSpec.{spec}
use Rattle.jwalk_job.specs.Job.{IsSteadyJob}
use Rattle.jwalk_readings.specs.CrewReads.{job_of, IsSteadyOver}
use Rattle.jwalk_readings.proofs.StackFacts.{popped}
use Rattle.jwalk_readings.proofs.ResultFacts.{fewer_not_lost}
use Rattle.jwalk_readings.proofs.crew_reads.CrewReads.read_next.Goals as goal

pub returns-in-Ok-clause-next : goal.returns-in-Ok-clause-next
returns-in-Ok-clause-next g c =
    let old = c.args.self.now in
    let took = popped spec old.unread.items c.pop.new.self.items c.in-Some.of c.in-Some.ensures.items in
    let reading = c.in-Ok.ensures.reading in
    record {
      first = spec c.in-Some.of;
      rest = map spec (reverse c.pop.new.self.items);
      took = took;
      reading = record {
        lawful = reading.lawful;
        few = reading.few;
        value = record { told = reading.value; value = λ given steady. c.in-Ok.ensures.value given (subst (λ l. IsSteadyOver g.S.FileSystem g.P.ProcessReadDir g.C.ReadDirState.Clone g.C.DirEntryState.Default g.L.Readers (job_of old) old.readers old.matcher l given) took steady) };
      };
      stacks = c.in-Ok.ensures.stacks;
    }

pub returns-in-Ok-clause-most : goal.returns-in-Ok-clause-most
returns-in-Ok-clause-most g c = omega (arith, c.enter.ensures.most)

pub returns-in-Err-clause-most : goal.returns-in-Err-clause-most
returns-in-Err-clause-most g c = omega (arith, c.stop.ensures.most)

pub returns-in-Ok-clause-steady : goal.returns-in-Ok-clause-steady
returns-in-Ok-clause-steady g c = λ given steady.
    let old = c.args.self.now in
    let took = popped spec old.unread.items c.pop.new.self.items c.in-Some.of c.in-Some.ensures.items in
    c.in-Ok.ensures.steady given (subst (λ l. IsSteadyOver g.S.FileSystem g.P.ProcessReadDir g.C.ReadDirState.Clone g.C.DirEntryState.Default g.L.Readers (job_of old) old.readers old.matcher l given) took steady)

pub returns-in-Err-clause-steady : goal.returns-in-Err-clause-steady
returns-in-Err-clause-steady g c = λ given steady.
    c.stop.ensures.steady given (subst (λ j. IsSteadyJob g.S.FileSystem g.P.ProcessReadDir g.C.ReadDirState.Clone g.C.DirEntryState.Default j given) (sym (c.stop.ensures.job ∙ c.enter.ensures.job)) steady.steady)

pub returns-in-Err-clause-comes : goal.returns-in-Err-clause-comes
returns-in-Err-clause-comes g c =
    let old = c.args.self.now in
    let took = popped spec old.unread.items c.pop.new.self.items c.in-Some.of c.in-Some.ensures.items in
    fewer_not_lost _ _ c.in-Err.missed (λ given steady. subst (λ l. IsSteadyOver g.S.FileSystem g.P.ProcessReadDir g.C.ReadDirState.Clone g.C.DirEntryState.Default g.L.Readers (job_of old) old.readers old.matcher l given) took steady) c.in-Err.ensures.comes
