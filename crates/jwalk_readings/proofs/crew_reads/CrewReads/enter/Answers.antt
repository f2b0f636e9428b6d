use Rattle.std.proofs.Common.{◌∙◌, ◌++◌, map, sym, ap}
use Rattle.jwalk_order.specs.Frontier.{passed}
use Rattle.jwalk_job.specs.ReadDirSpec.{spec}
use Rattle.jwalk_job.specs.ReadDir.{outcome}
use Rattle.jwalk_readings.specs.CrewReads.{job_of, to_read, next_address, most_ahead}
use Rattle.jwalk_readings.proofs.CrewFacts.{told_reading}
use Rattle.jwalk_readings.proofs.CrewSteadyFacts.{as_many_found, front_steady}
use Rattle.jwalk_readings.proofs.ResultFacts.{none_ok, none_on_ok, refused_not_lost, passed_not_lost}
use Rattle.jwalk_readings.proofs.crew_reads.CrewReads.enter.Goals as goal

pub returns-in_err-outcome : goal.returns-in_err-outcome
returns-in_err-outcome g c =
    let told = c.from_residual in
    record {
      job = c.read.ensures.job;
      most = c.read.ensures.most;
      reading = none_ok _ told.result told.ensures.0;
      stacks = none_ok _ told.result told.ensures.0;
      passes = none_ok _ told.result told.ensures.0;
      value = none_ok _ told.result told.ensures.0;
      steady = none_on_ok _ told.result told.ensures.0;
      comes = passed_not_lost _ c.in_err-outcome.field-0.0 told.result told.ensures.1 (c.in_err-outcome.ensures.comes (to_read c.args.self.now));
    }

pub returns-in_err-below : goal.returns-in_err-below
returns-in_err-below g c =
    let told = c.from_residual-in_err-below in
    record {
      job = c.read.ensures.job;
      most = c.read.ensures.most;
      reading = none_ok _ told.result told.ensures.0;
      stacks = none_ok _ told.result told.ensures.0;
      passes = none_ok _ told.result told.ensures.0;
      value = none_ok _ told.result told.ensures.0;
      steady = none_on_ok _ told.result told.ensures.0;
      comes = refused_not_lost _ told.result told.ensures.1;
    }

pub returns-then-len-count-clause-comes : goal.returns-then-len-count-clause-comes
returns-then-len-count-clause-comes g c = λ given steady.
    let old = c.args.self.now in
    let found = as_many_found g.C.ReadDirState.Clone (outcome c.in_ok-outcome.outcome) c.in_ok-below.below.items c.len.result (c.len.ensures ∙ c.in_ok-below.below.ok.0) c.in_ok-below.ensures in
    c.if-len-count.true (found ∙ sym (c.in_ok-outcome.ensures.steadily.count_is (to_read old) given steady))

pub returns-in_err-put_in_front : goal.returns-in_err-put_in_front
returns-in_err-put_in_front g c =
    let told = c.from_residual-in_err-put_in_front in
    record {
      job = ap job_of c.put_in_front.ensures.others ∙ c.read.ensures.job;
      most = ap (most_ahead g.L.Readers) c.put_in_front.ensures.others ∙ c.read.ensures.most;
      reading = none_ok _ told.result told.ensures.0;
      stacks = none_ok _ told.result told.ensures.0;
      passes = none_ok _ told.result told.ensures.0;
      value = none_ok _ told.result told.ensures.0;
      steady = none_on_ok _ told.result told.ensures.0;
      comes = refused_not_lost _ told.result told.ensures.1;
    }

pub returns : goal.returns
returns g c =
    let old = c.args.self.now in
    let read = c.in_ok-outcome.ensures in
    let front = map spec c.in_ok-below.below.items in
    let job = ap job_of c.put_in_front.ensures.others ∙ c.read.ensures.job in
    let found = as_many_found g.C.ReadDirState.Clone (outcome c.in_ok-outcome.outcome) c.in_ok-below.below.items c.len.result (c.len.ensures ∙ c.in_ok-below.below.ok.0) c.in_ok-below.ensures in
    let left = c.in_ok-put_in_front.ensures.to_read ∙ ap (λ l. front ++ l) c.read.ensures.to_read in
    record {
      job = job;
      most = ap (most_ahead g.L.Readers) c.put_in_front.ensures.others ∙ c.read.ensures.most;
      reading = told_reading g.S.FileSystem g.P.ProcessReadDir g.C.ReadDirState.Clone g.C.DirEntryState.Default (job_of old) (spec c.args.of) (outcome c.in_ok-outcome.outcome) (next_address old) read.told;
      stacks = record { front = front; left = left; clones = c.in_ok-below.ensures };
      passes = ap (λ it. it.matcher) c.put_in_front.ensures.others ∙ read.passed ∙ ap (passed old.matcher) (sym c.if-len-count.false ∙ found);
      value = read.steadily.value (to_read old);
      steady = λ given steady. front_steady g.S.FileSystem g.P.ProcessReadDir g.C.ReadDirState.Clone g.C.DirEntryState.Default g.L.Readers old c.read.new.self c.put_in_front.new.self front given job c.put_in_front.ensures.others left
          (read.steadily.steady (to_read old) front c.in_ok-below.ensures given steady);
      comes = tt;
    }
