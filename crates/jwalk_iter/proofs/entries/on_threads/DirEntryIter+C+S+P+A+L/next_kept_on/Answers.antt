use Rattle.jwalk_readings.specs.ReadDirIter.{readings_by}
use Rattle.jwalk_iter.proofs.PassFacts.{none_passed_over, one_passed_over, passes_lighter, goes_to_answer, goes_to_end, goes_to_missed}
use Rattle.jwalk_iter.proofs.entries.on_threads.DirEntryIter+C+S+P+A+L.next_kept_on.Goals as goal

pub loop-passed-init : goal.loop-passed-init
loop-passed-init g c = none_passed_over (readings_by g.S.FileSystem g.P.ProcessReadDir g.C.ReadDirState.Clone g.C.DirEntryState.Default g.L.Readers) c.args.self.now

pub loop-passed-smaller : goal.loop-passed-smaller
loop-passed-smaller g c = passes_lighter (readings_by g.S.FileSystem g.P.ProcessReadDir g.C.ReadDirState.Clone g.C.DirEntryState.Default g.L.Readers) c.loop-passed.self c.pass_on.new.self c.in-Some.passed (rw c.in-Some.is at c.in_ok-passed.ensures)

pub loop-passed-preserved : goal.loop-passed-preserved
loop-passed-preserved g c = one_passed_over (readings_by g.S.FileSystem g.P.ProcessReadDir g.C.ReadDirState.Clone g.C.DirEntryState.Default g.L.Readers) c.args.self.now c.loop-passed.self c.pass_on.new.self c.in-Some.passed c.loop-passed.invariant (rw c.in-Some.is at c.in_ok-passed.ensures) c.in_default-unless_too_shallow.ensures.none

pub returns-in-Some-unless_too_shallow : goal.returns-in-Some-unless_too_shallow
returns-in-Some-unless_too_shallow g c =
    let told = c.in-Some-unless_too_shallow.ensures.some in
    rw told.0 (goes_to_answer (readings_by g.S.FileSystem g.P.ProcessReadDir g.C.ReadDirState.Clone g.C.DirEntryState.Default g.L.Readers) c.args.self.now c.loop-passed.self c.pass_on.new.self c.in-Some.passed c.loop-passed.invariant (rw c.in-Some.is at c.in_ok-passed.ensures) told.1)

pub returns : goal.returns
returns g c = goes_to_end (readings_by g.S.FileSystem g.P.ProcessReadDir g.C.ReadDirState.Clone g.C.DirEntryState.Default g.L.Readers) c.args.self.now c.loop-passed.self c.pass_on.new.self c.loop-passed.invariant (rw c.in_default.is at c.in_ok-passed.ensures)

pub returns-in_err-passed : goal.returns-in_err-passed
returns-in_err-passed g c =
    let told = c.from_residual in
    goes_to_missed (readings_by g.S.FileSystem g.P.ProcessReadDir g.C.ReadDirState.Clone g.C.DirEntryState.Default g.L.Readers) c.args.self.now c.loop-passed.self c.pass_on.new.self c.in_err-passed.field-0.0 told.result told.ensures.0 told.ensures.1 c.loop-passed.invariant c.in_err-passed.ensures
