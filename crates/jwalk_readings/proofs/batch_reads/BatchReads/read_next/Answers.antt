use Rattle.std.proofs.Common.{sym, subst}
use Rattle.std.specs.Prelude.{All}
use Rattle.jwalk_readings.specs.Reads.{IsMade, IsSteadyWith}
use Rattle.jwalk_readings.specs.BatchReads.{early_on}
use Rattle.jwalk_readings.proofs.BatchStepFacts.{made_after, ahead_after, stopped_after, nothing_after, some_before, steady_after, next_after, enters_after, passes_after}
use Rattle.jwalk_readings.proofs.batch_reads.BatchReads.read_next.Goals as goal

pub invariant_of-self : goal.invariant_of-self
invariant_of-self g c =
    let w = c.self.inside.walk in
    let now = c.read_next.new.self in
    subst (λ j. All (IsMade g.C.ReadDirState.Clone j) (early_on now.board)) (sym c.read_next.ensures.plan)
    (made_after g.S.FileSystem g.P.ProcessReadDir g.C.ReadDirState.Clone g.C.DirEntryState.Default w.plan w.width w.board now.board c.self.invariant c.read_next.result c.read_next.ensures.answers)

pub returns-clause-ahead : goal.returns-clause-ahead
returns-clause-ahead g c =
    let w = c.self.inside.walk in
    rw (← c.self.view_is) (ahead_after g.S.FileSystem g.P.ProcessReadDir g.C.ReadDirState.Clone g.C.DirEntryState.Default w.plan w.width w.board c.read_next.new.self.board c.self.invariant c.read_next.result c.read_next.ensures.answers)

pub returns-clause-stopped : goal.returns-clause-stopped
returns-clause-stopped g c =
    let w = c.self.inside.walk in
    stopped_after g.S.FileSystem g.P.ProcessReadDir g.C.ReadDirState.Clone g.C.DirEntryState.Default w.plan w.width w.board c.read_next.new.self.board c.self.invariant c.read_next.result c.read_next.ensures.answers

pub returns-clause-nothing_ahead : goal.returns-clause-nothing_ahead
returns-clause-nothing_ahead g c =
    let w = c.self.inside.walk in
    nothing_after g.S.FileSystem g.P.ProcessReadDir g.C.ReadDirState.Clone g.C.DirEntryState.Default w.plan w.width w.board c.read_next.new.self.board c.self.invariant c.read_next.result c.read_next.ensures.answers

pub returns-clause-some : goal.returns-clause-some
returns-clause-some g c =
    let w = c.self.inside.walk in
    rw (← c.self.view_is) (some_before g.S.FileSystem g.P.ProcessReadDir g.C.ReadDirState.Clone g.C.DirEntryState.Default w.plan w.width w.board c.read_next.new.self.board c.self.invariant c.read_next.result c.read_next.ensures.answers)

pub returns-clause-steady : goal.returns-clause-steady
returns-clause-steady g c =
    let w = c.self.inside.walk in
    let now = c.read_next.new.self in
    let stays = steady_after g.S.FileSystem g.P.ProcessReadDir g.C.ReadDirState.Clone g.C.DirEntryState.Default w.plan w.width w.board now.board c.self.invariant c.read_next.result c.read_next.ensures.answers in
    rw (← c.self.view_is)
    (λ given steady. subst (λ j. IsSteadyWith g.S.FileSystem g.P.ProcessReadDir g.C.ReadDirState.Clone g.C.DirEntryState.Default j (early_on now.board) given) (sym c.read_next.ensures.plan) (stays given steady))

pub returns-clause-next : goal.returns-clause-next
returns-clause-next g c =
    let w = c.self.inside.walk in
    rw (← c.self.view_is) (next_after g.S.FileSystem g.P.ProcessReadDir g.C.ReadDirState.Clone g.C.DirEntryState.Default w.plan w.width w.board c.read_next.new.self.board c.self.invariant c.read_next.result c.read_next.ensures.answers)

pub returns-clause-enters : goal.returns-clause-enters
returns-clause-enters g c =
    let w = c.self.inside.walk in
    rw (← c.self.view_is) (enters_after g.S.FileSystem g.P.ProcessReadDir g.C.ReadDirState.Clone g.C.DirEntryState.Default w.plan w.width w.board c.read_next.new.self.board c.self.invariant c.read_next.result c.read_next.ensures.answers)

pub returns-clause-passes : goal.returns-clause-passes
returns-clause-passes g c =
    let w = c.self.inside.walk in
    rw (← c.self.view_is) (passes_after g.S.FileSystem g.P.ProcessReadDir g.C.ReadDirState.Clone g.C.DirEntryState.Default w.plan w.width w.board c.read_next.new.self.board c.self.invariant c.read_next.result c.read_next.ensures.answers)
