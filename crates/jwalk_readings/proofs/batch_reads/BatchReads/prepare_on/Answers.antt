use Rattle.std.proofs.Common.{refl, sym, subst}
use Rattle.std.specs.Prelude.{All}
use Rattle.jwalk_readings.specs.Reads.{IsMade, IsSteadyWith}
use Rattle.jwalk_readings.specs.BatchReads.{early_on}
use Rattle.jwalk_readings.proofs.BatchPrepareFacts.{made_prepared, steady_prepared, stopped_prepared, nothing_prepared, some_unprepared, ready_prepared, reads_prepared}
use Rattle.jwalk_readings.proofs.batch_reads.BatchReads.prepare_on.Goals as goal

pub invariant_of-self : goal.invariant_of-self
invariant_of-self g c =
    let w = c.self.inside.walk in
    let now = c.prepare_on.new.self in
    subst (λ j. All (IsMade g.C.ReadDirState.Clone j) (early_on now.board)) (sym c.prepare_on.ensures.plan)
    (made_prepared g.S.FileSystem g.P.ProcessReadDir g.C.ReadDirState.Clone g.C.DirEntryState.Default w.plan w.width w.board now.board c.self.invariant c.prepare_on.result c.prepare_on.ensures.prepares)

pub returns-clause-wide : goal.returns-clause-wide
returns-clause-wide g c = rw (← c.self.view_is, ← c.prepare_on.ensures.width) c.prepare_on.ensures.wide

pub returns-clause-stopped : goal.returns-clause-stopped
returns-clause-stopped g c =
    let w = c.self.inside.walk in
    stopped_prepared g.S.FileSystem g.P.ProcessReadDir g.C.ReadDirState.Clone g.C.DirEntryState.Default w.plan w.width w.board c.prepare_on.new.self.board c.self.invariant c.prepare_on.result c.prepare_on.ensures.prepares

pub returns-clause-nothing_ahead : goal.returns-clause-nothing_ahead
returns-clause-nothing_ahead g c =
    let w = c.self.inside.walk in
    nothing_prepared g.S.FileSystem g.P.ProcessReadDir g.C.ReadDirState.Clone g.C.DirEntryState.Default w.plan w.width w.board c.prepare_on.new.self.board c.self.invariant c.prepare_on.result c.prepare_on.ensures.prepares

pub returns-clause-some : goal.returns-clause-some
returns-clause-some g c =
    let w = c.self.inside.walk in
    rw (← c.self.view_is) (some_unprepared g.S.FileSystem g.P.ProcessReadDir g.C.ReadDirState.Clone g.C.DirEntryState.Default w.plan w.width w.board c.prepare_on.new.self.board c.self.invariant c.prepare_on.result c.prepare_on.ensures.prepares)

pub returns-clause-steady : goal.returns-clause-steady
returns-clause-steady g c =
    let w = c.self.inside.walk in
    let now = c.prepare_on.new.self in
    let stays = steady_prepared g.S.FileSystem g.P.ProcessReadDir g.C.ReadDirState.Clone g.C.DirEntryState.Default w.plan w.width w.board now.board c.self.invariant c.prepare_on.result c.prepare_on.ensures.prepares in
    rw (← c.self.view_is)
    (λ given steady. subst (λ j. IsSteadyWith g.S.FileSystem g.P.ProcessReadDir g.C.ReadDirState.Clone g.C.DirEntryState.Default j (early_on now.board) given) (sym c.prepare_on.ensures.plan) (stays given steady))

pub returns-clause-prepared : goal.returns-clause-prepared
returns-clause-prepared g c =
    let w = c.self.inside.walk in
    rw (← c.self.view_is) (reads_prepared g.S.FileSystem g.P.ProcessReadDir g.C.ReadDirState.Clone g.C.DirEntryState.Default w.plan w.width _ _ c.prepare_on.result refl refl c.prepare_on.ensures.plan c.prepare_on.ensures.width c.prepare_on.ensures.prepares)

pub returns-clause-ready : goal.returns-clause-ready
returns-clause-ready g c =
    let w = c.self.inside.walk in
    ready_prepared g.S.FileSystem g.P.ProcessReadDir g.C.ReadDirState.Clone g.C.DirEntryState.Default w.plan w.width w.board c.prepare_on.new.self.board c.self.invariant c.prepare_on.result c.prepare_on.ensures.prepares
