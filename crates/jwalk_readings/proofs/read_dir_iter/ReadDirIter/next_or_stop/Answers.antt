use Rattle.std.proofs.Common.{◌≡◌, sym, subst}
use Rattle.jwalk_model.specs.Error.{memory}
use Rattle.jwalk_readings.specs.Gives.{source_of}
use Rattle.jwalk_readings.specs.ReadDirIter.{readings_by}
use Rattle.jwalk_readings.proofs.KnownFacts.{told_refused}
use Rattle.jwalk_readings.proofs.GivesFacts.{gives_read, gives_stopped}
use Rattle.jwalk_readings.proofs.read_dir_iter.ReadDirIter.next_or_stop.Goals as goal

pub returns-in-Ok : goal.returns-in-Ok
returns-in-Ok g c =
    let read = c.read_next.ensures in
    gives_read (readings_by g.S.FileSystem g.P.ProcessReadDir g.C.ReadDirState.Clone g.C.DirEntryState.Default g.L.Readers) c.args.self.now c.read_next.new.self read.base read.ahead read.most read.steady c.in-Ok.read c.in-Ok.ensures.next c.in-Ok.ensures.enters c.in-Ok.ensures.passes

pub returns-in-Err : goal.returns-in-Err
returns-in-Err g c =
    let read = c.read_next.ensures in
    gives_stopped (readings_by g.S.FileSystem g.P.ProcessReadDir g.C.ReadDirState.Clone g.C.DirEntryState.Default g.L.Readers) c.args.self.now c.read_next.new.self read.base read.ahead read.most read.steady (λ f. f ≡ memory) c.error_of.result (subst (source_of (readings_by g.S.FileSystem g.P.ProcessReadDir g.C.ReadDirState.Clone g.C.DirEntryState.Default g.L.Readers) c.args.self.now).tells (sym c.error_of.ensures) c.in-Err.ensures.tells) (told_refused _ c.in-Err.missed _ c.error_of.ensures c.in-Err.ensures.comes) c.in-Err.ensures.some c.in-Err.ensures.stopped c.in-Err.ensures.nothing_ahead
