use Rattle.std.proofs.Common.{Ok, refl}
use Rattle.jwalk_job.specs.Entry.{entry}
use Rattle.jwalk_readings.specs.ReadDirIter.{readings_by}
use Rattle.jwalk_readings.proofs.GivesFacts.{gives_asked, lost_asked}
use Rattle.jwalk_readings.proofs.read_dir_iter.ReadDirIter.next_of.Goals as goal

pub returns : goal.returns
returns g c = gives_asked (readings_by g.S.FileSystem g.P.ProcessReadDir g.C.ReadDirState.Clone g.C.DirEntryState.Default g.L.Readers) c.args.self.now c.next_or_stop.new.self (Ok (entry c.args.found.now)) c.next_or_stop.result (c.if-not-is_next.ensures.below refl) c.next_or_stop.ensures

pub returns-then-not-is_next : goal.returns-then-not-is_next
returns-then-not-is_next g c =
    let is = c.if-not-is_next.ensures in
    let stopped = c.stop.ensures in
    lost_asked (readings_by g.S.FileSystem g.P.ProcessReadDir g.C.ReadDirState.Clone g.C.DirEntryState.Default g.L.Readers) c.args.self.now c.stop.new.self (Ok (entry c.args.found.now)) c.lost.result c.lost.ensures (is.tells refl) (is.wide refl) (is.some refl) (is.other refl) stopped.base stopped.most stopped.steady stopped.to_read stopped.read_ahead
