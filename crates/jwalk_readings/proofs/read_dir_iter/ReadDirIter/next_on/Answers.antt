use Rattle.jwalk_readings.specs.ReadDirIter.{readings_by}
use Rattle.jwalk_readings.proofs.PreparedReadFacts.{prepared_gives, not_prepared_gives}
use Rattle.jwalk_readings.proofs.read_dir_iter.ReadDirIter.next_on.Goals as goal

pub returns-in-Ok : goal.returns-in-Ok
returns-in-Ok g c = prepared_gives (readings_by g.S.FileSystem g.P.ProcessReadDir g.C.ReadDirState.Clone g.C.DirEntryState.Default g.L.Readers) c.args.self.now c.prepare_on.new.self c.next_or_stop.new.self tt c.next_or_stop.result c.in-Ok.ensures.steps c.next_or_stop.ensures

pub returns-in-Err : goal.returns-in-Err
returns-in-Err g c = not_prepared_gives (readings_by g.S.FileSystem g.P.ProcessReadDir g.C.ReadDirState.Clone g.C.DirEntryState.Default g.L.Readers) c.args.self.now c.prepare_on.new.self c.prepare_on.new.self _ c.memory.result c.memory.ensures c.in-Err.ensures.steps
