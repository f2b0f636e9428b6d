use Rattle.jwalk_readings.proofs.PreparedByFacts.{same_batches}
use Rattle.jwalk_readings.proofs.read_dir_iter.ReadDirIter.begin.Goals as goal

pub returns : goal.returns
returns g c =
    let begun = c.begin.ensures in
    rw c.in-Walk.is (record { base = same_batches g.S.FileSystem g.P.ProcessReadDir g.C.ReadDirState.Clone g.C.DirEntryState.Default g.L.Readers c.in-Walk.walk c.begin.new.self begun.job begun.width; to_read = begun.to_read; read_ahead = begun.read_ahead; stopped = begun.stopped; nothing_ahead = begun.nothing_ahead })
