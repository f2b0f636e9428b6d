use Rattle.std.proofs.Common.{◌≡◌, true, false, refl, sym, subst}
use Rattle.jwalk_job.specs.Job.{IsSteadyJob}
use Rattle.jwalk_readings.proofs.PreparedByFacts.{same_batches, same_crews}
use Rattle.jwalk_readings.proofs.read_dir_iter.ReadDirIter.stop.Goals as goal

pub returns-in-Walk : goal.returns-in-Walk
returns-in-Walk g c =
    let stopped = c.stop.ensures in
    rw c.in-Walk.is (record { base = same_batches g.S.FileSystem g.P.ProcessReadDir g.C.ReadDirState.Clone g.C.DirEntryState.Default g.L.Readers c.in-Walk.walk c.stop.new.self stopped.job stopped.width; to_read = stopped.to_read; read_ahead = stopped.read_ahead; frontier = λ alone. stopped.frontier; most = refl; steady = stopped.steady })

pub returns-in-CrewWalk : goal.returns-in-CrewWalk
returns-in-CrewWalk g c =
    let stopped = c.stop-in-CrewWalk.ensures in
    rw c.in-CrewWalk.is (record { base = same_crews g.S.FileSystem g.P.ProcessReadDir g.C.ReadDirState.Clone g.C.DirEntryState.Default g.L.Readers c.in-CrewWalk.reads c.stop-in-CrewWalk.new.self stopped.job; to_read = stopped.to_read; read_ahead = refl; frontier = λ alone. absurd (let no : true ≡ false = alone in cc); most = stopped.most; steady = λ value steady. stopped.steady value (subst (λ j. IsSteadyJob g.S.FileSystem g.P.ProcessReadDir g.C.ReadDirState.Clone g.C.DirEntryState.Default j value) (sym stopped.job) steady.steady) })
