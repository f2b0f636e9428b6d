use Rattle.std.proofs.Common.{◌-◌}
use Rattle.jwalk_job.specs.Job.{callback}
use Rattle.jwalk_iter.specs.DirEntryIter.{job_of}
use Rattle.jwalk_readings.specs.ReadDirIter.{readings_by}
use Rattle.jwalk_iter.proofs.FillFacts.{Filled}
use Rattle.jwalk_iter.proofs.entries.on_threads.DirEntryIter+C+S+P+A+L.fill_on.Given as goal

-- what was filled in so far
abbrev pub invariant-loop-filled : goal.invariant-loop-filled
invariant-loop-filled g l =
    record {
      lawful : g.P.ProcessReadDir.IsLawful (callback (job_of l.self));
      sofar : Filled (readings_by g.S.FileSystem g.P.ProcessReadDir g.C.ReadDirState.Clone g.C.DirEntryState.Default g.L.Readers) l.n l.fn.self l.fn.out.items l.filled l.out.items l.self;
    }

abbrev pub decreases-loop-filled : goal.decreases-loop-filled
decreases-loop-filled g l = l.n - l.filled
