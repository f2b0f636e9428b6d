use Rattle.std.specs.Io.KnownBytes.{append_known}
use Rattle.jwalk_job.specs.Job.{callback}
use Rattle.jwalk.specs.DirEntryIter.{job_of, weight_of, Answers}
use Rattle.walk_run.proofs.PrintFacts.{PrintsSoFar}
use Rattle.walk_run.proofs.walk_printed.print_walked.Given as goal

abbrev pub invariant-loop-answer : goal.invariant-loop-answer
invariant-loop-answer g l =
    record {
      lawful : g.P.ProcessReadDir.IsLawful (callback (job_of l.walk));
      so_far : PrintsSoFar (Answers g.S.FileSystem g.P.ProcessReadDir g.C.ReadDirState.Clone g.C.DirEntryState.Default g.L.Readers) l.fn.walk l.walk (g.W.Write.contents l.fn.out) (append_known (g.W.Write.contents l.out) l.gathered.bytes.items) l.clean;
    }

abbrev pub decreases-loop-answer : goal.decreases-loop-answer
decreases-loop-answer g l = weight_of l.walk
