use Rattle.jwalk_model.specs.Held.{pair_up, weight}
use Rattle.jwalk_iter.specs.Entries.{items_of, unread_of, max_depth_of}
use Rattle.jwalk_readings.specs.ReadDirIter.{readings_by}
use Rattle.jwalk_iter.proofs.PassFacts.{PassedOver}
use Rattle.jwalk_iter.proofs.entries.on_threads.DirEntryIter+C+S+P+A+L.next_kept_on.Given as goal

-- what was passed over is left out
abbrev pub invariant-loop-passed : goal.invariant-loop-passed
invariant-loop-passed g l = PassedOver (readings_by g.S.FileSystem g.P.ProcessReadDir g.C.ReadDirState.Clone g.C.DirEntryState.Default g.L.Readers) l.fn.self l.self

abbrev pub decreases-loop-passed : goal.decreases-loop-passed
decreases-loop-passed g l = weight (max_depth_of (readings_by g.S.FileSystem g.P.ProcessReadDir g.C.ReadDirState.Clone g.C.DirEntryState.Default g.L.Readers) l.self) (pair_up (items_of l.self) (unread_of (readings_by g.S.FileSystem g.P.ProcessReadDir g.C.ReadDirState.Clone g.C.DirEntryState.Default g.L.Readers) l.self))
