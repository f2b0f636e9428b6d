-- Why a file has no records for a root.
use Rattle.std.specs.Prelude.{Bool, true, false}
use Rattle.jwalk_snapshot.specs.declared.error.SnapshotError.TheVariants.{Memory}
use Rattle.jwalk_snapshot_index.specs.declared.error.IndexError.{IndexError}
use Rattle.jwalk_snapshot_index.specs.declared.error.IndexError.TheVariants.{Snapshot, OtherRoot}

-- whether memory ran out
abbrev pub is_memory : IndexError → Bool
is_memory (Snapshot Memory) = true
is_memory (Snapshot _) = false
is_memory OtherRoot = false
