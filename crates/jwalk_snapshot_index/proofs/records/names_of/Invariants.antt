use Rattle.std.proofs.Common.{◌≡◌, map, take}
use Rattle.jwalk_snapshot.specs.Text.{entry_of}
use Rattle.jwalk_snapshot_index.specs.Records.{name_kept}
use Rattle.jwalk_snapshot_index.proofs.records.names_of.Given as goal

abbrev pub invariant-loop-name : goal.invariant-loop-name
invariant-loop-name l = l.kept ≡ map name_kept (map entry_of (take l.name-index l.names))
