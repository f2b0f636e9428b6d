use Rattle.std.proofs.Common.{map, take}
use Rattle.jwalk_snapshot.specs.Text.{folder_of}
use Rattle.jwalk_snapshot_index.specs.Records.{IsIndexOf}
use Rattle.jwalk_snapshot_index.proofs.records.index_of.Given as goal

abbrev pub invariant-loop-block : goal.invariant-loop-block
invariant-loop-block l = IsIndexOf l.root (map folder_of (take l.block-index l.blocks)) l.index
