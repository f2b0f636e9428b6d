use Rattle.std.proofs.Common.{◌≡◌, map, drop}
use Rattle.std.specs.List.{list_all}
use Rattle.jwalk_snapshot.specs.Text.{folder_of, is_folder}
use Rattle.jwalk_snapshot.proofs.snapshot.are_blocks.Given as goal

abbrev pub invariant-loop-block : goal.invariant-loop-block
invariant-loop-block l = list_all is_folder (map folder_of (drop l.block-index l.blocks)) ≡ list_all is_folder (map folder_of l.blocks)
