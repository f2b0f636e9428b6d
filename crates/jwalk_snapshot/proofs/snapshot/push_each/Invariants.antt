use Rattle.std.proofs.Common.{◌≡◌, ◌++◌, map, flat_map, string_bytes, drop}
use Rattle.std.specs.List.{AllByRecursion}
use Rattle.jwalk_snapshot.specs.Text.{folder_of, folder_text, FolderFits}
use Rattle.jwalk_snapshot.proofs.snapshot.push_each.Given as goal

-- what is written and the text of what is left are all, and if what is left fits, all does
abbrev pub invariant-loop-block : goal.invariant-loop-block
invariant-loop-block l =
    (string_bytes l.out ++ flat_map folder_text (map folder_of (drop l.block-index l.blocks)) ≡ string_bytes l.fn.out ++ flat_map folder_text (map folder_of l.blocks))
    × (AllByRecursion FolderFits (map folder_of (drop l.block-index l.blocks)) → AllByRecursion FolderFits (map folder_of l.blocks))
