use Rattle.std.proofs.Common.{◌≡◌, ◌++◌, map, take}
use Rattle.jwalk_snapshot.specs.Text.{folder_of}
use Rattle.since_parts.specs.Saved.{dir_paths, path_in}
use Rattle.since_parts.proofs.saved.are_below.Given as goal

-- those so far, and then those that are left
abbrev pub invariant-loop-entry : goal.invariant-loop-entry
invariant-loop-entry l = map path_in (map folder_of l.fn.blocks) ≡ dir_paths (take l.entry-index l.entries) ++ map path_in (map folder_of l.left)
