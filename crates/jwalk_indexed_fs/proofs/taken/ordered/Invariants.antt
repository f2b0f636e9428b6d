use Rattle.std.proofs.Common.{◌≡◌, map, take}
use Rattle.jwalk_indexed_fs.specs.Records.{list_kept}
use Rattle.jwalk_indexed_fs.specs.Taken.{item_typed}
use Rattle.jwalk_indexed_fs.proofs.taken.ordered.Given as goal

-- the names so far
abbrev pub invariant-loop-named : goal.invariant-loop-named
invariant-loop-named g l = list_kept l.kept ≡ map item_typed (take l.named-index l.named-items)
