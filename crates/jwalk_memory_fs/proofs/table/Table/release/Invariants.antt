use Rattle.std.proofs.Common.{◌+◌, ◌-◌, ◌≤◌, length}
use Rattle.std.specs.Prelude.{vec_capacity}
use Rattle.jwalk_memory_fs.specs.Table.{branches, free_places, IsReleasing, size}
use Rattle.jwalk_memory_fs.proofs.table.Table.release.Given as goal

-- each turn takes a child away or passes an empty directory
abbrev pub decreases-loop-next : goal.decreases-loop-next
decreases-loop-next g l = size (branches l.self) + (length (branches l.self) - l.next)

abbrev pub invariant-loop-next : goal.invariant-loop-next
invariant-loop-next g l =
    IsReleasing (branches l.fn.self) (branches l.self) (free_places l.self) l.next
    × (l.next ≤ length (free_places l.self))
    × (length (branches l.fn.self) ≤ vec_capacity l.self.free + 1)
