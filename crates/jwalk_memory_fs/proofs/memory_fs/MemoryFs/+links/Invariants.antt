use Rattle.std.proofs.Common.{◌≡◌, ◌≤◌, ◌+◌, ◌*◌, Bool, List, ◌++◌}
use Rattle.jwalk_model.specs.Paths.{Component}
use Rattle.jwalk_model.specs.PathTexts.{components_left}
use Rattle.jwalk_memory_fs.specs.Hit.{hit_seen}
use Rattle.jwalk_memory_fs.specs.Branch.{reached, IsWithin}
use Rattle.jwalk_memory_fs.specs.Table.{branches}
use Rattle.jwalk_memory_fs.proofs.memory_fs.MemoryFs.+links.Given as goal

-- no link is followed twice with the same number left
abbrev pub decreases-walk : goal.decreases-walk
decreases-walk g l = 2 * l.links + 1

abbrev pub decreases-followed : goal.decreases-followed
decreases-followed g l = 2 * l.links

-- the components that are left lead on from the hit as all of them do from the first one
abbrev pub invariant-walk-loop-component : goal.invariant-walk-loop-component
invariant-walk-loop-component g l =
    IsWithin (branches l.self.table) (hit_seen l.hit)
    × (l.left ≤ l.links)
    × ((follow : Bool) (rest : List Component)
    → reached (branches l.self.table) follow l.left (hit_seen l.hit) (components_left l.component-iterator ++ rest)
    ≡ reached (branches l.self.table) follow l.links (hit_seen l.from) (components_left l.fn.components ++ rest))
