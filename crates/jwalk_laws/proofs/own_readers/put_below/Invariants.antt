use Rattle.std.proofs.Common.{◌≡◌, ◌++◌, List, map, length}
use Rattle.jwalk.specs.jwalk_order.Addressed.{numbered}
use Rattle.jwalk.specs.jwalk_order.IndexPath.{address}
use Rattle.jwalk.specs.jwalk_job.ReadDirSpec.{spec}
use Rattle.jwalk_laws.specs.OwnReaders.{stacked}
use Rattle.jwalk_laws.proofs.own_readers.put_below.Given as goal

-- the last of the directories lie on the stack
abbrev pub invariant-loop-child : goal.invariant-loop-child
invariant-loop-child l =
    (later : List _)
    × (l.fn.below.items ≡ l.below.items ++ later)
    × (stacked l.waiting.items ≡ numbered (address l.above) (length l.below.items) (map spec later) ++ stacked l.fn.waiting.items)

-- each turn takes one of them
abbrev pub decreases-loop-child : goal.decreases-loop-child
decreases-loop-child l = length l.below.items
