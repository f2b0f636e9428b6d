use Rattle.std.proofs.Common.{length}
use Rattle.tally_run.proofs.walks.Walks.+count_each.Given as goal

-- each half is shorter
abbrev pub decreases-count_each : goal.decreases-count_each
decreases-count_each g l = length l.roots.now
