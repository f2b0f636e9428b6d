use Rattle.std.proofs.Common.{length}
use Rattle.seek_search.proofs.search.Search.+below_each.Given as goal

-- each half is shorter
abbrev pub decreases-below_each : goal.decreases-below_each
decreases-below_each g l = length l.roots.now
