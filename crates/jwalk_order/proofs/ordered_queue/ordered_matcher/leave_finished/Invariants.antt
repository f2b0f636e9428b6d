use Rattle.std.proofs.Common.{◌≡◌, [], vec_len}
use Rattle.jwalk_order.specs.OrderedMatcher.{siblings, IsPaired}
use Rattle.jwalk_order.proofs.ordered_queue.ordered_matcher.leave_finished.Given as goal

abbrev pub invariant-loop-counts : goal.invariant-loop-counts
invariant-loop-counts g l =
    IsPaired l.indices.items l.counts.items
    × (siblings [] l.indices.items l.counts.items ≡ siblings [] l.fn.indices.items l.fn.counts.items)

abbrev pub decreases-loop-counts : goal.decreases-loop-counts
decreases-loop-counts g l = vec_len l.counts
