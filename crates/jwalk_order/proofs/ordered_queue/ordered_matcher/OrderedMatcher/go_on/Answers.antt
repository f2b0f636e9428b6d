use Rattle.std.proofs.Common.{◌≡◌, ◌+◌, length, arith}
use Rattle.jwalk_order.proofs.Frontiers.{goes_on}
use Rattle.jwalk_order.proofs.ordered_queue.ordered_matcher.OrderedMatcher.go_on.Goals as goal

pub returns-in-Some : goal.returns-in-Some
returns-in-Some g c =
    let before = c.self.inside in
    let left = c.leave_finished.ensures in
    let counts = c.leave_finished.new.counts in
    let last-is : c.in-Some.last + 1 ≡ length counts.items = grind (arith, counts.ok.0, c.len.ensures) in
    rw c.increment_last.ensures
    (goes_on before.looking_for.indices.items before.counts.items c.leave_finished.new.indices.items counts.items _ c.in-Some.last c.index_mut.result.now
    c.self.view_is c.requires left.siblings left.paired.same last-is c.index_mut.ensures.value left.unfinished)
