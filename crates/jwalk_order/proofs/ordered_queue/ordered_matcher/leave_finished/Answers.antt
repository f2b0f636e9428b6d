use Rattle.std.proofs.Common.{rules, ◌≡◌, ◌<◌, ◌-◌, get_or, arith, ◌∙◌}
use Rattle.jwalk_order.proofs.Frontiers.{Leaves, leaves}
use Rattle.jwalk_order.proofs.ordered_queue.ordered_matcher.leave_finished.Goals as goal

pub loop-counts-preserved : goal.loop-counts-preserved
loop-counts-preserved g c =
    let is = c.loop-counts.indices in
    let cs = c.loop-counts.counts in
    let some : 0 < cs.len = grind arith in
    let none : get_or cs.items (cs.len - 1) 0 ≡ 0 = search rules in
    let left : Leaves is.items cs.items c.pop-in-loop-counts.new.self.items c.pop.new.self.items =
    rw (c.pop-in-loop-counts.ensures.rest, c.pop.ensures.rest) (leaves is.items cs.items is.len cs.len is.ok.0 cs.ok.0 c.loop-counts.invariant.0 some none) in
    (left.paired, left.same ∙ c.loop-counts.invariant.1)
