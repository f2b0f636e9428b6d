use Rattle.std.proofs.Common.{◌∙◌, sym}
use Rattle.jwalk_order.specs.IndexPath.{address}
use Rattle.jwalk_order.proofs.Within.{none_leave, least_goes}
use Rattle.jwalk_order.proofs.sibling_queue.SiblingQueue.remove_within.Goals as goal

pub loop-least-init : goal.loop-least-init
loop-least-init g c = none_leave _ _

pub loop-least-preserved-else-not-is_within : goal.loop-least-preserved-else-not-is_within
loop-least-preserved-else-not-is_within g c =
    (least_goes (address c.args.path.now) _ c.loop-least.self _ (address c.in-Some.least.now) c.pop.result c.in-Some.ensures.next c.in-Some.ensures.some (sym c.is_within.ensures ∙ c.if-not-is_within.false) c.pop.ensures.some c.pop.ensures.none c.loop-least.invariant).leaves

pub loop-least-smaller-else-not-is_within : goal.loop-least-smaller-else-not-is_within
loop-least-smaller-else-not-is_within g c =
    (least_goes (address c.args.path.now) _ c.loop-least.self _ (address c.in-Some.least.now) c.pop.result c.in-Some.ensures.next c.in-Some.ensures.some (sym c.is_within.ensures ∙ c.if-not-is_within.false) c.pop.ensures.some c.pop.ensures.none c.loop-least.invariant).shorter
