use Rattle.std.specs.Vec.Iter.{into_iter_items}
use Rattle.jwalk_order.specs.Ordered.{address_of}
use Rattle.jwalk_order.specs.Addressed.{addressed}
use Rattle.jwalk_order.proofs.Siblings.{front, first-all_siblings, some_there}
use Rattle.jwalk_order.proofs.sibling_queue.SiblingQueue.least.Goals as goal

pub returns-clause-some : goal.returns-clause-some
returns-clause-some g c =
    let entries = c.self.inside.entries.items in
    let top = c.in_ok-entry.entry.now in
    let shown = c.in_ok-entry.ensures in
    rw (← c.self.view_is) (front into_iter_items (addressed top) entries c.self.invariant.0 (some_there (address_of top) entries shown.some) shown.top).among

pub returns-clause-next : goal.returns-clause-next
returns-clause-next g c =
    let entries = c.self.inside.entries.items in
    let top = c.in_ok-entry.entry.now in
    let shown = c.in_ok-entry.ensures in
    rw (← c.self.view_is) (front into_iter_items (addressed top) entries c.self.invariant.0 (some_there (address_of top) entries shown.some) shown.top).next

pub returns-clause-least : goal.returns-clause-least
returns-clause-least g c =
    rw (← c.self.view_is)
    (first-all_siblings into_iter_items (address_of c.in_ok-entry.entry.now) c.self.inside.entries.items c.self.invariant.0 c.in_ok-entry.ensures.least)
