use Rattle.std.proofs.Common.{◌≡◌, ◌<◌, ◌∷◌, length, refl, ap, arith}
use Rattle.std.proofs.lemmas.List.Elements.{All-head}
use Rattle.std.proofs.lemmas.List.Sorted.{All-permutation, length_permutation}
use Rattle.std.specs.Vec.Iter.{into_iter_items}
use Rattle.jwalk_order.specs.IndexPath.{address}
use Rattle.jwalk_order.specs.Addressed.{addressed}
use Rattle.jwalk_order.specs.Siblings.{AreSiblings}
use Rattle.jwalk_order.proofs.Siblings.{Leaves, leaves_last, leaves_some, mine_are, some_queued}
use Rattle.jwalk_order.proofs.sibling_queue.SiblingQueue.pop.Goals as goal
use Rattle.jwalk_order.proofs.sibling_queue.SiblingQueue.pop.Goals.{then-len-gt0, else-len-gt0}

pub invariant_of-self : goal.invariant_of-self
invariant_of-self g c = rw c.in_err-entry.ensures.unchanged c.self.invariant

pub invariant_of-self-in_err-value : goal.invariant_of-self-in_err-value
invariant_of-self-in_err-value g c =
    let taken = c.in_ok-entry.entry in
    let mine : AreSiblings into_iter_items (addressed taken) =
    All-head (AreSiblings into_iter_items) (addressed taken) c.pop.new.self.items (All-permutation (AreSiblings into_iter_items) c.self.inside.entries.items (addressed taken ∷ c.pop.new.self.items) c.in_ok-entry.ensures.items c.self.invariant.0) in
    absurd (omega (arith, mine.some, taken.value.rest.ok.0, c.in_err-value.ensures.cases.0))

pub returns-in_err-value-clause-none : goal.returns-in_err-value-clause-none
returns-in_err-value-clause-none g c =
    let taken = c.in_ok-entry.entry in
    let mine : AreSiblings into_iter_items (addressed taken) =
    All-head (AreSiblings into_iter_items) (addressed taken) c.pop.new.self.items (All-permutation (AreSiblings into_iter_items) c.self.inside.entries.items (addressed taken ∷ c.pop.new.self.items) c.in_ok-entry.ensures.items c.self.invariant.0) in
    absurd (omega (arith, mine.some, taken.value.rest.ok.0, c.in_err-value.ensures.cases.0))

pub overflow_sub-self : goal.overflow_sub-self
overflow_sub-self g c =
    let some = some_queued into_iter_items (addressed c.in_ok-entry.entry) c.in_ok-value.value (into_iter_items c.next.new.self) c.self.inside.entries.items c.pop.new.self.items
    c.self.invariant.0 c.in_ok-entry.ensures.items c.in_ok-entry.ensures.top c.in_ok-value.ensures.items in
    omega (arith, some, c.self.invariant.1)

pub increment_last-requires-clause-some : goal.increment_last-requires-clause-some
increment_last-requires-clause-some g c =
    (mine_are into_iter_items (addressed c.in_ok-entry.entry) c.in_ok-value.value (into_iter_items c.next.new.self) c.self.inside.entries.items c.pop.new.self.items
    c.self.invariant.0 c.in_ok-entry.ensures.items c.in_ok-entry.ensures.top c.in_ok-value.ensures.items).below

pub increment_last-requires-clause-room : goal.increment_last-requires-clause-room
increment_last-requires-clause-room g c =
    let mine = mine_are into_iter_items (addressed c.in_ok-entry.entry) c.in_ok-value.value (into_iter_items c.next.new.self) c.self.inside.entries.items c.pop.new.self.items
    c.self.invariant.0 c.in_ok-entry.ensures.items c.in_ok-entry.ensures.top c.in_ok-value.ensures.items in
    let some : 0 < length (into_iter_items c.next.new.self) = grind (arith, c.next.new.self.rest.ok.0) in
    omega (arith, mine.fit, some, ap length c.in_ok-value.ensures.items)

pub invariant_of-self-then-len-gt0 : goal.invariant_of-self-then-len-gt0
invariant_of-self-then-len-gt0 g c =
    let some : 0 < length (into_iter_items c.next.new.self) = grind (arith, c.next.new.self.rest.ok.0) in
    let l : Leaves into_iter_items c.in_ok-value.value c.self.inside.entries.items c.push_reserved.new.self.items =
    leaves_some into_iter_items (addressed c.in_ok-entry.entry) c.in_ok-value.value (into_iter_items c.next.new.self) c.self.inside.entries.items c.pop.new.self.items
    c.self.invariant.0 c.in_ok-entry.ensures.items c.in_ok-entry.ensures.top c.in_ok-value.ensures.items (address c.increment_last.new.self) c.next.new.self _ c.push_reserved.new.self.items c.increment_last.ensures refl some c.push_reserved.ensures in
    let fewer = length_permutation _ _ l.permutation in
    (l.are, omega (arith, fewer, c.self.invariant.1), omega (arith, c.self.invariant.2))

pub invariant_of-self-else-len-gt0 : goal.invariant_of-self-else-len-gt0
invariant_of-self-else-len-gt0 g c =
    let none : length (into_iter_items c.next.new.self) ≡ 0 = grind (arith, c.next.new.self.rest.ok.0) in
    let l : Leaves into_iter_items c.in_ok-value.value c.self.inside.entries.items c.pop.new.self.items =
    leaves_last into_iter_items (addressed c.in_ok-entry.entry) c.in_ok-value.value (into_iter_items c.next.new.self) c.self.inside.entries.items c.pop.new.self.items
    c.self.invariant.0 c.in_ok-entry.ensures.items c.in_ok-entry.ensures.top c.in_ok-value.ensures.items none in
    let fewer = length_permutation _ _ l.permutation in
    (l.are, omega (arith, fewer, c.self.invariant.1), omega (arith, c.self.invariant.2))

pub returns-clause-some : goal.returns-clause-some
returns-clause-some g c =
    rw (← c.self.view_is)
    (elim c.if-len-gt0.branch [
      | then-len-gt0 w ↦
          let some : 0 < length (into_iter_items c.next.new.self) = grind (arith, c.next.new.self.rest.ok.0, w.if-len-gt0) in
          let l = leaves_some into_iter_items (addressed c.in_ok-entry.entry) c.in_ok-value.value (into_iter_items c.next.new.self) c.self.inside.entries.items c.pop.new.self.items
          c.self.invariant.0 c.in_ok-entry.ensures.items c.in_ok-entry.ensures.top c.in_ok-value.ensures.items (address w.increment_last.new.self) c.next.new.self _ w.push_reserved.new.self.items w.increment_last.ensures refl some w.push_reserved.ensures in
          rw w.self-is l.permutation
      | else-len-gt0 w ↦
          let none : length (into_iter_items c.next.new.self) ≡ 0 = grind (arith, c.next.new.self.rest.ok.0, w.if-len-gt0) in
          let l = leaves_last into_iter_items (addressed c.in_ok-entry.entry) c.in_ok-value.value (into_iter_items c.next.new.self) c.self.inside.entries.items c.pop.new.self.items
          c.self.invariant.0 c.in_ok-entry.ensures.items c.in_ok-entry.ensures.top c.in_ok-value.ensures.items none in
          rw w.self-is l.permutation
    ])
