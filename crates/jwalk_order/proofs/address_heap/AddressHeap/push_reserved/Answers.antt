use Rattle.std.proofs.Common.{◌≡◌, ◌∷◌, ◌++◌, ◌∙◌, refl, sym, Some, None, heap_items, arith}
use Rattle.std.proofs.lemmas.List.Sorted.{IsPermutation-cons, IsPermutation-map, length_permutation}
use Rattle.std.specs.Option.{option_to_list}
use Rattle.jwalk_order.specs.Ordered.{address_of}
use Rattle.jwalk_order.specs.Addressed.{addressed}
use Rattle.jwalk_order.proofs.Keys.{apart-added}
use Rattle.jwalk_order.proofs.Tops.{front-kept, first-permutation, one-more}
use Rattle.jwalk_order.proofs.address_heap.AddressHeap.push_reserved.Goals as goal

pub invariant_of-self : goal.invariant_of-self
invariant_of-self g c =
    let front = c.self.inside.front in
    let others = heap_items c.self.inside.others in
    let new = heap_items c.push_within.new.heap in
    let room = rw (← c.self.view_is) at c.requires in (
      c.push_within.ensures.order,
      front-kept front c.args.item others new (rw (← c.self.view_is) at (c.if-is_ahead_of.ensures.ahead refl)) c.self.invariant.1 c.push_within.ensures.items,
      one-more front c.args.item others new _ _ room c.push_within.ensures.capacity c.push_within.ensures.items,
    )

pub returns-then-is_ahead_of : goal.returns-then-is_ahead_of
returns-then-is_ahead_of g c =
    let apart = option_to_list c.self.inside.front in
    let others = heap_items c.self.inside.others in
    rw (← c.self.view_is)
    (IsPermutation-map addressed (c.args.item ∷ (apart ++ others)) _ (apart-added apart c.args.item others _ c.push_within.ensures.items))

pub invariant_of-self-in-Some : goal.invariant_of-self-in-Some
invariant_of-self-in-Some g c =
    let others = heap_items c.self.inside.others in
    let new = heap_items c.push_within-in-Some.new.heap in
    let was : c.self.inside.front ≡ Some c.in-Some.old = sym c.replace.ensures.value ∙ c.in-Some.is in
    let room = rw (← c.self.view_is, was) at c.requires in
    let behind = rw (← c.self.view_is, was) at (c.if-is_ahead_of.ensures.behind refl) in
    rw c.replace.ensures.after (
      c.push_within-in-Some.ensures.order,
      first-permutation (address_of c.args.item) (c.in-Some.old ∷ others) new c.push_within-in-Some.ensures.items behind,
      omega (arith, room, length_permutation (c.in-Some.old ∷ others) new c.push_within-in-Some.ensures.items, c.push_within-in-Some.ensures.capacity),
    )

pub invariant_of-self-in_default : goal.invariant_of-self-in_default
invariant_of-self-in_default g c =
    let was : c.self.inside.front ≡ None = sym c.replace.ensures.value ∙ c.in_default.is in
    let room = rw (← c.self.view_is, was) at c.requires in
    rw c.replace.ensures.after (c.self.invariant.0, rw (← c.self.view_is, was) at (c.if-is_ahead_of.ensures.behind refl), omega (arith, room))

pub returns-in-Some : goal.returns-in-Some
returns-in-Some g c =
    let others = heap_items c.self.inside.others in
    let was : c.self.inside.front ≡ Some c.in-Some.old = sym c.replace.ensures.value ∙ c.in-Some.is in
    rw (← c.self.view_is, was, c.replace.ensures.after)
    (IsPermutation-cons (addressed c.args.item) _ _ (IsPermutation-map addressed (c.in-Some.old ∷ others) (heap_items c.push_within-in-Some.new.heap) c.push_within-in-Some.ensures.items))
