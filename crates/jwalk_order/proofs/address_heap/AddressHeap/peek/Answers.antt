use Rattle.std.proofs.Common.{heap_items, length, ◌<◌, ◌∷◌, refl, arith}
use Rattle.std.proofs.lemmas.Option.{IfSome_then}
use Rattle.jwalk_order.proofs.Tops.{first_from_bound, among_from_top, first-of_front, if_some_with, top_addressed}
use Rattle.jwalk_order.proofs.address_heap.AddressHeap.peek.Goals as goal

pub returns-in-Some-clause-some : goal.returns-in-Some-clause-some
returns-in-Some-clause-some g c =
    let others = heap_items c.self.inside.others in
    rw (← c.self.view_is, c.in-Some.is) (among_from_top c.in-Some.item (c.in-Some.item ∷ others) (omega arith) refl)

pub returns-in-Some-clause-least : goal.returns-in-Some-clause-least
returns-in-Some-clause-least g c =
    rw (← c.self.view_is, c.in-Some.is) (first-of_front c.in-Some.item (heap_items c.self.inside.others) (rw c.in-Some.is at c.self.invariant.1))

pub returns-in-None-clause-some : goal.returns-in-None-clause-some
returns-in-None-clause-some g c =
    let items = heap_items c.self.inside.others in
    rw (← c.self.view_is, c.in-None.is)
    (if_some_with c.peek.result c.peek.ensures.variant.0 c.peek.ensures.lookup
    (λ x some h. among_from_top x.now items (let n : 0 < length items = omega (arith, c.self.inside.others.data.ok.0) in n) h))

pub returns-in-None-clause-least : goal.returns-in-None-clause-least
returns-in-None-clause-least g c =
    rw (← c.self.view_is, c.in-None.is)
    (IfSome_then c.peek.result c.peek.ensures.greatest (λ x h. first_from_bound x.now (heap_items c.self.inside.others) (h c.self.invariant.0)))

pub returns-in-Some-clause-top : goal.returns-in-Some-clause-top
returns-in-Some-clause-top g c = rw (← c.self.view_is, c.in-Some.is) refl

pub returns-in-Some-clause-none : goal.returns-in-Some-clause-none
returns-in-Some-clause-none g c = tt

pub returns-in-None-clause-top : goal.returns-in-None-clause-top
returns-in-None-clause-top g c =
    rw (← c.self.view_is, c.in-None.is)
    (IfSome_then c.peek.result c.peek.ensures.lookup (λ x first. top_addressed x.now (heap_items c.self.inside.others) first))
