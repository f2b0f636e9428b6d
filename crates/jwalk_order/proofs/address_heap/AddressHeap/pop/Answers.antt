use Rattle.std.proofs.Common.{◌≡◌, ◌∷◌, ◌∙◌, sym, None, heap_items, refl, Some, arith}
use Rattle.std.proofs.lemmas.List.Sorted.{IsPermutation-map, IsPermutation-refl}
use Rattle.std.proofs.lemmas.Option.{IfSome_then}
use Rattle.jwalk_order.specs.Addressed.{addressed}
use Rattle.jwalk_order.proofs.Tops.{top_addressed}
use Rattle.jwalk_order.proofs.address_heap.AddressHeap.pop.Goals as goal

pub returns-in-None-clause-items : goal.returns-in-None-clause-items
returns-in-None-clause-items g c =
    let none : c.self.inside.front ≡ None = sym c.take.ensures.value ∙ c.in-None.is in
    rw (← c.self.view_is, none, c.take.ensures.after)
    (IfSome_then c.pop.result c.pop.ensures.permutation (λ x p. IsPermutation-map addressed (heap_items c.self.inside.others) (x ∷ heap_items c.pop.new.self) p))

pub invariant_of-self : goal.invariant_of-self
invariant_of-self g c =
    let was : c.self.inside.front ≡ Some c.in-Some.item = sym c.take.ensures.value ∙ c.in-Some.is in
    let fits = rw was at c.self.invariant.2 in
    rw c.take.ensures.after (c.self.invariant.0, tt, omega (arith, fits))

pub returns-in-Some-clause-items : goal.returns-in-Some-clause-items
returns-in-Some-clause-items g c =
    let was : c.self.inside.front ≡ Some c.in-Some.item = sym c.take.ensures.value ∙ c.in-Some.is in
    rw (← c.self.view_is, was, c.take.ensures.after) (IsPermutation-refl _)

pub returns-in-Some-clause-top : goal.returns-in-Some-clause-top
returns-in-Some-clause-top g c =
    let was : c.self.inside.front ≡ Some c.in-Some.item = sym c.take.ensures.value ∙ c.in-Some.is in
    rw (← c.self.view_is, was) refl

pub returns-in-Some-clause-room : goal.returns-in-Some-clause-room
returns-in-Some-clause-room g c =
    let was : c.self.inside.front ≡ Some c.in-Some.item = sym c.take.ensures.value ∙ c.in-Some.is in
    let fits = rw was at c.self.invariant.2 in
    rw c.take.ensures.after (omega (arith, fits))

pub returns-in-None-clause-top : goal.returns-in-None-clause-top
returns-in-None-clause-top g c =
    let none : c.self.inside.front ≡ None = sym c.take.ensures.value ∙ c.in-None.is in
    rw (← c.self.view_is, none) (IfSome_then c.pop.result c.pop.ensures.top (λ x first. top_addressed x (heap_items c.self.inside.others) first))
