use Rattle.std.proofs.Common.{rules, ◌≡◌, false, ◌<◌, arith}
use Rattle.std.proofs.lemmas.List.Elements.{All-weaker}
use Rattle.jwalk_order.specs.IndexPath.{is_before}
use Rattle.jwalk_order.specs.Ordered.{address_of}
use Rattle.jwalk_order.proofs.Tops.{not_before-trans}
use Rattle.jwalk_order.proofs.address_heap.AddressHeap.is_ahead_of.Goals as goal

pub returns-in-Some-clause-behind : goal.returns-in-Some-clause-behind
returns-in-Some-clause-behind g c = λ no.
    let a = address_of c.args.item.now in
    let b = address_of c.in-Some.first.now in
    let behind : is_before b a ≡ false = search rules in
    All-weaker (λ y. is_before y.at b ≡ false) (λ y. is_before y.at a ≡ false) (λ y h. not_before-trans a b y.at behind h) c.args.self.now.items c.in-Some.ensures.least

pub returns-in-None-clause-behind : goal.returns-in-None-clause-behind
returns-in-None-clause-behind g c = λ yes k d below.
    let none : k < 0 = rw c.in-None.ensures.none at below in
    absurd (omega arith)
