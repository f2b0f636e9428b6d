use Rattle.std.proofs.Common.{refl, arith}
use Rattle.jwalk_order.proofs.address_heap.AddressHeap.reserve_one.Goals as goal

pub invariant_of-self : goal.invariant_of-self
invariant_of-self g c = rw c.reserve.ensures.items (c.self.invariant.0, c.self.invariant.1, omega (arith, c.self.invariant.2, c.reserve.ensures.capacity))

pub returns-clause-items : goal.returns-clause-items
returns-clause-items g c = rw (← c.self.view_is, c.reserve.ensures.items) refl
