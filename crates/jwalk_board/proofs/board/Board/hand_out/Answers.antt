use Rattle.std.proofs.Common.{rules, ◌≡◌, ◌≢◌, [], ap}
use Rattle.jwalk_order.specs.Frontier.{next_address}
use Rattle.jwalk_order.specs.Ordered.{address_of}
use Rattle.jwalk_order.specs.Addresses.{times}
use Rattle.jwalk_order.specs.Addressed.{addresses_of}
use Rattle.jwalk_board.proofs.Steps.{waits, not_ready}
use Rattle.jwalk_board.proofs.board.Board.hand_out.Goals as goal

pub returns-in_default-clause-refused : goal.returns-in_default-clause-refused
returns-in_default-clause-refused g c =
    let some : c.self.inside.matcher ≢ [] = search rules in
    let empty : c.self.inside.ready.items ≡ [] = search rules in
    rw (← c.self.view_is) (c.if-self.false, some, waits _ c.self.invariant some (ap (λ z. times (next_address c.self.inside.matcher) (addresses_of z)) empty))

pub returns-then-ne-clause-refused : goal.returns-then-ne-clause-refused
returns-then-ne-clause-refused g c =
    let some : c.self.inside.matcher ≢ [] = search rules in
    let other : address_of c.in-Some.least.now ≢ next_address c.self.inside.matcher = search rules in
    rw (← c.self.view_is) (
      c.if-self.false,
      some,
      waits _ c.self.invariant some (not_ready _ c.self.invariant (address_of c.in-Some.least.now) c.in-Some.ensures.some c.in-Some.ensures.least other),
    )
