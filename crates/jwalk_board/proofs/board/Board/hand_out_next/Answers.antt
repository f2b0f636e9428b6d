use Rattle.std.proofs.Common.{rules, ◌≡◌, ◌≢◌, [], false}
use Rattle.jwalk_order.specs.Frontier.{next_address}
use Rattle.jwalk_order.specs.Addresses.{IsAmong}
use Rattle.jwalk_order.specs.Addressed.{addresses_of}
use Rattle.jwalk_order.specs.Ordered.{address_of}
use Rattle.jwalk_board.proofs.Steps.{hands_out, keeps_handed_out, next_is_first}
use Rattle.jwalk_board.proofs.board.Board.hand_out_next.Goals as goal

pub advance_past-requires-clause-looked_for : goal.advance_past-requires-clause-looked_for
advance_past-requires-clause-looked_for g c =
    let there : IsAmong (next_address c.self.inside.matcher) (addresses_of c.self.inside.ready.items) = search rules in
    next_is_first _ c.self.invariant (address_of c.in-Some.least.now) c.in-Some.ensures.some c.in-Some.ensures.least there

pub invariant_of-self-2 : goal.invariant_of-self-2
invariant_of-self-2 g c =
    let running : c.self.inside.stopped ≡ false = search rules in
    let some : c.self.inside.matcher ≢ [] = search rules in
    let there : IsAmong (next_address c.self.inside.matcher) (addresses_of c.self.inside.ready.items) = search rules in
    let next = next_is_first _ c.self.invariant (address_of c.in-Some.least.now) c.in-Some.ensures.some c.in-Some.ensures.least there in
    keeps_handed_out _ c.self.invariant c.in-Some-pop.item _ _
    (hands_out _ c.in-Some.least.now c.in-Some-pop.item _ _ running some c.in-Some.ensures.some c.in-Some.ensures.top next c.in_ok-advance_past.ensures.passed c.in-Some-pop.ensures.items c.in-Some-pop.ensures.top)

pub returns-clause-handed_out : goal.returns-clause-handed_out
returns-clause-handed_out g c =
    let running : c.self.inside.stopped ≡ false = search rules in
    let some : c.self.inside.matcher ≢ [] = search rules in
    let there : IsAmong (next_address c.self.inside.matcher) (addresses_of c.self.inside.ready.items) = search rules in
    let next = next_is_first _ c.self.invariant (address_of c.in-Some.least.now) c.in-Some.ensures.some c.in-Some.ensures.least there in
    rw (← c.self.view_is)
    (hands_out _ c.in-Some.least.now c.in-Some-pop.item _ _ running some c.in-Some.ensures.some c.in-Some.ensures.top next c.in_ok-advance_past.ensures.passed c.in-Some-pop.ensures.items c.in-Some-pop.ensures.top)
