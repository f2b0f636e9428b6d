use Rattle.std.proofs.Common.{rules, arith, ◌≡◌, ◌≢◌, ◌<◌, ℕ, List, [], subst, sym, ◌∙◌}
use Rattle.std.specs.Bool.{Decides}
use Rattle.std.proofs.lemmas.Bool.{false≢true}
use Rattle.std.proofs.lemmas.Bool.Decides.{Decides-eqb}
use Rattle.std.proofs.lemmas.Slice.Eq.{slice_eq-Decides}
use Rattle.jwalk_order.specs.Frontier.{next_address}
use Rattle.jwalk_order.specs.IndexPath.{address}
use Rattle.jwalk_order.specs.Addresses.{IsAmong}
use Rattle.jwalk_order.specs.Addressed.{addresses_of}
use Rattle.jwalk_order.specs.Addresses.{times}
use Rattle.jwalk_order.specs.Addressed.{IsFirst}
use Rattle.jwalk_order.proofs.AddressOrder.{same_address}
use Rattle.jwalk_board.specs.Board.{Board, on_board, IsWhole}
use Rattle.jwalk_board.proofs.Opens.{times-on_board, next_least}
use Rattle.jwalk_board.proofs.Steps.{first_among}
use Rattle.jwalk_board.proofs.board.Board.is_next_queued.Goals as goal

-- The least that is queued is the next one, if that is queued.
next_is_first_queued : {T R : Type 0} (b : Board T R) → IsWhole b → (a : List ℕ) → 0 < times a (addresses_of b.queued) → IsFirst a b.queued → 0 < times (next_address b.frontier) (addresses_of b.queued)
    → a ≡ next_address b.frontier
next_is_first_queued b w a there first some =
    let next = next_address b.frontier in
    let a_there : 0 < times a (on_board b) = omega (arith, times-on_board a b) in
    same_address a next (next_least b w a a_there) (first_among a next b.queued first some)

pub returns-then-not-is_none : goal.returns-then-not-is_none
returns-then-not-is_none g c =
    let some : c.self.inside.matcher ≢ [] = λ empty. false≢true (sym c.if-not-is_none.true ∙ c.is_none.ensures.1 empty) in
    let same : Decides c.eq.result (address c.in-Some.first.now ≡ next_address c.self.inside.matcher) =
    rw (← c.looking_for.ensures) (slice_eq-Decides Decides-eqb _ _ c.eq.result c.eq.ensures) in
    rw (← c.self.view_is) (
      λ yes. (some, subst (λ a. IsAmong a (addresses_of c.self.inside.queued)) (same.0 yes) c.in-Some.ensures.some),
      λ queued. same.1 (next_is_first_queued _ c.self.invariant (address c.in-Some.first.now) c.in-Some.ensures.some c.in-Some.ensures.least queued.1),
    )

pub returns-else-not-is_none : goal.returns-else-not-is_none
returns-else-not-is_none g c =
    let none : c.self.inside.matcher ≡ [] = c.is_none.ensures.0 c.if-not-is_none.false in
    rw (← c.self.view_is) (search rules, λ queued. absurd (queued.0 none))
