-- How the next address of a board is passed without its reading.
use Rattle.std.specs.Prelude.{◌≡◌, ◌≢◌, ◌⊎◌, ℕ, false, not, List, []}
use Rattle.std.specs.List.{filter}
use Rattle.jwalk_order.specs.Addresses.{IsAmong}
use Rattle.jwalk_order.specs.Frontier.{next_address, passed}
use Rattle.jwalk_order.specs.IndexPath.{is_within}
use Rattle.jwalk_order.specs.Within.{Leaves}
use Rattle.jwalk_board.specs.Board.{Board, on_board}

module _ {T R : Type 0} where
  -- The next address is passed as one without children. All that is at it and below it leaves the board, and nothing else does.
  pub record SkipsFirst (old new : Board T R) : Type 0 where
    pub some : old.frontier ≢ []
    pub queued : Leaves (next_address old.frontier) old.queued new.queued
    pub in_hand : new.in_hand ≡ filter (λ a. not (is_within (next_address old.frontier) a)) old.in_hand
    pub ready : Leaves (next_address old.frontier) old.ready new.ready
    -- nothing that is left is at it or below it
    pub outside : (a : List ℕ) → IsAmong a (on_board new) → is_within (next_address old.frontier) a ≡ false
    pub others : new ≡ record old { queued = new.queued; in_hand = new.in_hand; ready = new.ready; frontier = passed old.frontier 0 }

  -- The next address is passed so, or there is none and nothing changes.
  abbrev pub SkipsNext : Board T R → Board T R → Type 0
  SkipsNext old new = ((old.frontier ≡ []) × (new ≡ old)) ⊎ SkipsFirst old new
