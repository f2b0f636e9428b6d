-- A board as a value.
use Rattle.std.specs.Prelude.{◌≡◌, ◌≢◌, ℕ, ◌+◌, ◌<◌, ◌≤◌, Bool, false, List, [], ◌∷◌, ◌++◌, length, All, Contains, ◌↔◌}
use Rattle.std.specs.List.Sorted.{IsPermutation}
use Rattle.jwalk_order.specs.Frontier.{next_address, passed, roots}
use Rattle.jwalk_order.specs.IndexPath.{is_before}
use Rattle.jwalk_order.specs.Ordered.{address_of, child_count_of}
use Rattle.jwalk_order.specs.declared.ordered.Ordered.{Ordered}
use Rattle.jwalk_order.specs.Addresses.{times, IsAmong}
use Rattle.jwalk_board.specs.Left.{IsApart}
use Rattle.jwalk_order.specs.Addressed.{Addressed, addressed, addresses_of, child_addresses, numbered, IsFirst}

-- No list but the frontier is in a particular order.
pub record Board (T R : Type 0) : Type 0 where
  -- what waits to be taken
  pub queued : List (Addressed T)
  -- what was taken and is not finished
  pub in_hand : List (List ℕ)
  -- what is finished and waits to be handed out
  pub ready : List (Addressed R)
  -- the addresses still to be passed, the next one first
  pub frontier : List (List ℕ)
  pub stopped : Bool

-- The open addresses: the least set that has the frontier and the children of each member that is ready.
pub data IsOpen {R : Type 0} (frontier : List (List ℕ)) (ready : List (Addressed R)) : List ℕ → Type 0 where
  of_frontier : {a : List ℕ} → IsAmong a frontier → IsOpen frontier ready a
  of_parent : (x : Addressed R) (i : ℕ) → Contains ready x → IsOpen frontier ready x.at → i < x.child_count → IsOpen frontier ready (x.at ++ i ∷ [])

module _ {T R : Type 0} where
  -- the addresses of all that is queued, in hand or ready
  abbrev pub on_board : Board T R → List (List ℕ)
  on_board b = addresses_of b.queued ++ (b.in_hand ++ addresses_of b.ready)

  -- What holds of every board. On it are its frontier, and the children of what is ready.
  pub record IsWhole (b : Board T R) : Type 0 where
    pub each : (a : List ℕ) → times a (on_board b) ≡ times a b.frontier + times a (child_addresses b.ready)
    pub once : (a : List ℕ) → times a (on_board b) ≤ 1
    pub apart : IsApart b.frontier
    pub unread : All (λ x. x.child_count ≡ 0) b.queued

  -- What a caller may know of every board.
  pub record HoldsOpen (b : Board T R) : Type 0 where
    -- No address is there twice: queued, in hand and ready are disjoint.
    pub once : (a : List ℕ) → times a (on_board b) ≤ 1
    -- They are together the open addresses.
    pub open_addresses : (a : List ℕ) → IsAmong a (on_board b) ↔ IsOpen b.frontier b.ready a
    -- The first of the frontier is the least of them.
    pub next_is_open : b.frontier ≢ [] → IsAmong (next_address b.frontier) (on_board b)
    pub next_is_least : (a : List ℕ) → IsAmong a (on_board b) → is_before a (next_address b.frontier) ≡ false

  -- There is a next address, and its reading is ready.
  abbrev pub IsNextReady : Board T R → Type 0
  IsNextReady b = (b.frontier ≢ []) × IsAmong (next_address b.frontier) (addresses_of b.ready)

  -- The roots are queued at `[0]`, `[1]` and so on.
  pub record IsNew (specs : List T) (b : Board T R) : Type 0 where
    pub queued : IsPermutation (numbered [] 0 specs) b.queued
    pub in_hand : b.in_hand ≡ []
    pub ready : b.ready ≡ []
    pub frontier : b.frontier ≡ roots (length specs)
    pub running : b.stopped ≡ false

  module _ {A : Type 0} where
    -- The item, the least that is queued, goes in hand, and nothing else changes.
    pub record Takes (item : Ordered T A) (old new : Board T R) : Type 0 where
      pub running : old.stopped ≡ false
      pub queued : IsPermutation old.queued (addressed item ∷ new.queued)
      pub least : IsFirst (address_of item) old.queued
      pub unread : child_count_of item ≡ 0
      pub in_hand : IsPermutation (address_of item ∷ old.in_hand) new.in_hand
      pub others : new ≡ record old { queued = new.queued; in_hand = new.in_hand }

    -- The item of the first address of the frontier is no longer ready, the frontier passes it, and nothing else
    -- changes.
    pub record HandsOut (item : Ordered R A) (old new : Board T R) : Type 0 where
      pub running : old.stopped ≡ false
      pub some : old.frontier ≢ []
      pub next : address_of item ≡ next_address old.frontier
      pub ready : IsPermutation old.ready (addressed item ∷ new.ready)
      pub others : new ≡ record old { ready = new.ready; frontier = passed old.frontier (child_count_of item) }

  -- The address goes from in hand to ready, with its reading and the count of its children. These are queued. Nothing
  -- else changes.
  pub record Finishes (a : List ℕ) (reading : R) (children : List T) (old new : Board T R) : Type 0 where
    pub running : old.stopped ≡ false
    pub in_hand : IsPermutation old.in_hand (a ∷ new.in_hand)
    pub ready : IsPermutation (record { at = a; value = reading; child_count = length children } ∷ old.ready) new.ready
    pub queued : IsPermutation (numbered a 0 children ++ old.queued) new.queued
    pub others : new ≡ record old { queued = new.queued; in_hand = new.in_hand; ready = new.ready }
