-- What a walk has read ahead, and how entering one specification changes it. Readings are `Q`, specifications are seen as `V`.
use Rattle.std.specs.Prelude.{◌≡◌, ◌⊎◌, ℕ, true, min, List, [], ◌∷◌, ◌++◌, length, map, flat_map, All, Option, Some, None}
use Rattle.std.specs.List.Sorted.{IsPermutation}
use Rattle.jwalk_order.specs.IndexPath.{is_before}
use Rattle.jwalk_order.specs.Addresses.{IsAmong}
use Rattle.jwalk_order.specs.Frontier.{roots as root_addresses}
use Rattle.jwalk_board.specs.Board.{Board}
use Rattle.jwalk_order.specs.Addressed.{Addressed, addresses_of, numbered}

pub record ReadAhead (V : Type 0) : Type 0 where
  -- the specifications that are not read yet, with their addresses, in no particular order
  pub queue : List (Addressed V)
  -- the addresses of the readings that were made and not handed on
  pub done : List (List ℕ)

-- nothing is left to be read
abbrev pub nothing_ahead : {V : Type 0} → ReadAhead V
nothing_ahead = record { queue = []; done = [] }

-- what a walk over a board has read ahead
abbrev pub ahead_on : {V Q : Type 0} → Board V Q → ReadAhead V
ahead_on b = record { queue = b.queued; done = addresses_of b.ready }

module _ {V : Type 0} where
  -- The roots are queued, at `[0]`, `[1]` and so on, and these addresses are to be entered.
  pub record BeginsWith (roots : List V) (frontier : List (List ℕ)) (new : ReadAhead V) : Type 0 where
    pub queue : IsPermutation (numbered [] 0 roots) new.queue
    pub done : new.done ≡ []
    pub to_enter : frontier ≡ root_addresses (length roots)

  -- The address of the first comes before all of these.
  abbrev pub ComesBefore : Addressed V → List (Addressed V) → Type 0
  ComesBefore x others = All (λ y. is_before x.at y.at ≡ true) others

  -- The least of the queue leave it: each comes before all that stay.
  pub record LeastLeave (taken : List (Addressed V)) (old new : ReadAhead V) : Type 0 where
    pub queue : IsPermutation old.queue (taken ++ new.queue)
    pub least : All (λ x. ComesBefore x new.queue) taken
    pub done : new.done ≡ old.done

  -- The reading at an address is handed on: it leaves those that are done.
  pub record HandsOnAt (at : List ℕ) (old new : ReadAhead V) : Type 0 where
    pub queue : new.queue ≡ old.queue
    pub done : IsPermutation old.done (at ∷ new.done)

module _ {Q V : Type 0} where
  -- the specifications below what was read, at the children of its address
  abbrev pub below : Addressed (Q × List V) → List (Addressed V)
  below x = numbered x.at 0 x.value.1

  -- Readings are made: they are done, and the specifications below them join the queue.
  pub record Joins (made : List (Addressed (Q × List V))) (old new : ReadAhead V) : Type 0 where
    pub queue : IsPermutation (flat_map below made ++ old.queue) new.queue
    pub done : IsPermutation (addresses_of made ++ old.done) new.done

  module _ (w : Q → V) where
    -- what was read, as it was in the queue
    abbrev pub unread : Addressed (Q × List V) → Addressed V
    unread x = record { at = x.at; value = w x.value.0; child_count = 0 }

    module _ (IsSound : Q × List V → Type 0) where
      -- The least of the queue are read, this many or all if there are fewer, and no others.
      pub record ReadsLeast (width : ℕ) (old new : ReadAhead V) : Type 0 where
        pub batch : List (Addressed (Q × List V))
        pub left : ReadAhead V
        pub number : length batch ≡ min width (length old.queue)
        pub sound : All (λ x. IsSound x.value) batch
        pub leave : LeastLeave (map unread batch) old left
        pub join : Joins batch left new

      -- The specification at an address is entered: its reading was made before and nothing is read, or else the least are read first. Then its reading is handed on.
      abbrev pub Enters : ℕ → List ℕ → ReadAhead V → ReadAhead V → Type 0
      Enters width at old new =
          (IsAmong at old.done × HandsOnAt at old new)
          ⊎ ((¬ IsAmong at old.done) × ((mid : ReadAhead V) × ReadsLeast width old mid × HandsOnAt at mid new))

      -- One is entered, or nothing was left to be read and all stays as it is.
      abbrev pub EntersNext : {X : Type 0} → ℕ → List ℕ → ReadAhead V → Option X → ReadAhead V → Type 0
      EntersNext width at old (Some read) new = Enters width at old new
      EntersNext width at old None new = new ≡ old
