-- How far ahead of a walk its workers may read.
use Rattle.std.specs.Prelude.{◌≡◌, ◌≢◌, ◌⊎◌, ◌↔◌, ◌+◌, ◌-◌, ◌≤◌, ◌<◌, ℕ, Bool, true, false, [], length, min}
use Rattle.jwalk_board.specs.Board.{Board}
use Rattle.jwalk_board.specs.Next.{IsNextQueued}

module _ {T R : Type 0} where
  -- how many readings are ready or in hand
  abbrev pub ready_or_in_hand : Board T R → ℕ
  ready_or_in_hand b = length b.ready + length b.in_hand

  -- At most as many as the limit, and one, are ready or in hand.
  abbrev pub IsWithin : ℕ → Board T R → Type 0
  IsWithin limit b = ready_or_in_hand b ≤ limit + 1

  -- A worker may take something that is queued: whatever comes first, if fewer than the limit are ready or in hand and it isn't full; and the next one to be handed out, if no more than the limit are.
  abbrev pub MayTake : ℕ → Bool → Board T R → Type 0
  MayTake limit is_full b = ((is_full ≡ false) × (b.queued ≢ []) × (ready_or_in_hand b < limit)) ⊎ (IsNextQueued b × (ready_or_in_hand b ≤ limit))

  -- Something is queued, and no worker may take it yet.
  pub record HoldsBack (limit : ℕ) (is_full : Bool) (b : Board T R) : Type 0 where
    pub running : b.stopped ≡ false
    pub some : b.queued ≢ []
    pub none_may : ¬ MayTake limit is_full b

  -- How many workers may take something: as many as there is room for, where it isn't full; else the one that takes the next.
  pub record CountsTakers (limit : ℕ) (is_full : Bool) (b : Board T R) (count : ℕ) : Type 0 where
    pub some : (0 < count) ↔ MayTake limit is_full b
    pub room : is_full ≡ false → ready_or_in_hand b < limit → count ≡ min (length b.queued) (limit - ready_or_in_hand b)
    pub full : (is_full ≡ true) ⊎ (limit ≤ ready_or_in_hand b) → count ≤ 1
