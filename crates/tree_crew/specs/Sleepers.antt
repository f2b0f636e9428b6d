-- Whom a hand-out calls of those who sleep.
use Rattle.std.specs.Prelude.{◌≡◌, ◌↔◌, ◌+◌, ◌-◌, ◌<◌, ℕ, false, min, IsTrue}
use Rattle.jwalk_board.specs.Board.{Board}
use Rattle.tree_crew.specs.ReadAhead.{ready_or_in_hand, CountsTakers}
use Rattle.tree_crew.specs.declared.sleepers.Sleepers.{Sleepers}
use Rattle.tree_crew.specs.declared.steps.Called.{Called}

-- how many workers are called where this many may take something: those of them who sleep and weren't called yet
abbrev pub called_of : Sleepers → ℕ → ℕ
called_of sleepers count = min count sleepers.workers - sleepers.called

-- Nobody is called.
pub record CallsNobody (calls : Called) : Type 0 where
  pub workers : calls.workers ≡ 0
  pub walk : calls.walk ≡ false

module _ {T R : Type 0} where
  -- Workers that rested still do: more than half the limit is ready or in hand.
  abbrev pub StaysFull : ℕ → Sleepers → Board T R → Type 0
  StaysFull limit before board = IsTrue before.is_full × (limit < ready_or_in_hand board + ready_or_in_hand board)

  -- As many workers are called as may take something, and not the walk. Workers that rested stop resting once the readings are down to half the limit.
  pub record CallsTakers (limit : ℕ) (board : Board T R) (before after : Sleepers) (calls : Called) : Type 0 where
    pub takers : ℕ
    pub may : CountsTakers limit after.is_full board takers
    pub workers : calls.workers ≡ called_of before takers
    pub walk : calls.walk ≡ false
    pub is_full : IsTrue after.is_full ↔ StaysFull limit before board
