-- What happens to a reading that is awaited.
use Rattle.std.specs.Prelude.{◌≡◌, ◌⊎◌, Bool, true, false}
use Rattle.jwalk_order.specs.declared.ordered.Ordered.{Ordered}
use Rattle.jwalk_board.specs.Board.{Board, HandsOut}
use Rattle.jwalk_board.specs.Refusal.{RefusesHandOut}
use Rattle.jwalk_board.specs.declared.board.refusal.HandOutRefusal.{HandOutRefusal}
use Rattle.jwalk_board.specs.declared.board.refusal.HandOutRefusal.TheVariants as refused
use Rattle.tree_crew.specs.declared.arrival.Arrival.{Arrival}
use Rattle.tree_crew.specs.declared.arrival.Arrival.TheVariants.{Entered, Memory, Lost, Wait}

-- The board hands out nothing, for this cause, and stays as it is.
pub record Refuses {T R : Type 0} (old : Board T R) (cause : HandOutRefusal) (new : Board T R) : Type 0 where
  pub refused : RefusesHandOut old cause
  pub unchanged : new ≡ old

module _ {M A : Type 0} (ran_out : M → Bool) where
  -- What a message that was handed out is to the walk that waits: the reading if that was made, and out of memory if memory ran out.
  abbrev pub IsChecked : Ordered M A → Arrival M A → Type 0
  IsChecked item (Entered came) = (came ≡ item) × (ran_out item.value ≡ false)
  IsChecked item Memory = ran_out item.value ≡ true
  IsChecked item Lost = ⊥
  IsChecked item Wait = ⊥

  module _ {T : Type 0} where
    -- The board hands out a message, and this is checked.
    pub record Gives (old : Board T M) (arrival : Arrival M A) (new : Board T M) : Type 0 where
      pub item : Ordered M A
      pub hands_out : HandsOut item old new
      pub checked : IsChecked item arrival

    -- One hand-out, and the check of what it gave: the reading, out of memory, none, or none yet.
    abbrev pub Arrives : Board T M → Arrival M A → Board T M → Type 0
    Arrives old (Entered item) new = HandsOut item old new × (ran_out item.value ≡ false)
    Arrives old Memory new = Refuses old refused.Stopped new ⊎ (Refuses old refused.Memory new ⊎ Gives old Memory new)
    Arrives old Lost new = Refuses old refused.Done new
    Arrives old Wait new = Refuses old refused.NotReady new
