-- What a message that was handed out is, is the outcome for the reading.
use Rattle.std.proofs.Common.{◌≡◌, Bool, false, Result, Ok, Err, inr, refl, sym, subst}
use Rattle.std.specs.Prelude.{is_err, IsOk}
use Rattle.std.proofs.lemmas.Bool.{false≢true}
use Rattle.jwalk_order.specs.declared.ordered.Ordered.{Ordered}
use Rattle.jwalk_board.specs.Board.{Board, HandsOut}
use Rattle.tree_crew.specs.declared.arrival.Arrival.{Arrival}
use Rattle.tree_crew.specs.declared.arrival.Arrival.TheVariants.{Entered, Memory, Lost, Wait}
use Rattle.tree_crew.specs.Arrival.{Arrives, IsChecked}

module _ {T M A : Type 0} (ran_out : M → Bool) (old new : Board T M) (item : Ordered M A) (out : HandsOut item old new) where
  pub arrives : (arrival : Arrival M A) → IsChecked ran_out item arrival → Arrives ran_out old arrival new
  arrives (Entered came) h =
      let P : Ordered M A → Type 0 = λ x. HandsOut x old new × (ran_out x.value ≡ false) in
      subst P (sym h.0) (out, h.1)
  arrives Memory h = inr (inr (record { item = item; hands_out = out; checked = h }))
  arrives Lost h = absurd h
  arrives Wait h = absurd h

-- what memory didn't run out for was made
pub made_of : {U E : Type 0} (outcome : Result U E) → is_err outcome ≡ false → IsOk outcome
made_of (Ok reading) h = refl
made_of (Err refused) h = absurd (false≢true (sym h))
