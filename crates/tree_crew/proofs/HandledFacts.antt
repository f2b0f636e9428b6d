-- What a receipt is for.
use Rattle.std.proofs.Common.{◌≡◌, ◌∙◌, ℕ, false, Option, Some, None, inl, refl, sym, ap, subst, box_value}
use Rattle.keyed_slot.specs.Keyed.{receipt_of, IsReceiptOf}
use Rattle.keyed_slot.specs.declared.slot.KeyedSlot.{KeyedSlot}
use Rattle.keyed_slot.specs.declared.slot.Receipt.{Receipt}
use Rattle.jwalk_board.specs.Board.{Board}
use Rattle.tree_crew.specs.declared.arrival.Arrival.{Arrival}
use Rattle.tree_crew.specs.declared.arrival.Arrival.TheVariants.{Entered, Lost, Memory, Wait}
use Rattle.tree_crew.specs.Arrival.{Arrives}
use Rattle.tree_crew.specs.Message.{Message, ran_out}
use Rattle.jwalk_order.specs.declared.ordered.Ordered.{Ordered}
use Rattle.tree_crew.specs.declared.sleepers.Sleepers.{Sleepers}
use Rattle.tree_crew.specs.declared.steps.Called.{Called}
use Rattle.tree_crew.specs.declared.work.Work.{Work}
use Rattle.tree_crew.specs.Handled.{board_in, ArrivesOrIsOut, CallsIfEntered, CallsOrIsOut, IsHandled, IsReceiptFor}
use Rattle.tree_crew.specs.Sleepers.{CallsNobody, CallsTakers}

-- nobody overslept
abbrev pub not_overslept : Sleepers → Sleepers
not_overslept sleepers = record sleepers { overslept = false }

-- A note of who overslept changes nothing of whom is called.
takers_of_noted : {T R : Type 0} (limit : ℕ) (board : Board T R) (before after : Sleepers) (calls : Called) → CallsTakers limit board (not_overslept before) after calls → CallsTakers limit board before after calls
takers_of_noted limit board before after calls told = record { takers = told.takers; may = told.may; workers = told.workers; walk = told.walk; is_full = told.is_full }

module _ {T U J A : Type 0} where
  -- whom the walk calls where a reading came
  pub calls_entered : (limit own : ℕ) (arrival : Arrival (Message T U J) A) (item : Ordered (Message T U J) A) (this board : Board T (Message T U J)) (noted before after : Sleepers) (calls : Called)
      → arrival ≡ Entered item → limit ≡ own → this ≡ board → noted ≡ not_overslept before → CallsTakers limit this noted after calls → CallsIfEntered own arrival board before after calls
  calls_entered limit own arrival item this board noted before after calls came is same note told =
      subst (λ x. CallsIfEntered own x board before after calls) (sym came)
      (takers_of_noted own board before after calls
      (subst (λ s. CallsTakers own board s after calls) note (subst (λ b. CallsTakers own b noted after calls) same (subst (λ l. CallsTakers l this noted after calls) is told))))

  -- where none came
  pub calls_nobody : (limit : ℕ) (arrival : Arrival (Message T U J) A) → ((item : Ordered (Message T U J) A) → ¬ (arrival ≡ Entered item)) → (board : Board T (Message T U J)) (before after : Sleepers) (calls : Called)
      → CallsNobody calls → CallsIfEntered limit arrival board before after calls
  calls_nobody limit (Entered item) other board before after calls nobody = absurd (other item refl)
  calls_nobody limit Memory other board before after calls nobody = nobody
  calls_nobody limit Lost other board before after calls nobody = nobody
  calls_nobody limit Wait other board before after calls nobody = nobody

  -- one step on a board that was taken and put back by the key
  pub handled_on : (step : Board T (Message T U J) → Board T (Message T U J) → Type 0) (was after : Option (Work T U J A) × Option (Work T U J A)) (taken put : Work T U J A) (old new : Board T (Message T U J))
      → was ≡ (Some taken, None) → after ≡ (was.0, Some put) → old ≡ box_value taken.board → box_value put.board ≡ new → step old new → IsHandled step after
  handled_on step was after taken put old new take give from to steps = record {
    old = old;
    new = new;
    taken = ap (λ works. board_in works.0) (give ∙ ap (λ works. (works.0, Some put)) take) ∙ ap Some (sym from);
    put = ap (λ works. board_in works.1) give ∙ ap Some to;
    steps = steps;
  }

  pub arrives_on : (arrival : Arrival (Message T U J) A) (was after : Option (Work T U J A) × Option (Work T U J A)) (taken put : Work T U J A) (old new : Board T (Message T U J))
      → was ≡ (Some taken, None) → after ≡ (was.0, Some put) → old ≡ box_value taken.board → box_value put.board ≡ new → Arrives ran_out old arrival new → ArrivesOrIsOut arrival after
  arrives_on arrival was after taken put old new take give from to steps =
      inl (handled_on (λ old new. Arrives ran_out old arrival new) was after taken put old new take give from to steps)

  pub calls_on : (limit : ℕ) (arrival : Arrival (Message T U J) A) (before after : Sleepers) (calls : Called) (was works : Option (Work T U J A) × Option (Work T U J A)) (taken put : Work T U J A) (old new : Board T (Message T U J))
      → was ≡ (Some taken, None) → works ≡ (was.0, Some put) → old ≡ box_value taken.board → box_value put.board ≡ new → CallsIfEntered limit arrival new before after calls → CallsOrIsOut limit arrival before after calls works
  calls_on limit arrival before after calls was works taken put old new take give from to told =
      inl (handled_on (λ _ board. CallsIfEntered limit arrival board before after calls) was works taken put old new take give from to told)

module _ {T U J A G M : Type 0} where
  pub receipt_for : (slot : KeyedSlot (Work T U J A) A G M) (receipt : Receipt (Work T U J A) G M) (step : Board T (Message T U J) → Board T (Message T U J) → Type 0)
      → (was : Option (Work T U J A)) (old there new : Board T (Message T U J)) → IsReceiptOf receipt slot → (receipt_of receipt).0 ≡ was → board_in was ≡ Some there → old ≡ there
      → board_in (receipt_of receipt).1 ≡ Some new → step old new → IsReceiptFor slot step receipt
  receipt_for slot receipt step was old there new in_slot taken lent is put steps = record {
    in_slot = in_slot;
    handled = record { old = old; new = new; taken = ap board_in taken ∙ lent ∙ ap Some (sym is); put = put; steps = steps };
  }
