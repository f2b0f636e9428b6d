-- What one hold of their lock does to the board that a walk and its workers share.
use Rattle.std.specs.Prelude.{◌≡◌, ◌⊎◌, ℕ, Bool, true, List, Option, Some, None, option_map, Result, Ok, Err, box_value, IsTrue, length}
use Rattle.keyed_slot.specs.Keyed.{receipt_of, IsReceiptOf, WasEmpty}
use Rattle.keyed_slot.specs.declared.slot.Empty.{Empty}
use Rattle.keyed_slot.specs.declared.slot.KeyedSlot.{KeyedSlot}
use Rattle.keyed_slot.specs.declared.slot.Receipt.{Receipt}
use Rattle.jwalk_order.specs.Addresses.{IsAmong}
use Rattle.jwalk_order.specs.IndexPath.{address}
use Rattle.jwalk_board.specs.Board.{Board, Finishes, IsNextReady}
use Rattle.tree_crew.specs.declared.arrival.Arrival.{Arrival}
use Rattle.tree_crew.specs.declared.arrival.Arrival.TheVariants.{Entered, Lost, Memory, Wait}
use Rattle.tree_crew.specs.Arrival.{Arrives}
use Rattle.tree_crew.specs.Message.{Message, ran_out}
use Rattle.tree_crew.specs.declared.hand_in.HandIn.{HandIn}
use Rattle.tree_crew.specs.declared.sleepers.Sleepers.{Sleepers}
use Rattle.tree_crew.specs.declared.steps.Called.{Called}
use Rattle.tree_crew.specs.declared.steps.Turn.{Turn}
use Rattle.tree_crew.specs.declared.steps.Turn.TheVariants.{End}
use Rattle.tree_crew.specs.declared.work.Work.{Work}
use Rattle.tree_crew.specs.ReadAhead.{CountsTakers}
use Rattle.tree_crew.specs.Sleepers.{CallsNobody, CallsTakers}
use Rattle.tree_crew.specs.Steps.{Turns}

module _ {T R : Type 0} where
  -- The board is stopped, and is otherwise unchanged.
  abbrev pub Stops : Board T R → Board T R → Type 0
  Stops old new = new ≡ record old { stopped = true }

  -- The address of a reading isn't in hand any more, since it was passed over, and the board is unchanged.
  pub record ComesLate (a : List ℕ) (old new : Board T R) : Type 0 where
    pub not_in_hand : ¬ IsAmong a old.in_hand
    pub unchanged : new ≡ old

  -- The board was stopped before, or is stopped while the address is in hand, since memory ran out.
  pub record StopsAt (a : List ℕ) (old new : Board T R) : Type 0 where
    pub cause : (old.stopped ≡ true) ⊎ IsAmong a old.in_hand
    pub stops : Stops old new

  -- A reading is finished on the board, or comes too late for it, or the board is stopped.
  abbrev pub FinishesOrStops : List ℕ → R → List T → Board T R → Board T R → Type 0
  FinishesOrStops a reading children old new = Finishes a reading children old new ⊎ (StopsAt a old new ⊎ ComesLate a old new)

  -- A worker's turn at this limit. It calls as many workers as may take something then, if there will be another turn, and the walk where its next reading is ready.
  pub record TurnsAndCalls {A : Type 0} (limit : ℕ) (is_full : Bool) (turn : Turn T A) (calls : Called) (old new : Board T R) : Type 0 where
    pub turns : Turns limit is_full old turn new
    pub calls_workers : ¬ (turn ≡ End) → CountsTakers limit is_full new calls.workers
    pub calls_walk : IsNextReady new → IsTrue calls.walk

  -- How many readings are ready.
  pub record Counts (count : ℕ) (old new : Board T R) : Type 0 where
    pub count_is : count ≡ length old.ready
    pub unchanged : new ≡ old

module _ {T U J A : Type 0} where
  -- the board of what lay in a slot
  abbrev pub board_in : Option (Work T U J A) → Option (Board T (Message T U J))
  board_in work = option_map (λ w. box_value w.board) work

  -- This board was taken, and put back after this step on it.
  pub record IsHandled (step : Board T (Message T U J) → Board T (Message T U J) → Type 0) (works : Option (Work T U J A) × Option (Work T U J A)) : Type 0 where
    pub old : Board T (Message T U J)
    pub new : Board T (Message T U J)
    pub taken : board_in works.0 ≡ Some old
    pub put : board_in works.1 ≡ Some new
    pub steps : step old new

  -- Whom the walk calls: where a reading came, as many workers as may take something then, and otherwise nobody.
  abbrev pub CallsIfEntered : ℕ → Arrival (Message T U J) A → Board T (Message T U J) → Sleepers → Sleepers → Called → Type 0
  CallsIfEntered limit (Entered item) board before after calls = CallsTakers limit board before after calls
  CallsIfEntered limit Memory board before after calls = CallsNobody calls
  CallsIfEntered limit Lost board before after calls = CallsNobody calls
  CallsIfEntered limit Wait board before after calls = CallsNobody calls

  -- What the walk finds is what the hand-out gave; the board was taken and put back by the key. Or the board is out: the walk ends, and the key found nothing.
  abbrev pub ArrivesOrIsOut : Arrival (Message T U J) A → Option (Work T U J A) × Option (Work T U J A) → Type 0
  ArrivesOrIsOut arrival works = IsHandled (λ old new. Arrives ran_out old arrival new) works ⊎ ((arrival ≡ Memory) × (works ≡ (None, None)))

  -- The same, but where the reading isn't ready and the board was missed before, the walk ends too.
  abbrev pub ArrivesUnlessMissed : Bool → Arrival (Message T U J) A → Option (Work T U J A) × Option (Work T U J A) → Type 0
  ArrivesUnlessMissed missed arrival works = ArrivesOrIsOut arrival works ⊎ ((arrival ≡ Memory) × (missed ≡ true) × ArrivesOrIsOut Wait works)

  -- The key asked the board: memory ran out, or the board was out, or the reading wasn't ready.
  abbrev pub WasAsked : Option (Work T U J A) × Option (Work T U J A) → Type 0
  WasAsked works = ArrivesOrIsOut Memory works ⊎ ArrivesOrIsOut Wait works

  -- Whom the walk calls goes by the board that it put back by the key; or the board is out, and it calls nobody.
  abbrev pub CallsOrIsOut : ℕ → Arrival (Message T U J) A → Sleepers → Sleepers → Called → Option (Work T U J A) × Option (Work T U J A) → Type 0
  CallsOrIsOut limit arrival before after calls works = IsHandled (λ _ board. CallsIfEntered limit arrival board before after calls) works ⊎ CallsNobody calls

  -- The receipt is for the board of this slot, which was taken and put back after this step on it.
  pub record IsReceiptFor {G M : Type 0} (slot : KeyedSlot (Work T U J A) A G M) (step : Board T (Message T U J) → Board T (Message T U J) → Type 0) (receipt : Receipt (Work T U J A) G M) : Type 0 where
    pub in_slot : IsReceiptOf receipt slot
    pub handled : IsHandled step (receipt_of receipt)

  -- The board wasn't in this slot, which is noted under the lock from now on.
  pub record IsMissed {G M : Type 0} (slot : KeyedSlot (Work T U J A) A G M) (sleepers : Sleepers) (empty : Empty (Work T U J A) G M) : Type 0 where
    pub absent : WasEmpty empty slot
    pub noted : sleepers.board_missed ≡ true

  -- What was read, if anything, was handed in: the receipt is for a board on which it is finished, or for which it comes too late, or which is stopped. Or the board was missed.
  abbrev pub IsHandedIn : {G M : Type 0} → KeyedSlot (Work T U J A) A G M → (Empty (Work T U J A) G M → Type 0) → Option (HandIn T U J A) → Option (Result (Receipt (Work T U J A) G M) (Empty (Work T U J A) G M)) → Type 0
  IsHandedIn slot missed None handed = Unit {0}
  IsHandedIn slot missed (Some read) None = ⊥
  IsHandedIn slot missed (Some read) (Some (Ok receipt)) = IsReceiptFor slot (FinishesOrStops (address read.address) read.message read.children.items) receipt
  IsHandedIn slot missed (Some read) (Some (Err empty)) = missed empty
