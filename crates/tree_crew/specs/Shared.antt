-- The outcome of a step on the board that a walk and its workers share.
use Rattle.std.specs.Prelude.{◌≡◌, ℕ, List, [], IsOk, Option, Some, None, Result, Ok, Err}
use Rattle.std.specs.declared.alloc.AllocError.{AllocError}
use Rattle.jwalk_order.specs.Frontier.{next_address, passed}
use Rattle.jwalk_order.specs.Ordered.{address_of, child_count_of}
use Rattle.jwalk_order.specs.declared.ordered.Ordered.{Ordered}
use Rattle.jwalk_order.specs.Addressed.{addressed}
use Rattle.jwalk_board.specs.declared.board.plan.Plan as Plan
use Rattle.tree_crew.specs.declared.arrival.Arrival.{Arrival}
use Rattle.tree_crew.specs.declared.arrival.Arrival.TheVariants.{Entered, Memory, Lost, Wait}
use Rattle.tree_crew.specs.declared.steps.Turn.{Turn}
use Rattle.tree_crew.specs.declared.steps.Turn.TheVariants as turn
use Rattle.tree_crew.specs.Message.{Message}
use Rattle.tree_crew.specs.Origin.{Origin, IsAt, IsMessageOf}

module _ {J A T U : Type 0} (p : Plan.Ghosts J A T U) (origin : Origin T J) where
  -- What a worker takes is the specification at its address of the walk.
  abbrev pub IsTurnOf : Turn T A → Type 0
  IsTurnOf (turn.Read item) = IsAt p origin (address_of item) item.value
  IsTurnOf turn.Empty = Unit {0}
  IsTurnOf turn.Full = Unit {0}
  IsTurnOf turn.End = Unit {0}

  -- The reading at the first awaited address came, by the walk's own plan and of the specification at that address. These addresses were awaited before it, and those are after it.
  pub record IsReadingAt (before : List (List ℕ)) (item : Ordered (Message T U J) A) (after : List (List ℕ)) : Type 0 where
    pub next : address_of item ≡ next_address before
    pub made : IsOk item.value.outcome
    pub of : IsMessageOf p origin (addressed item)
    pub further : after ≡ passed before (child_count_of item)

  -- what a walk that waits for its next reading finds, by the addresses that are awaited before and after
  abbrev pub IsArrivalOf : List (List ℕ) → Arrival (Message T U J) A → List (List ℕ) → Type 0
  IsArrivalOf before (Entered item) after = IsReadingAt before item after
  IsArrivalOf before Memory after = Unit {0}
  IsArrivalOf before Lost after = (before ≡ []) × (after ≡ before)
  IsArrivalOf before Wait after = after ≡ before

  -- what a walk that waited for its next reading is given in the end
  abbrev pub IsAnswerOf : List (List ℕ) → Result (Option (Ordered (Message T U J) A)) AllocError → List (List ℕ) → Type 0
  IsAnswerOf before (Ok (Some item)) after = IsReadingAt before item after
  IsAnswerOf before (Ok None) after = (before ≡ []) × (after ≡ before)
  IsAnswerOf before (Err refused) after = Unit {0}
