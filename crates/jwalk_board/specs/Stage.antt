-- A rehearsal under way, and as its values are seen.
use Rattle.std.specs.Prelude.{◌≡◌, ℕ, false, List, map, Option, Result, IfOk}
use Rattle.std.specs.Option.{option_map}
use Rattle.jwalk_order.specs.IndexPath.{address}
use Rattle.jwalk_order.specs.Ordered.{address_of}
use Rattle.jwalk_order.specs.declared.ordered.Ordered.{Ordered}
use Rattle.jwalk_order.specs.Addressed.{addresses_of}
use Rattle.jwalk_order.specs.Addresses.{times}
use Rattle.jwalk_board.specs.Board.{Board}
use Rattle.jwalk_board.specs.Plan.{PlanTree, Falls, specs_in_preorder, readings_in_preorder}
use Rattle.jwalk_board.specs.Run.{in_hands, run_of_moves}
use Rattle.jwalk_board.specs.Rehearsal.{Rehearsed, IsInOrder, MatchesRun, PlaysMove, Stage as State}
use Rattle.jwalk_board.specs.Seen.{seen_item, seen_board}
use Rattle.jwalk_board.specs.declared.board.moves.Move.{Move}
use Rattle.jwalk_board.specs.declared.board.plan.Plan as Plan
use Rattle.jwalk_board.specs.declared.board.rehearsal.Rehearsal.{Rehearsal}
use Rattle.jwalk_board.specs.declared.board.stage.Stage.{Stage}

module _ {T R S Q A : Type 0} (spec : T → S) (reading : R → Q) where
  abbrev pub rehearsed : Rehearsal T R A → Rehearsed S Q
  rehearsed done = record { handed_out = map (seen_item reading) done.handed_out.items; taken = map address done.taken.items; board = seen_board spec reading done.board }

  abbrev pub stage_of : Stage T R A → State S Q
  stage_of stage = record { hands = map (option_map (seen_item spec)) stage.hands.items; made = rehearsed stage.done }

-- the addresses of what each worker holds
abbrev pub hands_of : {T A : Type 0} → List (Option (Ordered T A)) → List (Option (List ℕ))
hands_of = map (option_map address_of)

-- What holds over any plan: nothing stops the board, and what is in hand is what the workers hold.
pub record IsUnderWay {T R A : Type 0} (hands : List (Option (Ordered T A))) (b : Board T R) : Type 0 where
  pub running : b.stopped ≡ false
  pub in_hand : (a : List ℕ) → times a b.in_hand ≡ times a (in_hands (hands_of hands))

module _ {J A T U : Type 0} (p : Plan.Ghosts J A T U) where
  module _ {F : Type 0} (next : Move) (old : Stage T U A) (result : Result (Unit {0}) F) (new : Stage T U A) where
    -- A move without a reading is played as on the addresses of a tree, whichever it is.
    abbrev pub PlaysOnAny : Type 0
    PlaysOnAny = (given : p.Given) (t : PlanTree p.SpecValue p.ReadingValue) (roots : List p.SpecValue) → Falls t
        → PlaysMove t roots next (stage_of (p.spec_value given) (p.reading_value given) old) result (stage_of (p.spec_value given) (p.reading_value given) new)

    -- A move is played as on the addresses of a plan's tree, over all that the plan is fixed over.
    abbrev pub PlaysByPlan : J → Type 0
    PlaysByPlan plan = (given : p.Given) → p.IsFixed plan given → (roots : List p.SpecValue)
        → PlaysMove (p.tree plan given) roots next (stage_of (p.spec_value given) (p.reading_value given) old) result (stage_of (p.spec_value given) (p.reading_value given) new)

  module _ {F : Type 0} (plan : J) (roots : List T) (result : Result (Rehearsal T U A) F) where
    -- What these workers' moves make is what the run of the moves leaves on the addresses of the plan's tree, over all that the plan is fixed over.
    abbrev pub MatchesMoves : ℕ → List Move → Type 0
    MatchesMoves workers moves = (given : p.Given) → p.IsFixed plan given → IfOk result (λ made.
        let specs = map (p.spec_value given) roots in
        MatchesRun (p.tree plan given) specs (run_of_moves (addresses_of (specs_in_preorder (p.tree plan given) specs)) workers moves) (rehearsed (p.spec_value given) (p.reading_value given) made))

    -- What was handed out is in the order of the plan's tree, over all that the plan is fixed over.
    abbrev pub HandsOutInOrder : Type 0
    HandsOutInOrder = (given : p.Given) → p.IsFixed plan given → IfOk result (λ made.
        IsInOrder (readings_in_preorder (p.tree plan given) (map (p.spec_value given) roots)) (rehearsed (p.spec_value given) (p.reading_value given) made))
