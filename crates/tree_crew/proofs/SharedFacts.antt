-- A board that comes from where a walk began stays so at each step on it. Only a hand-out changes what it still has to hand out.
use Rattle.std.proofs.Common.{◌≡◌, ◌∙◌, ◌++◌, Bool, true, inl, inr, sym, ap, subst, List, ℕ}
use Rattle.std.proofs.lemmas.List.Sorted.{All-permutation}
use Rattle.jwalk_order.specs.Frontier.{passed}
use Rattle.jwalk_order.specs.declared.ordered.Ordered.{Ordered}
use Rattle.jwalk_board.specs.Board.{Board, HandsOut}
use Rattle.jwalk_board.specs.Skip.{SkipsNext}
use Rattle.jwalk_board.proofs.Skips.{All-right}
use Rattle.jwalk_board.specs.declared.board.plan.Plan as Plan
use Rattle.tree_crew.specs.declared.arrival.Arrival.{Arrival}
use Rattle.tree_crew.specs.declared.arrival.Arrival.TheVariants.{Entered, Memory, Lost, Wait}
use Rattle.tree_crew.specs.declared.steps.Turn.{Turn}
use Rattle.tree_crew.specs.declared.steps.Turn.TheVariants as turn
use Rattle.tree_crew.specs.Arrival.{Arrives}
use Rattle.tree_crew.specs.Handled.{FinishesOrStops}
use Rattle.tree_crew.specs.Message.{Message, ran_out}
use Rattle.tree_crew.specs.Origin.{Origin, IsBoardOf, IsMadeAt, IsAt, IsMessageOf}
use Rattle.tree_crew.specs.Shared.{IsTurnOf, IsArrivalOf}
use Rattle.tree_crew.specs.Steps.{Turns}
use Rattle.tree_crew.specs.ReadAhead.{IsWithin}
use Rattle.tree_crew.proofs.ArrivalFacts.{made_of}
use Rattle.tree_crew.proofs.ReadAheadFacts.{handed_within, same_within}
use Rattle.tree_crew.proofs.OriginFacts.{ChildrenAreGiven, taken_of, handed_of, finished_of, stopped_of}

module _ {S R : Type 0} (old new : Board S R) where
  pub stopped_frontier : new ≡ record old { stopped = true } → new.frontier ≡ old.frontier
  stopped_frontier is = ap (λ b. b.frontier) is

  pub turned_frontier : {A : Type 0} (limit : ℕ) (is_full : Bool) (t : Turn S A) → Turns limit is_full old t new → new.frontier ≡ old.frontier
  turned_frontier limit is_full (turn.Read item) takes = ap (λ b. b.frontier) takes.1.others
  turned_frontier limit is_full turn.Empty refused = ap (λ b. b.frontier) refused.1
  turned_frontier limit is_full turn.Full held = ap (λ b. b.frontier) held.1
  turned_frontier limit is_full turn.End ends = elim ends [
    | inl refused ↦ ap (λ b. b.frontier) refused.1
    | inr stopped ↦ stopped_frontier stopped.1
  ]

  pub handed_in_frontier : (a : List ℕ) (reading : R) (children : List S) → FinishesOrStops a reading children old new → new.frontier ≡ old.frontier
  handed_in_frontier a reading children (inl done) = ap (λ b. b.frontier) done.others
  handed_in_frontier a reading children (inr (inl stopped)) = stopped_frontier stopped.stops
  handed_in_frontier a reading children (inr (inr late)) = ap (λ b. b.frontier) late.unchanged

  -- What is passed over leaves the frontier.
  pub skipped_frontier : SkipsNext old new → new.frontier ≡ passed old.frontier 0
  skipped_frontier (inl nothing) = ap (λ b. b.frontier) nothing.1 ∙ nothing.0 ∙ ap (λ f. passed f 0) (sym nothing.0)
  skipped_frontier (inr skips) = ap (λ b. b.frontier) skips.others

module _ {J A T U : Type 0} (p : Plan.Ghosts J A T U) (origin : Origin T J) (old new : Board T (Message T U J)) (of : IsBoardOf p origin old) where
  pub same_of : new ≡ old → IsBoardOf p origin new
  same_of is = subst (IsBoardOf p origin) (sym is) of

  pub turned_of : (limit : ℕ) (is_full : Bool) (t : Turn T A) → Turns limit is_full old t new → IsTurnOf p origin t × IsBoardOf p origin new
  turned_of limit is_full (turn.Read item) takes = taken_of p origin old new of item takes.1
  turned_of limit is_full turn.Empty refused = (tt, same_of refused.1)
  turned_of limit is_full turn.Full held = (tt, same_of held.1)
  turned_of limit is_full turn.End ends = elim ends [
    | inl refused ↦ (tt, same_of refused.1)
    | inr stopped ↦ (tt, stopped_of p origin old new of stopped.1)
  ]

  handed_board : (item : Ordered (Message T U J) A) → HandsOut item old new → IsBoardOf p origin new
  handed_board item out = (handed_of p origin old new of item out).1

  pub arrived_board : (a : Arrival (Message T U J) A) → Arrives ran_out old a new → IsBoardOf p origin new
  arrived_board (Entered item) comes = handed_board item comes.0
  arrived_board Memory comes = elim comes [
    | inl refused ↦ same_of refused.unchanged
    | inr others ↦ elim others [
      | inl refused ↦ same_of refused.unchanged
      | inr gives ↦ handed_board gives.item gives.hands_out
    ]
  ]
  arrived_board Lost comes = same_of comes.unchanged
  arrived_board Wait comes = same_of comes.unchanged

  pub arrived_within : (limit : ℕ) (a : Arrival (Message T U J) A) → Arrives ran_out old a new → IsWithin limit old → IsWithin limit new
  arrived_within limit (Entered item) comes within = handed_within limit old new item comes.0 within
  arrived_within limit Memory comes within = elim comes [
    | inl refused ↦ same_within limit old new refused.unchanged within
    | inr others ↦ elim others [
      | inl refused ↦ same_within limit old new refused.unchanged within
      | inr gives ↦ handed_within limit old new gives.item gives.hands_out within
    ]
  ]
  arrived_within limit Lost comes within = same_within limit old new comes.unchanged within
  arrived_within limit Wait comes within = same_within limit old new comes.unchanged within

  pub arrived_of : (a : Arrival (Message T U J) A) → Arrives ran_out old a new → IsArrivalOf p origin old.frontier a new.frontier
  arrived_of (Entered item) comes = record {
    next = comes.0.next;
    made = made_of item.value.outcome comes.1;
    of = (handed_of p origin old new of item comes.0).0;
    further = ap (λ b. b.frontier) comes.0.others;
  }
  arrived_of Memory comes = tt
  arrived_of Lost comes = (comes.refused.1, ap (λ b. b.frontier) comes.unchanged)
  arrived_of Wait comes = ap (λ b. b.frontier) comes.unchanged

  pub handed_in_of : ChildrenAreGiven p → (a : List ℕ) (message : Message T U J) (children : List T) → IsMadeAt p origin a message children → FinishesOrStops a message children old new → IsBoardOf p origin new
  handed_in_of law a message children made (inl done) = finished_of p origin old new of law a message children made done
  handed_in_of law a message children made (inr (inl stopped)) = stopped_of p origin old new of stopped.stops
  handed_in_of law a message children made (inr (inr late)) = same_of late.unchanged

  pub skipped_of : SkipsNext old new → IsBoardOf p origin new
  skipped_of (inl nothing) = same_of nothing.1
  skipped_of (inr skips) = record {
    queued = All-right (λ x. IsAt p origin x.at x.value) skips.queued.gone new.queued (All-permutation (λ x. IsAt p origin x.at x.value) old.queued (skips.queued.gone ++ new.queued) skips.queued.leave of.queued);
    ready = All-right (IsMessageOf p origin) skips.ready.gone new.ready (All-permutation (IsMessageOf p origin) old.ready (skips.ready.gone ++ new.ready) skips.ready.leave of.ready);
  }
