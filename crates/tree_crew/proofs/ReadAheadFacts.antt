-- At each step on a board, what is ready or in hand stays at most the limit and one.
use Rattle.std.proofs.Common.{◌≡◌, ◌⊎◌, ℕ, suc, ◌≤◌, Bool, true, false, not, cond, List, [], ◌∷◌, ◌++◌, length, length-append, inl, inr, sym, ap, ◌∙◌, subst, arith}
use Rattle.std.specs.List.{filter}
use Rattle.std.proofs.lemmas.Bool.{false≢true}
use Rattle.std.proofs.lemmas.List.Sorted.{length_permutation}
use Rattle.jwalk_order.specs.Addressed.{addressed}
use Rattle.jwalk_order.specs.Frontier.{next_address}
use Rattle.jwalk_order.specs.IndexPath.{is_within}
use Rattle.jwalk_order.specs.Ordered.{address_of}
use Rattle.jwalk_order.specs.declared.ordered.Ordered.{Ordered}
use Rattle.jwalk_board.specs.Board.{Board, IsNew, Takes, HandsOut, Finishes}
use Rattle.jwalk_board.specs.Skip.{SkipsNext}
use Rattle.tree_crew.specs.Handled.{FinishesOrStops}
use Rattle.tree_crew.specs.ReadAhead.{ready_or_in_hand, CountsTakers, IsWithin, MayTake}
use Rattle.tree_crew.specs.Steps.{Turns}
use Rattle.tree_crew.specs.declared.steps.Turn.{Turn}
use Rattle.tree_crew.specs.declared.steps.Turn.TheVariants as turn

fewer_pass : {X : Type 0} (p : X → Bool) (xs : List X) → length (filter p xs) ≤ length xs
fewer_pass p [] = omega arith
fewer_pass p (x ∷ xs) =
    elim (p x) as (λ b. length (cond b (x ∷ filter p xs) (filter p xs)) ≤ suc (length xs)) [
      | true ↦ omega (arith, fewer_pass p xs)
      | false ↦ omega (arith, fewer_pass p xs)
    ]

module _ {T R : Type 0} (b : Board T R) (limit : ℕ) (is_full : Bool) where
  -- where something may be taken, no more than the limit are ready or in hand
  pub may_most : MayTake limit is_full b → ready_or_in_hand b ≤ limit
  may_most may = elim may [
    | inl free ↦ omega (arith, free.2)
    | inr next ↦ next.1
  ]

module _ {T R : Type 0} (limit : ℕ) (old new : Board T R) where
  -- What is taken was queued, and so it might be.
  pub taken_may : {A : Type 0} (is_full : Bool) (item : Ordered T A) → (old.stopped ≡ true) ⊎ ((old.queued ≡ []) ⊎ MayTake limit is_full old) → Takes item old new → MayTake limit is_full old
  taken_may is_full item free takes = elim free [
    | inl stopped ↦ absurd (false≢true (sym takes.running ∙ stopped))
    | inr others ↦ elim others [
      | inl none ↦
          let count : length (addressed item ∷ new.queued) ≡ length old.queued = length_permutation _ _ takes.queued in
          let empty : length old.queued ≡ 0 = ap length none in
          absurd (omega (arith, count, empty))
      | inr may ↦ may
    ]
  ]

  pub same_within : new ≡ old → IsWithin limit old → IsWithin limit new
  same_within is within = subst (IsWithin limit) (sym is) within

  pub stopped_within : new ≡ record old { stopped = true } → IsWithin limit old → IsWithin limit new
  stopped_within is within = subst (IsWithin limit) (sym is) within

  pub taken_within : {A : Type 0} (item : Ordered T A) → Takes item old new → ready_or_in_hand old ≤ limit → IsWithin limit new
  taken_within item takes most =
      let in_hand : length new.in_hand ≡ length (address_of item ∷ old.in_hand) = length_permutation _ _ takes.in_hand in
      let ready : length new.ready ≡ length old.ready = ap (λ b. length b.ready) takes.others in
      omega (arith, in_hand, ready, most)

  pub finished_within : (a : List ℕ) (reading : R) (children : List T) → Finishes a reading children old new → IsWithin limit old → IsWithin limit new
  finished_within a reading children done within =
      let in_hand : length (a ∷ new.in_hand) ≡ length old.in_hand = length_permutation _ _ done.in_hand in
      let ready : length new.ready ≡ suc (length old.ready) = length_permutation _ _ done.ready in
      omega (arith, in_hand, ready, within)

  pub handed_within : {A : Type 0} (item : Ordered R A) → HandsOut item old new → IsWithin limit old → IsWithin limit new
  handed_within item out within =
      let ready : length (addressed item ∷ new.ready) ≡ length old.ready = length_permutation _ _ out.ready in
      let in_hand : length new.in_hand ≡ length old.in_hand = ap (λ b. length b.in_hand) out.others in
      omega (arith, in_hand, ready, within)

  pub turned_within : {A : Type 0} (is_full : Bool) (t : Turn T A) → Turns limit is_full old t new → IsWithin limit old → IsWithin limit new
  turned_within is_full (turn.Read item) takes within = taken_within item takes.1 (may_most old limit is_full takes.0)
  turned_within is_full turn.Empty refused within = same_within refused.1 within
  turned_within is_full turn.Full held within = same_within held.1 within
  turned_within is_full turn.End ends within = elim ends [
    | inl refused ↦ same_within refused.1 within
    | inr stopped ↦ stopped_within stopped.1 within
  ]

  pub handed_in_within : (a : List ℕ) (reading : R) (children : List T) → FinishesOrStops a reading children old new → IsWithin limit old → IsWithin limit new
  handed_in_within a reading children (inl done) within = finished_within a reading children done within
  handed_in_within a reading children (inr (inl stopped)) within = stopped_within stopped.stops within
  handed_in_within a reading children (inr (inr late)) within = same_within late.unchanged within

  pub skipped_within : SkipsNext old new → IsWithin limit old → IsWithin limit new
  skipped_within (inl nothing) within = same_within nothing.1 within
  skipped_within (inr skips) within =
      let ready : length (skips.ready.gone ++ new.ready) ≡ length old.ready = length_permutation _ _ skips.ready.leave in
      let in_hand : length new.in_hand ≡ length (filter (λ a. not (is_within (next_address old.frontier) a)) old.in_hand) = ap length skips.in_hand in
      omega (arith, ready, length-append skips.ready.gone new.ready, in_hand, fewer_pass (λ a. not (is_within (next_address old.frontier) a)) old.in_hand, within)

pub new_within : {T R : Type 0} (limit : ℕ) (specs : List T) (b : Board T R) → IsNew specs b → IsWithin limit b
new_within limit specs b new =
    let ready : length b.ready ≡ 0 = ap length new.ready in
    let in_hand : length b.in_hand ≡ 0 = ap length new.in_hand in
    omega (arith, ready, in_hand)

module _ {T R A : Type 0} (limit own : ℕ) (is_full noted : Bool) (is : limit ≡ own) (same : is_full ≡ noted) (t : Turn T A) (old new : Board T R) where
  -- A turn at this limit is one at the limit that the slot has.
  pub turns_at : Turns limit is_full old t new → Turns own noted old t new
  turns_at turns = subst (λ l. Turns l noted old t new) is (subst (λ r. Turns limit r old t new) same turns)

pub takers_at : {T R : Type 0} (limit own : ℕ) (is_full noted : Bool) → limit ≡ own → is_full ≡ noted → (this that : Board T R) → this ≡ that → (count : ℕ) → CountsTakers limit is_full this count → CountsTakers own noted that count
takers_at limit own is_full noted is same this that board count counts =
    subst (λ l. CountsTakers l noted that count) is (subst (λ r. CountsTakers limit r that count) same (subst (λ b. CountsTakers limit is_full b count) board counts))
