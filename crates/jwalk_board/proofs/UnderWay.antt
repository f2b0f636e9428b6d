-- What a rehearsal keeps over any plan.
use Rattle.std.proofs.Common.{◌≡◌, ℕ, List, ◌∷◌, set, replicate, refl, sym, ap, ◌∙◌, arith, Option, Some, None}
use Rattle.std.proofs.lemmas.Bool.{false≢true}
use Rattle.std.proofs.lemmas.List.{map-set}
use Rattle.std.proofs.lemmas.Option.{slice_get-map}
use Rattle.std.specs.List.{slice_get}
use Rattle.std.specs.Option.{option_map}
use Rattle.jwalk_order.specs.Ordered.{address_of}
use Rattle.jwalk_order.specs.declared.ordered.Ordered.{Ordered}
use Rattle.jwalk_order.specs.Addresses.{times}
use Rattle.jwalk_board.specs.Board.{Board, IsNew, Takes, Finishes}
use Rattle.jwalk_board.specs.Refusal.{RefusesFinish}
use Rattle.jwalk_board.specs.Run.{in_hands}
use Rattle.jwalk_board.specs.Stage.{hands_of, IsUnderWay}
use Rattle.jwalk_board.specs.declared.board.refusal.FinishRefusal.{FinishRefusal}
use Rattle.jwalk_board.specs.declared.board.refusal.FinishRefusal.TheVariants as finishing
use Rattle.jwalk_board.proofs.Hands.{in_hands-taken, in_hands-finished, in_hands-none}
use Rattle.jwalk_board.proofs.Plays.{map_none}
use Rattle.jwalk_order.proofs.Sets.{times-permutation, times-itself}

module _ {T R A : Type 0} where
  pub begins : (specs : List T) (b : Board T R) (workers : ℕ) (hands : List (Option (Ordered T A))) → IsNew specs b → hands ≡ replicate workers None → IsUnderWay hands b
  begins specs b workers hands new empty = record {
    running = new.running;
    in_hand = λ a. ap (times a) (new.in_hand ∙ sym (ap (λ z. in_hands (hands_of z)) empty ∙ ap in_hands (map_none address_of workers) ∙ in_hands-none workers));
  }

  module _ (hands : List (Option (Ordered T A))) (b c : Board T R) (h : IsUnderWay hands b) where
    -- what a worker holds, as its address
    address_in : (k : ℕ) (item : Option (Ordered T A)) → slice_get hands k ≡ Some item → slice_get (hands_of hands) k ≡ Some (option_map address_of item)
    address_in k item e = slice_get-map (option_map address_of) hands k ∙ ap (option_map (option_map address_of)) e

    pub taken : (k : ℕ) (item : Ordered T A) → slice_get hands k ≡ Some None → Takes item b c → IsUnderWay (set hands k (Some item)) c
    taken k item free p = record {
      running = ap (λ z. z.stopped) p.others ∙ h.running;
      in_hand = λ a.
          let more = times-permutation a (address_of item ∷ b.in_hand) c.in_hand p.in_hand in
          let held = in_hands-taken a (address_of item) (hands_of hands) k (address_in k None free) in
          let same = ap (λ z. times a (in_hands z)) (map-set (option_map address_of) hands k (Some item)) in
          omega (arith, more, held, same, h.in_hand a);
    }

    pub finished : (k : ℕ) (item : Ordered T A) (reading : R) (children : List T) → slice_get hands k ≡ Some (Some item) → Finishes (address_of item) reading children b c → IsUnderWay (set hands k None) c
    finished k item reading children holds p = record {
      running = ap (λ z. z.stopped) p.others ∙ h.running;
      in_hand = λ a.
          let fewer = times-permutation a b.in_hand (address_of item ∷ c.in_hand) p.in_hand in
          let held = in_hands-finished a (address_of item) (hands_of hands) k (address_in k (Some item) holds) in
          let same = ap (λ z. times a (in_hands z)) (map-set (option_map address_of) hands k None) in
          omega (arith, fewer, held, same, h.in_hand a);
    }

  -- Finishing what a worker holds fails only because memory runs out.
  pub only_memory : (hands : List (Option (Ordered T A))) (b : Board T R) → IsUnderWay hands b → (k : ℕ) (item : Ordered T A) → slice_get hands k ≡ Some (Some item)
      → (cause : FinishRefusal) → RefusesFinish b (address_of item) cause → cause ≡ finishing.Memory
  only_memory hands b h k item holds finishing.Stopped refused = absurd (false≢true (sym h.running ∙ refused))
  only_memory hands b h k item holds finishing.NotInHand refused =
      let a = address_of item in
      let held = in_hands-finished a a (hands_of hands) k (slice_get-map (option_map address_of) hands k ∙ ap (option_map (option_map address_of)) holds) in
      let there = times-itself a (in_hands (set (hands_of hands) k None)) in
      absurd (refused.1 (omega (arith, held, there, h.in_hand a)))
  only_memory hands b h k item holds finishing.Memory refused = refl
