-- What one reading does to what is still to be read.
use Rattle.std.proofs.Common.{◌≡◌, ◌≢◌, ℕ, zero, suc, ◌+◌, ◌-◌, ◌*◌, ◌^◌, ◌<◌, ◌≤◌, List, [], ◌∷◌, ◌++◌, length, Some, None, option_to_list, Ok, Err, refl, sym, ap, ◌∙◌, arith}
use Rattle.std.proofs.lemmas.Grind.{flat_map-append}
use Rattle.std.specs.Prelude.{flat_map, option_map}
use Rattle.jwalk_model.specs.Entry.{Entry, Item, AtDepth}
use Rattle.jwalk_model.specs.ReadDir.{Spec, Outcome, spec_of, spec_below, children, children_of, list_of, IsLawfulReading, AreClones}
use Rattle.jwalk_model.specs.Held.{bound, spec_weight}
use Rattle.jwalk_model.specs.Preorder.{readings, preorder}
use Rattle.jwalk_model.proofs.CloneFacts.{depths, same_depths}
use Rattle.jwalk_model.proofs.HeldFacts.{bound_pos, below_bound}

module _ {R E : Type 0} (reading : Spec R → Outcome R E) where
  child_readings : (max_depth depth n : ℕ) (state : R) (e : Entry R E) → e.depth ≡ depth → max_depth - depth ≡ n → flat_map (readings reading n) (option_to_list (spec_of {E = E} state (Ok e))) ≡ preorder reading max_depth (option_to_list (spec_of {E = E} state (Ok e)))
  child_readings max_depth depth n state e h levels =
      elim e.read_children as (λ o. flat_map (readings reading n) (option_to_list (option_map (spec_below state e) o)) ≡ preorder reading max_depth (option_to_list (option_map (spec_below state e) o))) [
        | None ↦ refl
        | Some c ↦ ap (λ k. readings reading k (spec_below state e c) ++ []) (sym levels ∙ ap (λ d. max_depth - d) (sym h))
      ]

  -- what is read below a list is its preorder
  list_readings : (max_depth depth n : ℕ) (state : R) (l : List (Item R E)) → AtDepth depth l → max_depth - depth ≡ n → flat_map (readings reading n) (flat_map (λ item. option_to_list (spec_of state item)) l) ≡ preorder reading max_depth (flat_map (λ item. option_to_list (spec_of state item)) l)
  list_readings max_depth depth n state [] a levels = refl
  list_readings max_depth depth n state (Err f ∷ l) a levels = list_readings max_depth depth n state l a levels
  list_readings max_depth depth n state (Ok e ∷ l) a levels =
      let mine : List (Spec R) = option_to_list (spec_of {E = E} state (Ok e)) in
      let others : List (Spec R) = flat_map (λ item. option_to_list (spec_of state item)) l in
      flat_map-append (readings reading n) mine others
      ∙ ap (λ t. t ++ flat_map (readings reading n) others) (child_readings max_depth depth n state e a.0 levels)
      ∙ ap (λ t. preorder reading max_depth mine ++ t) (list_readings max_depth depth n state l a.1 levels)
      ∙ sym (flat_map-append (λ spec. readings reading (max_depth - spec.depth) spec) mine others)

  first_readings : (max_depth n : ℕ) (s : Spec R) (outcome : Outcome R E) → outcome ≡ reading s → IsLawfulReading max_depth s outcome → max_depth - s.depth ≡ n → readings reading n s ≡ outcome ∷ preorder reading max_depth (children_of outcome)
  unfolding readings
  first_readings max_depth zero s (Ok r) is lawful levels =
      let none : r.list ≡ [] = lawful.1 (omega arith) in
      rw (← is, none) refl
  first_readings max_depth zero s (Err f) is lawful levels = rw (← is) refl
  first_readings max_depth (suc n) s (Ok r) is lawful levels = rw (← is) (ap (λ t. Ok r ∷ t) (list_readings max_depth (s.depth + 1) n r.state r.list lawful.0 (omega arith)))
  first_readings max_depth (suc n) s (Err f) is lawful levels = rw (← is) refl

  -- the first reading, and then the preorder of what is left
  pub preorder-first : (max_depth : ℕ) (first : Spec R) (rest : List (Spec R)) (outcome : Outcome R E) → IsLawfulReading max_depth first outcome → outcome ≡ reading first → preorder reading max_depth (first ∷ rest) ≡ outcome ∷ preorder reading max_depth (children_of outcome ++ rest)
  preorder-first max_depth first rest outcome lawful is =
      rw (flat_map-append (λ spec. readings reading (max_depth - spec.depth) spec) (children_of outcome) rest, first_readings max_depth (max_depth - first.depth) first outcome is lawful refl)
      refl

module _ {R : Type 0} where
  same_spec_weight : (max_depth : ℕ) (ss ts : List (Spec R)) → depths ss ≡ depths ts → spec_weight max_depth ss ≡ spec_weight max_depth ts
  same_spec_weight max_depth [] [] h = refl
  same_spec_weight max_depth [] (t ∷ ts) h = cc
  same_spec_weight max_depth (s ∷ ss) [] h = cc
  same_spec_weight max_depth (s ∷ ss) (t ∷ ts) h =
      let head : s.depth ≡ t.depth = cc in
      let tail : depths ss ≡ depths ts = cc in
      rw head (ap (λ n. bound (max_depth - t.depth) + n) (same_spec_weight max_depth ss ts tail))

  spec_weight-append : (max_depth : ℕ) (ss ts : List (Spec R)) → spec_weight max_depth (ss ++ ts) ≡ spec_weight max_depth ss + spec_weight max_depth ts
  spec_weight-append max_depth [] ts = omega arith
  spec_weight-append max_depth (s ∷ ss) ts = omega (arith, spec_weight-append max_depth ss ts)

module _ {R E : Type 0} where
  one_spec : (max_depth depth : ℕ) (state : R) (e : Entry R E) → e.depth ≡ depth → spec_weight max_depth (option_to_list (spec_of {E = E} state (Ok e))) ≤ bound (max_depth - depth)
  one_spec max_depth depth state e h =
      elim e.read_children as (λ o. spec_weight max_depth (option_to_list (option_map (spec_below state e) o)) ≤ bound (max_depth - depth)) [
        | None ↦ omega (arith, bound_pos (max_depth - depth))
        | Some c ↦ rw h (omega arith)
      ]

  spec_weight-children : (max_depth depth : ℕ) (state : R) (l : List (Item R E)) → AtDepth depth l → spec_weight max_depth (flat_map (λ item. option_to_list (spec_of state item)) l) ≤ length l * bound (max_depth - depth)
  spec_weight-children max_depth depth state [] a = omega arith
  spec_weight-children max_depth depth state (Err f ∷ l) a = omega (arith, spec_weight-children max_depth depth state l a)
  spec_weight-children max_depth depth state (Ok e ∷ l) a =
      let mine : List (Spec R) = option_to_list (spec_of {E = E} state (Ok e)) in
      let others : List (Spec R) = flat_map (λ item. option_to_list (spec_of state item)) l in
      omega (arith, spec_weight-append max_depth mine others, spec_weight-children max_depth depth state l a.1, one_spec max_depth depth state e a.0)

  fewer_at : (max_depth n : ℕ) (s : Spec R) (outcome : Outcome R E) → IsLawfulReading max_depth s outcome → length (list_of outcome) < 2 ^ 64 → max_depth - s.depth ≡ n → spec_weight max_depth (children_of outcome) < bound n
  fewer_at max_depth n s (Err f) lawful few levels = bound_pos n
  fewer_at max_depth zero s (Ok r) lawful few levels =
      let none : r.list ≡ [] = lawful.1 (omega arith) in
      rw none (bound_pos 0)
  fewer_at max_depth (suc n) s (Ok r) lawful few levels =
      below_bound n (length r.list) (spec_weight max_depth (children r)) few
      (let same : max_depth - (s.depth + 1) ≡ n = omega arith in rw same at (spec_weight-children max_depth (s.depth + 1) r.state r.list lawful.0))

  -- reading the first makes what is to be read weigh less
  pub fewer_to_read : (max_depth : ℕ) (is_clone : R → R → Type 0) (first : Spec R) (rest front : List (Spec R)) (outcome : Outcome R E) → IsLawfulReading max_depth first outcome → length (list_of outcome) < 2 ^ 64 → AreClones is_clone (children_of outcome) front → spec_weight max_depth (front ++ rest) < spec_weight max_depth (first ∷ rest)
  fewer_to_read max_depth is_clone first rest front outcome lawful few clones =
      rw (same_spec_weight max_depth (front ++ rest) (children_of outcome ++ rest) (same_depths is_clone (children_of outcome) front rest clones), spec_weight-append max_depth (children_of outcome) rest)
      (omega (arith, fewer_at max_depth (max_depth - first.depth) first outcome lawful few refl))

-- what is still to be read isn't nothing
pub heavy_specs : {R : Type 0} (max_depth : ℕ) (specs : List (Spec R)) → specs ≢ [] → 0 < spec_weight max_depth specs
heavy_specs max_depth [] some = absurd (some refl)
heavy_specs max_depth (s ∷ ss) some = omega (arith, bound_pos (max_depth - s.depth))
