-- Tests that a text passes one after another.
use Rattle.std.proofs.Common.{◌≡◌, ◌∙◌, ◌<◌, ◌≤◌, ◌+◌, ℕ, Bool, true, false, ◌&&◌, List, map, length, take, ap, subst, sym}
use Rattle.std.specs.List.{list_all}
use Rattle.std.proofs.Math.ListN.{get_or, set}
use Rattle.std.proofs.Math.Seq.{map-set_same}
use Rattle.std.proofs.lemmas.List.{get_or-map, length-map, take_all}
use Rattle.std.proofs.lemmas.List.Folds.{list_all_at, list_all_more}

module _ {X : Type 0} (takes : X → List ℕ → Bool → Bool) where
  -- a test that takes the same replaces the one before
  pub kept : (tests : List X) (i : ℕ) (next d : X) → takes next ≡ takes (get_or tests i d) → map takes (set tests i next) ≡ map takes tests
  kept tests i next d same = map-set_same takes tests i next d same

module _ {X : Type 0} (takes : X → List ℕ → Bool → Bool) (text : List ℕ) (is_dir : Bool) where
  -- one more test is passed
  pub one_passed : (tests old : List X) (i : ℕ) (d : X) → i < length tests → map takes tests ≡ map takes old → list_all (λ f. f text is_dir) (take i (map takes old)) ≡ true
      → takes (get_or tests i d) text is_dir ≡ true → list_all (λ f. f text is_dir) (take (i + 1) (map takes old)) ≡ true
  one_passed tests old i d below same passed takes_it =
      let within : i < length (map takes old) = subst (λ l. i < length l) same (subst (λ n. i < n) (sym (length-map tests takes)) below) in
      list_all_more (λ f. f text is_dir) (map takes old) i (takes d) within
      ∙ ap (λ b. b && (get_or (map takes old) i (takes d)) text is_dir) passed
      ∙ ap (λ l. get_or l i (takes d) text is_dir) (sym same) ∙ ap (λ f. f text is_dir) (get_or-map takes tests i d (takes d) below) ∙ takes_it

  -- a test isn't passed
  pub one_failed : (tests old : List X) (i : ℕ) (d : X) → i < length tests → map takes tests ≡ map takes old → takes (get_or tests i d) text is_dir ≡ false → false ≡ list_all (λ f. f text is_dir) (map takes old)
  one_failed tests old i d below same refused =
      let within : i < length (map takes old) = subst (λ l. i < length l) same (subst (λ n. i < n) (sym (length-map tests takes)) below) in
      sym (list_all_at (λ f. f text is_dir) (map takes old) i (takes d) within
      (ap (λ l. get_or l i (takes d) text is_dir) (sym same) ∙ ap (λ f. f text is_dir) (get_or-map takes tests i d (takes d) below) ∙ refused))

  -- each was passed
  pub all_passed : (tests old : List X) (i : ℕ) → map takes tests ≡ map takes old → list_all (λ f. f text is_dir) (take i (map takes old)) ≡ true → length tests ≤ i → true ≡ list_all (λ f. f text is_dir) (map takes old)
  all_passed tests old i same passed most =
      let whole : length (map takes old) ≤ i = subst (λ (l : List (List ℕ → Bool → Bool)). length l ≤ i) same (subst (λ n. n ≤ i) (sym (length-map tests takes)) most) in
      sym passed ∙ ap (list_all (λ f. f text is_dir)) (take_all i (map takes old) whole)
