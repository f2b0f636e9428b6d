-- Listings whose items are some levels deeper than another's.
use Prim.Native.Nat.{zero}
use Rattle.std.proofs.Common.{◌≡◌, ◌∙◌, ℕ, suc, List, [], ◌∷◌, map, flat_map, Option, Some, None, Ok, Err, ap, refl, sym}
use Rattle.std.proofs.lemmas.List.{map-append}
use Rattle.std.specs.Prelude.{option_map}
use Rattle.jwalk_model.specs.Error.{Failure}
use Rattle.jwalk_model.specs.Entry.{Children, Item, failed, with_error}
use Rattle.jwalk_model.specs.ReadDir.{Spec, Outcome, spec_of}
use Rattle.jwalk_model.specs.Listing.{Source, source_of, pair, pairs_of, after_reading, stands, below}
use Rattle.jwalk_ignore_laws.specs.Deeper.{children_deeper, entry_deeper, failure_deeper, item_deeper}

module _ {R E : Type 0} (levels : ℕ) where
  error_deeper : (f : Failure) (x : Item R E) → with_error (failure_deeper levels f) (item_deeper levels x) ≡ item_deeper levels (with_error f x)
  error_deeper f (Err g) = refl
  error_deeper f (Ok e) = ap (λ (o : Option (Children R)). let made : Item R E = Ok (record (entry_deeper levels e) { read_children = o }) in made) (by e.read_children)
    where
      by : (o : Option (Children R)) → option_map (failed (failure_deeper levels f)) (option_map (children_deeper levels) o) ≡ option_map (children_deeper levels) (option_map (failed f) o)
      by None = refl
      by (Some c) = refl

  module _ (these those : Spec R → Outcome R E) (Same : Spec R → Spec R → Type 0) where
    -- Two directories are the same, or there is none.
    abbrev pub DirectoriesMatch : Option (Spec R) → Option (Spec R) → Type 0
    DirectoriesMatch None None = Unit {0}
    DirectoriesMatch (Some s) (Some t) = Same s t
    DirectoriesMatch (Some s) None = ⊥
    DirectoriesMatch None (Some t) = ⊥

    -- Items are the same but deeper, and their directories are the same.
    abbrev pub ItemsMatch : R → R → List (Item R E) → List (Item R E) → Type 0
    ItemsMatch state other [] [] = Unit {0}
    ItemsMatch state other (x ∷ xs) (y ∷ ys) = (x ≡ item_deeper levels y) × DirectoriesMatch (spec_of state x) (spec_of other y) × ItemsMatch state other xs ys
    ItemsMatch state other [] (y ∷ ys) = ⊥
    ItemsMatch state other (x ∷ xs) [] = ⊥

    abbrev pub OutcomesMatch : Outcome R E → Outcome R E → Type 0
    OutcomesMatch (Ok r) (Ok q) = ItemsMatch r.state q.state r.list q.list
    OutcomesMatch (Err f) (Err g) = f ≡ failure_deeper levels g
    OutcomesMatch (Ok r) (Err g) = ⊥
    OutcomesMatch (Err f) (Ok q) = ⊥

    read_deeper : (x y : Item R E) (here there : Outcome R E) → x ≡ item_deeper levels y → OutcomesMatch here there → after_reading here x ≡ item_deeper levels (after_reading there y)
    read_deeper x y (Ok r) (Ok q) is match = is
    read_deeper x y (Err f) (Err g) is match = ap (λ (k : Failure). with_error k x) match ∙ ap (with_error (failure_deeper levels g)) is ∙ error_deeper g y
    read_deeper x y (Ok r) (Err g) is match = absurd match
    read_deeper x y (Err f) (Ok q) is match = absurd match

    module _ (same : (s t : Spec R) → Same s t → OutcomesMatch (these s) (those t)) where
      stands_deeper : (x y : Item R E) (s t : Option (Spec R)) → x ≡ item_deeper levels y → DirectoriesMatch s t → stands these x (source_of s) ≡ item_deeper levels (stands those y (source_of t))
      stands_deeper x y None None is match = is
      stands_deeper x y (Some s) (Some t) is match = read_deeper x y (these s) (those t) is (same s t match)
      stands_deeper x y (Some s) None is match = absurd match
      stands_deeper x y None (Some t) is match = absurd match

      module _ (lower other : Source R E → List (Item R E)) (each : (s t : Option (Spec R)) → DirectoriesMatch s t → lower (source_of s) ≡ map (item_deeper levels) (other (source_of t))) where
        listed_deeper : (state mark : R) (xs ys : List (Item R E)) → ItemsMatch state mark xs ys
            → flat_map (λ p. stands these p.item p.source ∷ lower p.source) (map (pair state) xs) ≡ map (item_deeper levels) (flat_map (λ p. stands those p.item p.source ∷ other p.source) (map (pair mark) ys))
        listed_deeper state mark [] [] match = refl
        listed_deeper state mark (x ∷ xs) (y ∷ ys) (is, dirs, rest) =
            let s : Option (Spec R) = spec_of state x in
            let t : Option (Spec R) = spec_of mark y in
            let here : List (Item R E) = stands those y (source_of t) ∷ other (source_of t) in
            let others : List (Item R E) = flat_map (λ p. stands those p.item p.source ∷ other p.source) (map (pair mark) ys) in
            rw (stands_deeper x y s t is dirs, each s t dirs, listed_deeper state mark xs ys rest) (sym (map-append (item_deeper levels) here others))
        listed_deeper state mark [] (y ∷ ys) match = absurd match
        listed_deeper state mark (x ∷ xs) [] match = absurd match

        outcomes_deeper : (here there : Outcome R E) → OutcomesMatch here there
            → flat_map (λ p. stands these p.item p.source ∷ lower p.source) (pairs_of here) ≡ map (item_deeper levels) (flat_map (λ p. stands those p.item p.source ∷ other p.source) (pairs_of there))
        outcomes_deeper (Ok r) (Ok q) match = listed_deeper r.state q.state r.list q.list match
        outcomes_deeper (Err f) (Err g) match = refl
        outcomes_deeper (Ok r) (Err g) match = absurd match
        outcomes_deeper (Err f) (Ok q) match = absurd match

      -- what is below two directories that are the same is the same but deeper
      pub same_below : (n : ℕ) (s t : Option (Spec R)) → DirectoriesMatch s t → below these n (source_of s) ≡ map (item_deeper levels) (below those n (source_of t))
      unfolding below
      same_below zero s t match = refl
      same_below (suc n) None None match = refl
      same_below (suc n) (Some s) (Some t) match = outcomes_deeper (below these n) (below those n) (same_below n) (these s) (those t) (same s t match)
      same_below (suc n) (Some s) None match = absurd match
      same_below (suc n) None (Some t) match = absurd match
