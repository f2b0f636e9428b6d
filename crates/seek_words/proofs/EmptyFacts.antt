-- Listings with items.
use Rattle.std.proofs.Common.{◌≡◌, ◌+◌, ℕ, Bool, true, false, List, [], ◌∷◌, ◌++◌, length, arith, eqb-true, refl}
use Rattle.std.specs.Prelude.{◌==◌, ◌||◌, not}
use Rattle.std.proofs.lemmas.List.{length-append}

-- a listing with one more item has some
pub has_items : {X : Type 0} (before : Bool) (xs : List X) (x : X) → true ≡ (before || not (length (xs ++ x ∷ []) == 0))
has_items true xs x = refl
has_items {X} false xs x =
    let count : ℕ = length (xs ++ x ∷ []) in
    let more : count ≡ length xs + 1 = length-append xs (x ∷ []) in
    elim (count == 0) as (λ b. (count == 0) ≡ b → true ≡ not b) [
      | true ↦ λ is. absurd (let none : count ≡ 0 = eqb-true count 0 is in omega (arith, none, more))
      | false ↦ λ is. refl
    ] refl

-- what noted no items
pub none_noted : (b : Bool) → not (false || not b) ≡ b
none_noted true = refl
none_noted false = refl
