-- Answers without those below a find, one list after another.
use Rattle.std.proofs.Common.{◌≡◌, ◌≢◌, ◌∙◌, ℕ, Bool, true, false, ◌&&◌, ◌||◌, List, [], ◌∷◌, ◌++◌, Option, None, Some, Ok, Err, ap, refl, sym}
use Rattle.std.specs.List.{list_any}
use Rattle.std.specs.Prelude.{if◌then◌else◌}
use Rattle.jwalk_model.specs.Entry.{Item}
use Rattle.seek_words.specs.Sought.{Sought}
use Rattle.seek_found.specs.Limit.{is_hit, up_to}
use Rattle.seek_found.specs.Prune.{below_after, is_below, unpruned, unpruned_behind}
use Rattle.seek_found.proofs.LimitFacts.{one_within, up_to_none}

and_false : (b : Bool) → (b && false) ≡ false
and_false true = refl
and_false false = refl

module _ {R E : Type 0} (sought : Sought) where
  -- the depth of the last find, with one more answer
  abbrev pub next_below : Option ℕ → Item R E → Option ℕ
  next_below below x = if is_below below x then below else below_after sought below x

  -- and with several
  abbrev pub below_all : Option ℕ → List (Item R E) → Option ℕ
  below_all below [] = below
  below_all below (x ∷ xs) = below_all (next_below below x) xs

  -- answers and then others
  pub unpruned_then : (below : Option ℕ) (xs ys : List (Item R E)) → unpruned_behind sought below (xs ++ ys) ≡ unpruned_behind sought below xs ++ unpruned_behind sought (below_all below xs) ys
  unpruned_then below [] ys = refl
  unpruned_then below (x ∷ xs) ys =
      elim (is_below below x) as (λ b. (if b then unpruned_behind sought below (xs ++ ys) else x ∷ unpruned_behind sought (below_after sought below x) (xs ++ ys))
      ≡ (if b then unpruned_behind sought below xs else x ∷ unpruned_behind sought (below_after sought below x) xs) ++ unpruned_behind sought (below_all (if b then below else below_after sought below x) xs) ys) [
        | true ↦ unpruned_then below xs ys
        | false ↦ ap (λ l. x ∷ l) (unpruned_then (below_after sought below x) xs ys)
      ]

  pub below_more : (below : Option ℕ) (xs : List (Item R E)) (x : Item R E) → below_all below (xs ++ x ∷ []) ≡ next_below (below_all below xs) x
  below_more below [] x = refl
  below_more below (y ∷ xs) x = below_more (next_below below y) xs x

  none_pruned : (xs : List (Item R E)) → sought.prunes ≡ false → unpruned_behind sought None xs ≡ xs
  none_pruned [] none = refl
  none_pruned (Ok e ∷ xs) none =
      ap (λ b. Ok e ∷ unpruned_behind sought (if b && is_hit sought (Ok e) then Some e.depth else None) xs) none ∙ ap (λ l. Ok e ∷ l) (none_pruned xs none)
  none_pruned (Err f ∷ xs) none = ap (λ l. Err f ∷ l) (none_pruned xs none)

  -- if nothing is pruned, nothing is left out
  pub unpruned_is : (xs : List (Item R E)) → unpruned sought xs ≡ unpruned_behind sought None xs
  unpruned_is xs =
      elim sought.prunes as (λ b. sought.prunes ≡ b → (if b then unpruned_behind sought None xs else xs) ≡ unpruned_behind sought None xs) [
        | true ↦ λ is. refl
        | false ↦ λ is. sym (none_pruned xs is)
      ] refl

  -- an answer below a find
  pub left_out : (below : Option ℕ) (x : Item R E) → is_below below x ≡ true → unpruned_behind sought below (x ∷ []) ≡ []
  left_out below x is = let kept : Bool → List (Item R E) = λ b. if b then [] else x ∷ [] in ap kept is

  -- and any other
  pub kept : (below : Option ℕ) (x : Item R E) → is_below below x ≡ false → unpruned_behind sought below (x ∷ []) ≡ x ∷ []
  kept below x is = let kept : Bool → List (Item R E) = λ b. if b then [] else x ∷ [] in ap kept is

  -- the first find is below none, so that one is found if and only if one is found among those that aren't below a find
  found_behind : (xs : List (Item R E)) → list_any (is_hit sought) (unpruned_behind sought None xs) ≡ list_any (is_hit sought) xs
  found_behind [] = refl
  found_behind (Ok e ∷ xs) =
      elim (is_hit sought (Ok e)) as (λ h. (h || list_any (is_hit sought) (unpruned_behind sought (if sought.prunes && h then Some e.depth else None) xs)) ≡ (h || list_any (is_hit sought) xs)) [
        | true ↦ refl
        | false ↦ ap (λ b. list_any (is_hit sought) (unpruned_behind sought (if b then Some e.depth else None) xs)) (and_false sought.prunes) ∙ found_behind xs
      ]
  found_behind (Err f ∷ xs) = found_behind xs

  pub found_unpruned : (xs : List (Item R E)) → list_any (is_hit sought) (unpruned sought xs) ≡ list_any (is_hit sought) xs
  found_unpruned xs = ap (list_any (is_hit sought)) (unpruned_is xs) ∙ found_behind xs

  -- one answer isn't beyond a limit that isn't reached
  pub unpruned_within : (left below : Option ℕ) (x : Item R E) → left ≢ Some 0 → up_to sought left (unpruned_behind sought below (x ∷ [])) ≡ unpruned_behind sought below (x ∷ [])
  unpruned_within left below x lasts =
      elim (is_below below x) as (λ b. up_to sought left (if b then [] else x ∷ []) ≡ (if b then [] else x ∷ [])) [
        | true ↦ up_to_none sought left
        | false ↦ one_within sought left x lasts
      ]
