-- The differences of two lists.
use Rattle.std.specs.Prelude.{◌≡◌, ℕ, Bool, true, List, [], ◌∷◌, Option, None, find, if◌then◌else◌}
use Rattle.std.specs.List.{AllByRecursion, list_any}
use Rattle.jwalk_changes.specs.declared.facts.Facts.{Facts}
use Rattle.jwalk_changes.specs.declared.change.Change.{Change}
use Rattle.jwalk_changes.specs.AtPath.{is_before, is_same, is_below}
use Rattle.jwalk_changes.specs.Change.{path_of, difference}

module _ {X : Type 0} (path : X → List (List ℕ)) where
  -- The paths of a list ascend: each comes before all that follow.
  abbrev pub Ascends : List X → Type 0
  Ascends [] = Unit {0}
  Ascends (x ∷ xs) = AllByRecursion (λ y. is_before (path x) (path y) ≡ true) xs × Ascends xs

  -- what a list has at a path
  abbrev pub at : List (List ℕ) → List X → Option X
  at p = find (λ x. is_same (path x) p)

  -- whether a path is below one of a list
  abbrev pub is_within : List X → List (List ℕ) → Bool
  is_within places p = list_any (λ place. is_below (path place) p) places

module _ {O N U : Type 0} (old_path : O → List (List ℕ)) (old_facts : O → Facts) (new_path : N → List (List ℕ)) (new_facts : N → Facts) (place : U → List (List ℕ)) where
  -- the difference at a path: none is told below a place whose contents aren't known
  abbrev pub told : List O → List N → List U → List (List ℕ) → Option (Change O N)
  told old new unknown p = if is_within place unknown p then None else difference old_facts new_facts (at old_path p old) (at new_path p new)

  -- A list of changes is that of the differences: it ascends, and at each path it has the difference there.
  pub record IsDifferences (old : List O) (new : List N) (unknown : List U) (changes : List (Change O N)) : Type 0 where
    pub ascends : Ascends (path_of old_path new_path) changes
    pub each : (p : List (List ℕ)) → at (path_of old_path new_path) p changes ≡ told old new unknown p
