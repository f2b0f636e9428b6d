-- The laws on differences.
use Rattle.std.specs.Prelude.{◌≡◌, ◌↔◌, ℕ, not, false, List, [], ◌∷◌, filter, if◌then◌else◌}
use Rattle.jwalk_changes.specs.declared.facts.Facts.{Facts}
use Rattle.jwalk_changes.specs.declared.change.Change.{Change}
use Rattle.jwalk_changes.specs.declared.change.Change.TheVariants.{Added, Removed, Changed}
use Rattle.jwalk_changes.specs.AtPath.{is_before, is_same}
use Rattle.jwalk_changes.specs.Facts.{which, is_any}
use Rattle.jwalk_changes.specs.Differences.{Ascends, is_within, IsDifferences}

-- the items whose paths aren't below one of these places
abbrev pub outside : {X U : Type 0} → (X → List (List ℕ)) → (U → List (List ℕ)) → List U → List X → List X
outside path place places = filter (λ x. not (is_within place places (path x)))

module _ {X Y : Type 0} (path : X → List (List ℕ)) (other : Y → List (List ℕ)) (R : X → Y → Type 0) where
  -- Two lists have the same paths, with items that are alike.
  abbrev pub AreAlike : List X → List Y → Type 0
  AreAlike [] [] = Unit {0}
  AreAlike [] (y ∷ ys) = ⊥
  AreAlike (x ∷ xs) [] = ⊥
  AreAlike (x ∷ xs) (y ∷ ys) = (path x ≡ other y) × R x y × AreAlike xs ys

module _ {X : Type 0} (path : X → List (List ℕ)) where
  -- a list without what it has at a path
  abbrev pub without : List (List ℕ) → List X → List X
  without p = filter (λ x. not (is_same (path x) p))

  -- a list with an entry put in before the first that comes after it
  abbrev pub inserted : X → List X → List X
  inserted x [] = x ∷ []
  inserted x (y ∷ l) = if is_before (path x) (path y) then x ∷ y ∷ l else y ∷ inserted x l

  -- a list after one change: an entry is put in or taken away, or one is put in the place of another
  abbrev pub applied_one : Change X X → List X → List X
  applied_one (Added x) l = inserted x (without (path x) l)
  applied_one (Removed x) l = without (path x) l
  applied_one (Changed x y w) l = inserted y (without (path y) l)

  -- a list after several changes, one after another
  abbrev pub applied : List (Change X X) → List X → List X
  applied [] l = l
  applied (c ∷ d) l = applied d (applied_one c l)

-- No fact of two entries that counts differs.
abbrev pub AreEqual : {O N : Type 0} → (O → Facts) → (N → Facts) → O → N → Type 0
AreEqual old_facts new_facts old new = is_any (which (old_facts old) (new_facts new)) ≡ false

module _ {O N U : Type 0} (old_path : O → List (List ℕ)) (old_facts : O → Facts) (new_path : N → List (List ℕ)) (new_facts : N → Facts) (place : U → List (List ℕ)) where
  -- Ascending lists have differences.
  abbrev pub DifferencesExist : Type 0
  DifferencesExist = (old : List O) (new : List N) (unknown : List U) → Ascends old_path old → Ascends new_path new
      → (d : List (Change O N)) × IsDifferences old_path old_facts new_path new_facts place old new unknown d

  -- They have one list of differences.
  abbrev pub DifferencesAreOne : Type 0
  DifferencesAreOne = (old : List O) (new : List N) (unknown : List U) (c d : List (Change O N)) → IsDifferences old_path old_facts new_path new_facts place old new unknown c
      → IsDifferences old_path old_facts new_path new_facts place old new unknown d → c ≡ d

  -- There is none if and only if the lists are equal in what counts, outside the places whose contents aren't known.
  abbrev pub NoneIfEqual : Type 0
  NoneIfEqual = (old : List O) (new : List N) (unknown : List U) → Ascends old_path old → Ascends new_path new
      → IsDifferences old_path old_facts new_path new_facts place old new unknown [] ↔ AreAlike old_path new_path (AreEqual old_facts new_facts) (outside old_path place unknown old) (outside new_path place unknown new)

module _ {X U : Type 0} (path : X → List (List ℕ)) (facts : X → Facts) (place : U → List (List ℕ)) where
  -- Applied to the old list, the differences give one that is equal to the new list in what counts, outside the places whose contents aren't known.
  abbrev pub AppliedGiveNew : Type 0
  AppliedGiveNew = (old new : List X) (unknown : List U) (d : List (Change X X)) → Ascends path old → Ascends path new → IsDifferences path facts path facts place old new unknown d
      → AreAlike path path (AreEqual facts facts) (applied path d (outside path place unknown old)) (outside path place unknown new)
