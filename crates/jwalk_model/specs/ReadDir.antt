-- Directories to be read, and readings of them.
use Rattle.std.specs.Prelude.{◌≡◌, ◌≢◌, ℕ, ◌+◌, ◌≤◌, ◌<◌, List, [], ◌∷◌, flat_map, Option, Some, None, option_map, option_to_list, unwrap_or, Result, Ok, Err}
use Rattle.jwalk_model.specs.Error.{Failure, memory}
use Rattle.jwalk_model.specs.Entry.{Children, Entry, Item, AtDepth}

-- which directory is meant: its depth and path, and the paths of the directories above it where links are followed
pub record Directory : Type 0 where
  pub depth : ℕ
  pub path : List ℕ
  pub ancestors : List (List ℕ)

-- a directory to be read, and the state that its reading begins with
pub record Spec (R : Type 0) : Type 0 where
  pub directory : Directory
  pub open directory use *
  pub state : R

-- a directory that was read: the state that its reading left, and its list
pub record Reading (R E : Type 0) : Type 0 where
  pub state : R
  pub list : List (Item R E)

-- the outcome of a reading: a list, or the error in its place
abbrev pub Outcome : Type 0 → Type 0 → Type 0
Outcome R E = Result (Reading R E) Failure

-- the depth of the entries of a list: below a directory of this depth, or the root
abbrev pub list_depth : Option ℕ → ℕ
list_depth None = 0
list_depth (Some depth) = depth + 1

module _ {R E : Type 0} where
  -- the directory below an entry
  abbrev pub directory_below : Entry R E → Children R → Directory
  directory_below e c = record { depth = e.depth; path = c.path; ancestors = e.ancestors }

  -- its specification, where the list was left with this state
  abbrev pub spec_below : R → Entry R E → Children R → Spec R
  spec_below state e c = record { directory = directory_below e c; state = unwrap_or c.state state }

  abbrev pub spec_of : R → Item R E → Option (Spec R)
  spec_of state (Ok e) = option_map (spec_below state e) e.read_children
  spec_of state (Err f) = None

  -- the specifications of the directories of a list, in order
  abbrev pub children : Reading R E → List (Spec R)
  children r = flat_map (λ item. option_to_list (spec_of r.state item)) r.list

  -- those of an outcome: a failed reading has none
  abbrev pub children_of : Outcome R E → List (Spec R)
  children_of (Ok r) = children r
  children_of (Err f) = []

  -- the list of an outcome
  abbrev pub list_of : Outcome R E → List (Item R E)
  list_of (Ok r) = r.list
  list_of (Err f) = []

  -- Every entry of the new list has the list's depth, if every one of the old list has it.
  abbrev pub KeepsDepths : Option ℕ → List (Item R E) → List (Item R E) → Type 0
  KeepsDepths depth old new = AtDepth (list_depth depth) old → AtDepth (list_depth depth) new

  -- What holds of every reading, whatever a file system returns. Its entries are one level below their directory. At the greatest depth there are none. A reading fails only above it, and never because memory ran out.
  abbrev pub IsLawfulReading : ℕ → Spec R → Outcome R E → Type 0
  IsLawfulReading max_depth s (Ok r) = AtDepth (s.depth + 1) r.list × (max_depth ≤ s.depth → r.list ≡ [])
  IsLawfulReading max_depth s (Err f) = (s.depth < max_depth) × (f ≢ memory)

-- the same directory, whose state is a clone of the other's
abbrev pub IsClone : {R : Type 0} → (R → R → Type 0) → Spec R → Spec R → Type 0
IsClone is_clone asked made = (made.directory ≡ asked.directory) × is_clone asked.state made.state

-- Each of the second list is such a clone of the one in its place in the first.
abbrev pub AreClones : {R : Type 0} → (R → R → Type 0) → List (Spec R) → List (Spec R) → Type 0
AreClones is_clone [] [] = Unit {0}
AreClones is_clone (asked ∷ specs) (made ∷ others) = IsClone is_clone asked made × AreClones is_clone specs others
AreClones is_clone _ _ = ⊥
