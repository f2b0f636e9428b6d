-- Entries that are kept where a test of them is true.
use Rattle.std.specs.Prelude.{◌≡◌, ◌<◌, ◌^◌, IsUtf8, ℕ, Bool, true, false, List, [], ◌∷◌, Option, Some, None, Ok, Err, cond}
use Rattle.std.specs.Borrow.{Bor}
use Rattle.std.specs.List.{filter}
use Rattle.std.specs.List.Retain.{IsFiltered}
use Rattle.jwalk_model.specs.declared.file_type.FileType.{FileType}
use Rattle.jwalk_model.specs.Entry.{Entry, Item, AtDepth}
use Rattle.jwalk_model.specs.ReadDir.{list_depth}
use Rattle.jwalk_model.specs.Counted.{blank}
use Rattle.jwalk_model.specs.Job.{Processing, KeepsDepthsOf}
use Rattle.jwalk_job.specs.Given.{Given}
use Rattle.jwalk_callbacks.specs.declared.filter_entry.FilterEntry.{FilterEntry}

-- a test of an entry's depth, name and type
abbrev pub Test : Type 0
Test = ℕ → List ℕ → FileType → Bool

-- the test of a callback of this kind
abbrev pub test_of : {F : Type 0} → FilterEntry F → F
test_of it = it.test

module _ {R E : Type 0} (test : Test) where
  -- whether an item stays: an entry where the test is true, and every error
  abbrev pub stays : Item R E → Bool
  stays (Ok e) = test e.depth e.file_name e.file_type
  stays (Err f) = true

  -- The root's list stays as it is. Of every other list, what stays is left.
  abbrev pub filtered_list : Option ℕ → List (Item R E) → List (Item R E)
  filtered_list None list = list
  filtered_list (Some depth) list = filter stays list

  -- what the callback makes of a list
  abbrev pub filters : Processing R E
  filters depth path state list = record { state = state; list = filtered_list depth list }

  left_at : (depth : ℕ) (e : Entry R E) (b : Bool) (l : List (Item R E)) → e.depth ≡ depth → AtDepth depth l → AtDepth depth (cond b (Ok e ∷ l) l)
  left_at depth e true l h k = (h, k)
  left_at depth e false l h k = k

  all_left : (depth : ℕ) (l : List (Item R E)) → AtDepth depth l → AtDepth depth (filter stays l)
  all_left depth [] h = tt
  all_left depth (Ok e ∷ l) h = left_at depth e (stays (Ok e)) (filter stays l) h.0 (all_left depth l h.1)
  all_left depth (Err f ∷ l) h = all_left depth l h

  -- An entry keeps its depth.
  pub filters-KeepsDepthsOf : KeepsDepthsOf filters
  filters-KeepsDepthsOf None path state list h = h
  filters-KeepsDepthsOf (Some depth) path state list h = all_left (list_depth (Some depth)) list h

-- What is given if entries are kept by a test, and states count as nothing.
abbrev pub filtering : {R E : Type 0} → Test → Given R E
filtering test = record {
  read_dir_state = λ _. blank;
  dir_entry_state = λ _. blank;
  processed = filters test;
  keeps_depths = filters-KeepsDepthsOf test;
  new_entry = blank;
}

module _ (answers : ℕ → Bor (List ℕ) → FileType → Bool → Type 0) where
  -- Every answer is that of a test, for each depth and name that there can be.
  abbrev pub IsTest : Test → Type 0
  IsTest test = (depth : ℕ) (name : Bor (List ℕ)) (type : FileType) (answer : Bool) → depth < 2 ^ 64 → IsUtf8 name.now → answers depth name type answer → answer ≡ test depth name.now type

  -- The callback makes of lists what is given: its answers are those of a test, and what is given filters by it.
  abbrev pub FiltersAs : {R E : Type 0} → Given R E → Type 0
  FiltersAs given = (test : Test) × IsTest test
      × ((depth : Option ℕ) (path : List ℕ) (state : _) (list : _) → given.processed depth path state list ≡ filters test depth path state list)

  module _ {R E : Type 0} where
    -- An answer says whether an entry stays. An error stays.
    abbrev pub IsAnswered : Item R E → Bool → Type 0
    IsAnswered (Ok e) answer = (e.depth < 2 ^ 64) × (name : Bor (List ℕ)) × (name.now ≡ e.file_name) × IsUtf8 name.now × answers e.depth name e.file_type answer
    IsAnswered (Err f) answer = answer ≡ true

    -- Only the items that stay by such answers are left, in order.
    abbrev pub IsFilteredBy : List (Item R E) → List (Item R E) → Type 0
    IsFilteredBy old new = IsFiltered {P = Unit {0}} (λ _ item answer _. IsAnswered item answer) tt old new

    -- The root's list stays as it is. Every other one is filtered so.
    abbrev pub IsLeft : Option ℕ → List (Item R E) → List (Item R E) → Type 0
    IsLeft None old new = new ≡ old
    IsLeft (Some depth) old new = IsFilteredBy old new
