-- What a promise about values takes as given.
use Rattle.std.specs.Prelude.{◌≡◌, ◌≤◌, ℕ, List, [], ◌∷◌, Option, Result, Ok, Err, length, map}
use Rattle.std.specs.declared.clone.Clone as Clone
use Rattle.std.specs.declared.default.Default as Default
use Rattle.jwalk_model.specs.Entry.{Entry, Item}
use Rattle.jwalk_model.specs.ReadDir.{Spec, Reading, Outcome}
use Rattle.jwalk_model.specs.Counted.{Worth, spec_by, entry_by, item_by, reading_by, outcome_by}
use Rattle.jwalk_model.specs.Job.{Processing, KeepsDepthsOf}
use Rattle.jwalk_job.specs.declared.dir_entry.DirEntry.{DirEntry}
use Rattle.jwalk_job.specs.declared.error.Error.{Error}
use Rattle.jwalk_job.specs.Entry.{item}

-- How states count, what the callback makes of lists of states that count so, with its law, and what the state of a new entry counts as.
pub record Given (R E : Type 0) : Type 0 where
  pub read_dir_state : R → Worth
  pub dir_entry_state : E → Worth
  pub processed : Processing Worth Worth
  pub keeps_depths : KeepsDepthsOf processed
  pub new_entry : Worth

module _ {R E : Type 0} (given : Given R E) where
  abbrev pub counted_spec : Spec R → Spec Worth
  counted_spec = spec_by given.read_dir_state

  abbrev pub counted_entry : Entry R E → Entry Worth Worth
  counted_entry = entry_by given.read_dir_state given.dir_entry_state

  abbrev pub counted_item : Item R E → Item Worth Worth
  counted_item = item_by given.read_dir_state given.dir_entry_state

  abbrev pub counted_reading : Reading R E → Reading Worth Worth
  counted_reading = reading_by given.read_dir_state given.dir_entry_state

  abbrev pub counted_outcome : Outcome R E → Outcome Worth Worth
  counted_outcome = outcome_by given.read_dir_state given.dir_entry_state

  -- A call made of a state and a list what the callback makes of them.
  abbrev pub IsProcessed : Option ℕ → List ℕ → R → List (Item R E) → R → List (Item R E) → Type 0
  IsProcessed depth path state list state' list' =
      given.processed depth path (given.read_dir_state state) (map counted_item list)
      ≡ record { state = given.read_dir_state state'; list = map counted_item list' }

-- A clone counts as its original.
abbrev pub ClonesCount : {R E : Type 0} → Clone.Ghosts R → Given R E → Type 0
ClonesCount {R} clone given = (x y : R) → clone.is_clone x y → given.read_dir_state y ≡ given.read_dir_state x

-- A default counts as the state of a new entry.
abbrev pub DefaultsCount : {R E : Type 0} → Default.Ghosts E → Given R E → Type 0
DefaultsCount {E = E} default given = (x : E) → default.is_default x → given.dir_entry_state x ≡ given.new_entry

-- the items of a list as they count
abbrev pub counted_list : {C A R E : Type 0} → Given R E → List (Result (DirEntry C A R E) (Error A)) → List (Item Worth Worth)
counted_list given l = map (counted_item given) (map item l)

-- Lists stay as they are, and states too.
abbrev pub KeepsLists : {R E : Type 0} → Processing R E → Type 0
KeepsLists {R} {E} processed = (depth : Option ℕ) (path : List ℕ) (state : R) (list : List (Item R E)) → processed depth path state list ≡ record { state = state; list = list }

module _ {R E : Type 0} where
  -- the entries of a list, without its errors
  abbrev pub entries_in : List (Item R E) → List (Entry R E)
  entries_in [] = []
  entries_in (Ok e ∷ l) = e ∷ entries_in l
  entries_in (Err f ∷ l) = entries_in l

  -- No item is left out of a list, and no entry added: errors may be.
  pub record AddsErrors (old new : List (Item R E)) : Type 0 where
    pub entries : entries_in new ≡ entries_in old
    pub longer : length old ≤ length new

  -- A list that a walk begins with has the root's entry or an error, and no other entry.
  pub record IsOfRoot (list : List (Item R E)) : Type 0 where
    pub some : 1 ≤ length list
    pub alone : length (entries_in list) ≤ 1
