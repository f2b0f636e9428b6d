-- Directories that are yielded and not entered, by their names.
use Rattle.std.specs.Prelude.{◌≡◌, ℕ, Bool, true, false, List, [], ◌∷◌, map, Option, Some, None, Ok, Err, if◌then◌else◌, cond, bytes_eq, string_bytes, refl}
use Rattle.std.specs.List.{list_any}
use Rattle.jwalk_model.specs.Entry.{Entry, Item, AtDepth}
use Rattle.jwalk_model.specs.ReadDir.{list_depth}
use Rattle.jwalk_model.specs.Counted.{blank}
use Rattle.jwalk_model.specs.Job.{Processing, KeepsDepthsOf}
use Rattle.jwalk_job.specs.Given.{Given}
use Rattle.jwalk_callbacks.specs.declared.skip_names.SkipNames.{SkipNames}

-- whether a name is one of these, byte for byte
abbrev pub is_one_of : List (List ℕ) → List ℕ → Bool
is_one_of names name = list_any (bytes_eq name) names

-- the names of a callback of this kind
abbrev pub names_of : {A : Type 0} → SkipNames A → List (List ℕ)
names_of it = map string_bytes it.names.items

module _ {R E : Type 0} (names : List (List ℕ)) where
  -- an entry, with nothing to be read below it if it has one of these names
  abbrev pub skipped : Entry R E → Entry R E
  skipped e = if is_one_of names e.file_name then record e { read_children = None } else e

  -- an error stays as it is
  abbrev pub skipped_item : Item R E → Item R E
  skipped_item (Ok e) = Ok (skipped e)
  skipped_item (Err f) = Err f

  -- The root's list stays as it is. Of every other list, what has one of these names isn't entered.
  abbrev pub skipped_list : Option ℕ → List (Item R E) → List (Item R E)
  skipped_list None list = list
  skipped_list (Some depth) list = map skipped_item list

  -- what the callback makes of a list
  abbrev pub skips : Processing R E
  skips depth path state list = record { state = state; list = skipped_list depth list }

  depth_kept : (e : Entry R E) (b : Bool) → (cond b (record e { read_children = None }) e).depth ≡ e.depth
  depth_kept e true = refl
  depth_kept e false = refl

  all_kept : (depth : ℕ) (l : List (Item R E)) → AtDepth depth l → AtDepth depth (map skipped_item l)
  all_kept depth [] h = tt
  all_kept depth (Ok e ∷ l) h = rw (depth_kept e (is_one_of names e.file_name)) (h.0, all_kept depth l h.1)
  all_kept depth (Err f ∷ l) h = all_kept depth l h

  -- An entry keeps its depth.
  pub skips-KeepsDepthsOf : KeepsDepthsOf skips
  skips-KeepsDepthsOf None path state list h = h
  skips-KeepsDepthsOf (Some depth) path state list h = all_kept (list_depth (Some depth)) list h

-- What is given if directories of these names aren't entered, and states count as nothing.
abbrev pub skipping : {R E : Type 0} → List (List ℕ) → Given R E
skipping names = record {
  read_dir_state = λ _. blank;
  dir_entry_state = λ _. blank;
  processed = skips names;
  keeps_depths = skips-KeepsDepthsOf names;
  new_entry = blank;
}

-- The callback makes of lists what is given.
abbrev pub Skips : {A R E : Type 0} → SkipNames A → Given R E → Type 0
Skips it given = (depth : Option ℕ) (path : List ℕ) (state : _) (list : _) → given.processed depth path state list ≡ skips (names_of it) depth path state list
