-- What the callback makes of lists whose states count by their texts.
use Rattle.std.specs.Prelude.{ℕ, true, false, cond, List, [], ◌∷◌, map, filter, Option, Some, None, option_map, is_some, String, string_bytes, Ok, Err}
use Rattle.jwalk.specs.jwalk_model.Entry.{Children, Entry, Item, has_directory, path_of, AtDepth}
use Rattle.jwalk.specs.jwalk_model.ReadDir.{list_depth}
use Rattle.jwalk.specs.jwalk_model.Counted.{Worth, blank, bytes}
use Rattle.jwalk.specs.jwalk_model.Job.{Job, Processing}
use Rattle.jwalk.specs.jwalk_model.FileSystem.{Functions}
use Rattle.jwalk.specs.jwalk_model.Options.{defaults, with_sort}
use Rattle.jwalk.specs.jwalk_job.Given.{Given}

-- a text counts by its bytes, and as nothing if there is none
abbrev pub worth_of : {A : Type 0} → Option (String A) → Worth
worth_of None = blank
worth_of (Some text) = bytes (string_bytes text)

-- a directory whose reading is to begin with this name
abbrev pub with_name : List ℕ → Children Worth → Children Worth
with_name name directory = record directory { state = Some (bytes name) }

-- an entry with its list's state, whose directory's reading is to begin with the entry's name
abbrev pub with_states : Worth → Entry Worth Worth → Entry Worth Worth
with_states state e = record e { client_state = state; read_children = option_map (with_name e.file_name) e.read_children }

-- an item of a list that was given this state; errors stay as they are
abbrev pub handed : Worth → Item Worth Worth → Item Worth Worth
handed state (Ok e) = Ok (with_states state e)
handed state (Err f) = Err f

-- the entries of a list that have a directory, each with the list's state
abbrev pub directories_handed : Worth → List (Item Worth Worth) → List (Item Worth Worth)
directories_handed state list = map (handed state) (filter has_directory list)

-- what the callback makes of a list, whose state it leaves as it is
abbrev pub handed_on : Processing Worth Worth
handed_on depth path state list = record { state = state; list = directories_handed state list }

-- It keeps depths.
pub keeps_depth : (depth : ℕ) (state : Worth) (list : List (Item Worth Worth)) → AtDepth depth list → AtDepth depth (directories_handed state list)
keeps_depth depth state [] h = tt
keeps_depth depth state (Err f ∷ list) h = keeps_depth depth state list h
keeps_depth depth state (Ok e ∷ list) h =
    elim (is_some e.read_children) as (λ b. AtDepth depth (map (handed state) (cond b (Ok e ∷ filter has_directory list) (filter has_directory list)))) [
      | true ↦ (h.0, keeps_depth depth state list h.1)
      | false ↦ keeps_depth depth state list h.1
    ]

-- what is given of a walk with this callback
abbrev pub names_handed_on : {A B : Type 0} → Given (Option (String A)) (Option (String B))
names_handed_on = record {
  read_dir_state = worth_of;
  dir_entry_state = worth_of;
  processed = handed_on;
  keeps_depths = λ depth path state list. keeps_depth (list_depth depth) state list;
  new_entry = blank;
}

-- readings of a file system with this callback, in the order of names
abbrev pub job_handing_on : Functions → Job Worth Worth
job_handing_on fs = record { fs = fs; options = with_sort true defaults; processed = handed_on; default = blank }

-- an answer's path and its state; an error has none
abbrev pub path_and_state : Item Worth Worth → Option (List ℕ × Worth)
path_and_state (Ok e) = Some (path_of e, e.client_state)
path_and_state (Err f) = None
