-- States as they count, and the values that have states in them.
use Rattle.std.specs.Prelude.{ℕ, List, map, Ok, Err, option_map}
use Rattle.jwalk_model.specs.Entry.{Children, Entry, Item}
use Rattle.jwalk_model.specs.ReadDir.{Spec, Reading, Outcome}

-- What a state counts as when states are distinguished: nothing, a number, a text by its bytes, or two of these.
pub data Worth : Type 0 where
  blank : Worth
  number : ℕ → Worth
  bytes : List ℕ → Worth
  both : Worth → Worth → Worth

-- a directory's states by a view of them
module _ {R V : Type 0} (view : R → V) where
  abbrev pub children_by : Children R → Children V
  children_by c = record { path = c.path; error = c.error; state = option_map view c.state }

  abbrev pub spec_by : Spec R → Spec V
  spec_by s = record { directory = s.directory; state = view s.state }

-- an entry's states by views of both kinds
module _ {R E V W : Type 0} (view : R → V) (mark : E → W) where
  abbrev pub entry_by : Entry R E → Entry V W
  entry_by e = record {
    depth = e.depth;
    file_name = e.file_name;
    file_type = e.file_type;
    seen = e.seen;
    client_state = mark e.client_state;
    parent_path = e.parent_path;
    through_link = e.through_link;
    ancestors = e.ancestors;
    read_children = option_map (children_by view) e.read_children;
  }

  abbrev pub item_by : Item R E → Item V W
  item_by (Ok e) = Ok (entry_by e)
  item_by (Err f) = Err f

  abbrev pub reading_by : Reading R E → Reading V W
  reading_by r = record { state = view r.state; list = map item_by r.list }

  abbrev pub outcome_by : Outcome R E → Outcome V W
  outcome_by (Ok r) = Ok (reading_by r)
  outcome_by (Err f) = Err f
