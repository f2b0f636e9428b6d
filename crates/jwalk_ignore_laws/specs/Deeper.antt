-- Items of a walk that are levels deeper in another, and those below an entry.
use Rattle.std.specs.Prelude.{ℕ, ◌+◌, nat_lt, List, [], ◌∷◌, option_map, Ok, Err, if◌then◌else◌}
use Rattle.jwalk_model.specs.Error.{Failure, io, unnamed, looped, busy, memory, lost}
use Rattle.jwalk_model.specs.Entry.{Children, Entry, Item}
use Rattle.jwalk_ignore.specs.Callback.IgnoreFiles.{depth_of}

-- the same error, this many levels deeper
abbrev pub failure_deeper : ℕ → Failure → Failure
failure_deeper levels (io depth path kind) = io (depth + levels) path kind
failure_deeper levels (unnamed depth path kind) = unnamed (depth + levels) path kind
failure_deeper levels (looped depth ancestor path) = looped (depth + levels) ancestor path
failure_deeper levels busy = busy
failure_deeper levels memory = memory
failure_deeper levels lost = lost

-- the same directory, with the error of its reading this many levels deeper
abbrev pub children_deeper : {R : Type 0} → ℕ → Children R → Children R
children_deeper levels c = record c { error = option_map (failure_deeper levels) c.error }

module _ {R E : Type 0} where
  -- the same entry, this many levels deeper
  abbrev pub entry_deeper : ℕ → Entry R E → Entry R E
  entry_deeper levels e = record e { depth = e.depth + levels; read_children = option_map (children_deeper levels) e.read_children }

  -- the same item, this many levels deeper
  abbrev pub item_deeper : ℕ → Item R E → Item R E
  item_deeper levels (Ok e) = Ok (entry_deeper levels e)
  item_deeper levels (Err f) = Err (failure_deeper levels f)

  -- the items at the front of a list that are deeper than this: of those that a walk yields behind an entry at this depth, the ones below it
  abbrev pub deeper_than : ℕ → List (Item R E) → List (Item R E)
  deeper_than depth [] = []
  deeper_than depth (x ∷ list) = if nat_lt depth (depth_of x) then x ∷ deeper_than depth list else []

  -- what a walk yields below its root
  abbrev pub below_first : List (Item R E) → List (Item R E)
  below_first [] = []
  below_first (x ∷ list) = deeper_than 0 list
