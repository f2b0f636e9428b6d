-- Listings whose names are asked for.
use Rattle.std.specs.Prelude.{◌≡◌, ℕ, Bool, List, map, Result, Ok, Err, if◌then◌else◌}
use Rattle.std.specs.declared.io.ErrorKind.{ErrorKind}
use Rattle.jwalk_model.specs.FileSystem.{Listed, Functions}
use Rattle.jwalk_model.specs.Paths.{join}
use Rattle.jwalk_model.specs.declared.metadata.Metadata.{Metadata}
use Rattle.jwalk_model.specs.declared.seen.Seen.{Seen}
use Rattle.jwalk_model.specs.declared.seen.Seen.TheVariants.{Whole}

-- all that was found, as what is seen
abbrev pub whole_seen : Result Metadata ErrorKind → Result Seen ErrorKind
whole_seen (Ok m) = Ok (Whole m)
whole_seen (Err kind) = Err kind

-- what is seen of a name that is asked for: what was found, or the error that came before
abbrev pub asked_seen : Result Metadata ErrorKind → Result Seen ErrorKind → Result Seen ErrorKind
asked_seen found (Ok s) = whole_seen found
asked_seen found (Err kind) = Err kind

-- an item of a directory's listing whose name is asked for
abbrev pub asked_item : Functions → List ℕ → Listed → Listed
asked_item fs path (Ok n) = Ok (record n { seen = asked_seen (fs.link_meta_of (join path n.name)) n.seen })
asked_item fs path (Err kind) = Err kind

abbrev pub asked_items : Functions → List ℕ → Result (List Listed) ErrorKind → Result (List Listed) ErrorKind
asked_items fs path (Ok items) = Ok (map (asked_item fs path) items)
asked_items fs path (Err kind) = Err kind

-- a directory's listing whose names are asked for
abbrev pub asked_answer : Functions → List ℕ → Result (List Listed) ErrorKind
asked_answer fs path = asked_items fs path (fs.list_of path)

-- Listings say of each name what asking for it returns, unless an error came instead.
abbrev pub ListsWhole : Functions → Type 0
ListsWhole fs = (path : List ℕ) → asked_answer fs path ≡ fs.list_of path

-- the file system that asks for the names of its listings, if it does, and which returns the same for all else
abbrev pub asking_functions : Bool → Functions → Functions
asking_functions asks fs = record fs { list_of = λ path. if asks then asked_answer fs path else fs.list_of path }
