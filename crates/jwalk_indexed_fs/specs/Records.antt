-- What is kept of a directory.
use Rattle.std.specs.Prelude.{◌≡◌, List, map, Option, Some, Ok}
use Rattle.jwalk_model.specs.FileSystem.{Listed}
use Rattle.jwalk_model.specs.declared.metadata.Metadata.{Metadata}
use Rattle.jwalk_model.specs.declared.seen.Seen.TheVariants.{TypeAlone}
use Rattle.jwalk_indexed_fs.specs.Name.{Name}
use Rattle.jwalk_indexed_fs.specs.Stamp.{stamp_of}
use Rattle.jwalk_indexed_fs.specs.declared.stamp.Stamp.{Stamp}

-- the item of a name that is kept with its type
abbrev pub item_kept : Name → Listed
item_kept n = Ok (record { name = n.name; seen = Ok (TypeAlone n.file_type) })

abbrev pub list_kept : List Name → List Listed
list_kept names = map item_kept names

-- What was found has the stamp that is kept.
abbrev pub HasKeptStamp : Option Stamp → Metadata → Type 0
HasKeptStamp kept found = (s : Stamp) × (kept ≡ Some s) × (stamp_of found ≡ Some s)
