-- The records that a snapshot has of directories.
use Rattle.std.specs.Prelude.{◌≡◌, ℕ, Bool, true, false, ◌&&◌, List, [], ◌∷◌, map, find, reverse, Option, None, Some, option_and_then, bytes_eq, if◌then◌else◌}
use Rattle.jwalk_model.specs.Paths.{join}
use Rattle.jwalk_indexed_fs.specs.Index.{record_at}
use Rattle.jwalk_indexed_fs.specs.Name.{Name}
use Rattle.jwalk_indexed_fs.specs.declared.index.Index.{Index}
use Rattle.jwalk_indexed_fs.specs.declared.records.Record.{Record}
use Rattle.jwalk_snapshot.specs.Text.{Entry, Folder}
use Rattle.jwalk_snapshot.specs.declared.block.Stamp as kept
use Rattle.jwalk_snapshot.specs.declared.block.Listing.{Listing}
use Rattle.jwalk_snapshot.specs.declared.block.Listing.TheVariants.{Stamped, Unstamped, Unread}

-- the path at which a walk below a root lists the directory with this path behind it
abbrev pub place_of : List ℕ → List ℕ → List ℕ
place_of root [] = root
place_of root (c ∷ cs) = join root (c ∷ cs)

-- a name with its type
abbrev pub name_kept : Entry → Name
name_kept e = record { name = e.name; file_type = e.file_type }

abbrev pub record_with : kept.Stamp → List Entry → Record
record_with s names = record { stamp = Some (record { identity = s.identity; changed = s.changed }); names = map name_kept names }

-- the record of a directory's names, if it has a stamp
abbrev pub record_by : Listing → List Entry → Option Record
record_by (Stamped s) names = Some (record_with s names)
record_by Unstamped names = None
record_by Unread names = None

abbrev pub record_of : Folder → Option Record
record_of f = record_by f.listing f.names

abbrev pub has_stamp : Listing → Bool
has_stamp (Stamped s) = true
has_stamp Unstamped = false
has_stamp Unread = false

-- whether a directory has a stamp, and its place is this
abbrev pub is_kept_at : List ℕ → List ℕ → Folder → Bool
is_kept_at root at f = has_stamp f.listing && bytes_eq (place_of root f.path) at

-- the record of a place once a directory comes behind others
abbrev pub record_kept : List ℕ → Folder → Option Record → List ℕ → Option Record
record_kept root f before at = if is_kept_at root at f then record_of f else before

-- the record of a place: that of the last directory there that has a stamp
abbrev pub record_in : List ℕ → List Folder → List ℕ → Option Record
record_in root folders at = option_and_then record_of (find (is_kept_at root at) (reverse folders))

-- An index has the records of the directories that have a stamp, by their places below a root, and no others.
abbrev pub IsIndexOf : List ℕ → List Folder → Index → Type 0
IsIndexOf root folders index = (at : List ℕ) → record_at index at ≡ record_in root folders at
