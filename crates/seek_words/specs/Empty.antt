-- Empty entries.
use Rattle.std.specs.Prelude.{ℕ, ◌==◌, Bool, false, not, ◌||◌, List, length, Option, None, Some, Result, Ok, Err}
use Rattle.std.specs.declared.io.ErrorKind.{ErrorKind}
use Rattle.jwalk_model.specs.FileSystem.{Functions, Listed}
use Rattle.jwalk_model.specs.Metadata.{len_of}
use Rattle.jwalk_model.specs.declared.file_type.FileType.{FileType}
use Rattle.jwalk_model.specs.declared.file_type.FileType.TheVariants.{Dir, File, Symlink, Other}
use Rattle.jwalk_model.specs.declared.metadata.Metadata.{Metadata}

-- whether the metadata is known, and there are no bytes
abbrev pub has_no_bytes : Option Metadata → Bool
has_no_bytes None = false
has_no_bytes (Some m) = len_of m == 0

-- whether a listing is known, and has no items
abbrev pub has_no_items : Result (List Listed) ErrorKind → Bool
has_no_items (Ok items) = length items == 0
has_no_items (Err kind) = false

-- the paths at which a file system has a directory without entries
abbrev pub bare_in : Functions → List ℕ → Bool
bare_in fs path = has_no_items (fs.list_of path)

-- whether an entry is a file without bytes or a directory without entries, by whether there are none at its path
abbrev pub is_empty : FileType → Option Metadata → Bool → Bool
is_empty File seen bare = has_no_bytes seen
is_empty Dir seen bare = bare
is_empty Symlink seen bare = false
is_empty Other seen bare = false

-- the same, if only empty entries are looked for
abbrev pub is_empty_if : Bool → FileType → Option Metadata → Bool → Bool
is_empty_if only type seen bare = not only || is_empty type seen bare
