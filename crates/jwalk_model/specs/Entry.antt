-- Entries as values. R is the type of a directory's client state, E that of an entry's.
use Rattle.std.specs.Prelude.{◌≡◌, ◌≤◌, ◌⊎◌, ℕ, Bool, false, List, [], ◌∷◌, Option, Some, None, Result, Ok, Err, if◌then◌else◌, option_map, is_some, ◌==◌}
use Rattle.std.specs.declared.io.ErrorKind.{ErrorKind}
use Rattle.jwalk_model.specs.declared.file_type.FileType.{FileType}
use Rattle.jwalk_model.specs.declared.metadata.Metadata.{Metadata}
use Rattle.jwalk_model.specs.FileSystem.{Functions, metadata_at}
use Rattle.jwalk_model.specs.Error.{Failure, io, memory}
use Rattle.jwalk_model.specs.Paths.{join}

-- what an entry holds of the directory to be read below it: its path, the error of its reading, and the state that the reading begins with
pub record Children (R : Type 0) : Type 0 where
  pub path : List ℕ
  pub error : Option Failure
  pub state : Option R

-- an entry: all its fields
pub record Entry (R E : Type 0) : Type 0 where
  pub depth : ℕ
  pub file_name : List ℕ
  pub file_type : FileType
  pub seen : Option Metadata
  pub client_state : E
  pub parent_path : List ℕ
  pub through_link : Bool
  pub ancestors : List (List ℕ)
  pub read_children : Option (Children R)

-- an item of a list: an entry or an error
abbrev pub Item : Type 0 → Type 0 → Type 0
Item R E = Result (Entry R E) Failure

-- the directory at this path that is to be read, if an entry's type says that it is one
abbrev pub children_at : {R : Type 0} → Bool → List ℕ → Option (Children R)
children_at dir path = if dir then Some (record { path = path; error = None; state = None }) else None

-- whether a name is hidden: it starts with a dot
abbrev pub is_hidden : List ℕ → Bool
is_hidden [] = false
is_hidden (c ∷ cs) = c == 46

-- the same directory, with the error of its reading
abbrev pub failed : {R : Type 0} → Failure → Children R → Children R
failed f c = record c { error = Some f }

-- An error of asking for the metadata of a path: memory ran out, or an error of the file system, with this depth and path.
abbrev pub IsErrorAt : ℕ → List ℕ → Failure → Type 0
IsErrorAt depth path f = (f ≡ memory) ⊎ ((kind : ErrorKind) × (f ≡ io depth (Some path) kind))

module _ {R E : Type 0} where
  -- the path of an entry
  abbrev pub path_of : Entry R E → List ℕ
  path_of e = join e.parent_path e.file_name

  -- its metadata, which is asked for as the entry was made: through a link or not
  abbrev pub metadata_of : Functions → Entry R E → Result Metadata ErrorKind
  metadata_of fs e = metadata_at fs e.through_link (path_of e)

  -- an error of asking for it
  abbrev pub IsErrorOf : Entry R E → Failure → Type 0
  IsErrorOf e f = IsErrorAt e.depth (path_of e) f

  -- whether an item has a directory to be read
  abbrev pub has_directory : Item R E → Bool
  has_directory (Ok e) = is_some e.read_children
  has_directory (Err f) = false

  -- the item with the error of its directory's reading in it
  abbrev pub with_error : Failure → Item R E → Item R E
  with_error f (Err e) = Err e
  with_error f (Ok e) = Ok (record e { read_children = option_map (failed f) e.read_children })

  -- Every entry of the list is at this depth.
  abbrev pub AtDepth : ℕ → List (Item R E) → Type 0
  AtDepth depth [] = Unit {0}
  AtDepth depth (Ok e ∷ items) = (e.depth ≡ depth) × AtDepth depth items
  AtDepth depth (Err f ∷ items) = AtDepth depth items

  -- No entry of the list is deeper than this.
  abbrev pub NoDeeper : ℕ → List (Item R E) → Type 0
  NoDeeper depth [] = Unit {0}
  NoDeeper depth (Ok e ∷ items) = (e.depth ≤ depth) × NoDeeper depth items
  NoDeeper depth (Err f ∷ items) = NoDeeper depth items

  -- An entry's depth is from the least to the greatest.
  abbrev pub IsBetween : ℕ → ℕ → Item R E → Type 0
  IsBetween least greatest (Ok e) = (least ≤ e.depth) × (e.depth ≤ greatest)
  IsBetween least greatest (Err f) = Unit {0}

  -- Every entry's depth is from the least to the greatest.
  abbrev pub AllBetween : ℕ → ℕ → List (Item R E) → Type 0
  AllBetween least greatest [] = Unit {0}
  AllBetween least greatest (x ∷ items) = IsBetween least greatest x × AllBetween least greatest items
