-- The lines that answers are printed as.
use Rattle.std.specs.Prelude.{ℕ, Bool, ◌||◌, List, [], ◌++◌, Option, Some, None, Ok, Err, if◌then◌else◌, codes, decimal, unwrap_or, flat_map}
use Rattle.std.specs.declared.io.ErrorKind.{ErrorKind}
use Rattle.std.specs.declared.io.ErrorKind.TheVariants as kind
use Rattle.jwalk_model.specs.declared.file_type.FileType.{FileType}
use Rattle.jwalk_model.specs.declared.file_type.FileType.TheVariants as type
use Rattle.jwalk_model.specs.FileType.{is_symlink}
use Rattle.jwalk_model.specs.Error.{Failure, io, unnamed, looped, busy, memory, lost}
use Rattle.jwalk_model.specs.Entry.{Children, Entry, Item, path_of}

-- the name that a kind is printed by
abbrev pub kind_name : ErrorKind → List ℕ
kind_name kind.NotFound = codes "NotFound"
kind_name kind.PermissionDenied = codes "PermissionDenied"
kind_name kind.AlreadyExists = codes "AlreadyExists"
kind_name kind.InvalidInput = codes "InvalidInput"
kind_name kind.InvalidData = codes "InvalidData"
kind_name kind.Interrupted = codes "Interrupted"
kind_name kind.Unsupported = codes "Unsupported"
kind_name _ = codes "Other"

-- the letter of a type, small and as a capital
abbrev small_letter : FileType → List ℕ
small_letter type.Dir = codes "d"
small_letter type.File = codes "f"
small_letter type.Symlink = codes "l"
small_letter type.Other = codes "o"

abbrev capital_letter : FileType → List ℕ
capital_letter type.Dir = codes "D"
capital_letter type.File = codes "F"
capital_letter type.Symlink = codes "L"
capital_letter type.Other = codes "O"

-- the letter of an entry: a capital where its path is a link
abbrev pub letter_of : Bool → FileType → List ℕ
letter_of through_link file_type =
    if is_symlink file_type || through_link then capital_letter file_type else small_letter file_type

-- the name of an error's kind
abbrev pub failure_name : Failure → List ℕ
failure_name (io depth path kind) = kind_name kind
failure_name (unnamed depth directory kind) = kind_name kind
failure_name _ = codes "Other"

-- the text of an error at the end of an entry's line
abbrev error_part : Option Failure → List ℕ
error_part None = []
error_part (Some failure) = codes " ! " ++ failure_name failure

-- the text there for the reading of its directory
abbrev pub reading_part : {R : Type 0} → Option (Children R) → List ℕ
reading_part None = []
reading_part (Some children) = error_part children.error

module _ {R E : Type 0} where
  -- the line of an entry
  abbrev pub entry_line : Entry R E → List ℕ
  entry_line e =
      decimal e.depth ++ (codes " " ++ (letter_of e.through_link e.file_type ++ (codes " " ++ (path_of e ++ (reading_part e.read_children ++ codes "\n")))))

-- the line of an error
abbrev pub failure_line : Failure → List ℕ
failure_line (io depth path kind) =
    codes "! " ++ (decimal depth ++ (codes " " ++ (unwrap_or path (codes "-") ++ (codes " " ++ (kind_name kind ++ codes "\n")))))
failure_line (unnamed depth directory kind) =
    codes "! " ++ (decimal depth ++ (codes " " ++ (codes "-" ++ (codes " " ++ (kind_name kind ++ codes "\n")))))
failure_line (looped depth ancestor child) =
    codes "! " ++ (decimal depth ++ (codes " " ++ (child ++ (codes " loop " ++ (ancestor ++ codes "\n")))))
failure_line busy = codes "! 0 - busy\n"
failure_line memory = codes "! 0 - memory\n"
failure_line lost = codes "! 0 - lost\n"

module _ {R E : Type 0} where
  -- the line of an answer
  abbrev pub line_of : Item R E → List ℕ
  line_of (Ok e) = entry_line e
  line_of (Err f) = failure_line f

  -- the lines of answers
  abbrev pub lines_of : List (Item R E) → List ℕ
  lines_of = flat_map line_of
