-- What a list of answers comes to.
use Rattle.std.specs.Prelude.{ℕ, ◌+◌, Bool, false, not, ◌&&◌, ◌||◌, List, ◌++◌, codes, decimal, Option, None, Some, option_map, unwrap_or, Result, Ok, Err, is_some, is_err, if◌then◌else◌}
use Rattle.std.specs.Option.{is_none}
use Rattle.std.specs.declared.io.ErrorKind.{ErrorKind}
use Rattle.std.specs.List.{sum_by}
use Rattle.jwalk.specs.jwalk_model.declared.file_type.FileType.{FileType}
use Rattle.jwalk.specs.jwalk_model.declared.metadata.Metadata.{Metadata}
use Rattle.jwalk.specs.jwalk_model.FileType.{is_dir, is_file, is_symlink}
use Rattle.jwalk.specs.jwalk_model.Metadata.{len_of}
use Rattle.jwalk.specs.jwalk_model.FileSystem.{Functions}
use Rattle.jwalk.specs.jwalk_model.Entry.{Children, Entry, Item, metadata_of}
use Rattle.jwalk_usage.specs.declared.report.Usage.{Usage}
use Rattle.jwalk_usage.specs.declared.report.UsageFault.{UsageFault}
use Rattle.jwalk_usage.specs.declared.report.UsageFault.TheVariants.{TooMany, Memory}

-- 1 if it is so, and 0 if it isn't
abbrev pub one_if : Bool → ℕ
one_if is = if is then 1 else 0

-- whether a type is none of the three that have names
abbrev pub is_other : FileType → Bool
is_other type = not (is_dir type || is_file type || is_symlink type)

-- whether the directory below an entry could not be read
abbrev pub has_failed : {R : Type 0} → Option (Children R) → Bool
has_failed None = false
has_failed (Some children) = is_some children.error

-- the length in metadata, if they could be read
abbrev pub length_in : {X : Type 0} → Result Metadata X → ℕ
length_in (Ok m) = len_of m
length_in (Err error) = 0

module _ {R E : Type 0} where
  -- 1 for an entry whose type passes a test
  abbrev pub entry_of : (FileType → Bool) → Item R E → ℕ
  entry_of is (Ok e) = one_if (is e.file_type)
  entry_of is (Err f) = 0

  -- an entry's metadata: what it keeps, and what the file system returns if it keeps none
  abbrev pub known_metadata : Functions → Entry R E → Result Metadata ErrorKind
  known_metadata fs e = unwrap_or (option_map Ok e.seen) (metadata_of fs e)

  -- whether the file system is asked for an entry's metadata: it is a file that keeps none
  abbrev pub is_asked : Entry R E → Bool
  is_asked e = is_file e.file_type && is_none e.seen

  -- six sums over a list of answers: by type, and by what is counted as the errors of one, and as its bytes
  abbrev pub totals_by : (Item R E → ℕ) → (Item R E → ℕ) → List (Item R E) → Usage
  totals_by errors bytes l = record {
    files = sum_by (entry_of is_file) l;
    dirs = sum_by (entry_of is_dir) l;
    links = sum_by (entry_of is_symlink) l;
    others = sum_by (entry_of is_other) l;
    errors = sum_by errors l;
    bytes = sum_by bytes l;
  }

  -- the usage with one more answer, counted so
  abbrev pub with_answer : (Item R E → ℕ) → (Item R E → ℕ) → Item R E → Usage → Usage
  with_answer errors bytes x u = record {
    files = u.files + entry_of is_file x;
    dirs = u.dirs + entry_of is_dir x;
    links = u.links + entry_of is_symlink x;
    others = u.others + entry_of is_other x;
    errors = u.errors + errors x;
    bytes = u.bytes + bytes x;
  }

  -- the errors of an answer: itself, or that of the directory below an entry, or that of a file's metadata
  abbrev pub errors_of : Functions → Item R E → ℕ
  errors_of fs (Ok e) = one_if (has_failed e.read_children) + one_if (is_file e.file_type && is_err (known_metadata fs e))
  errors_of fs (Err f) = 1

  -- the bytes of an answer: the length of a file
  abbrev pub bytes_of : Functions → Item R E → ℕ
  bytes_of fs (Ok e) = if is_file e.file_type then length_in (known_metadata fs e) else 0
  bytes_of fs (Err f) = 0

  -- the totals of a list of answers over a fixed file system
  abbrev pub totals : Functions → List (Item R E) → Usage
  totals fs l = totals_by (errors_of fs) (bytes_of fs) l

-- the text of its entries: four numbers, each behind its name
abbrev pub entries_text : Usage → List ℕ
entries_text u =
    codes "files " ++ decimal u.files ++ codes " dirs " ++ decimal u.dirs ++ codes " links " ++ decimal u.links ++ codes " others " ++ decimal u.others

-- the text that a usage is printed as: its six numbers, each behind its name
abbrev pub usage_text : Usage → List ℕ
usage_text u = entries_text u ++ codes " errors " ++ decimal u.errors ++ codes " bytes " ++ decimal u.bytes

-- the text of a fault
abbrev pub fault_text : UsageFault → List ℕ
fault_text TooMany = codes "a total passes the greatest number"
fault_text Memory = codes "memory refused for the totals"
