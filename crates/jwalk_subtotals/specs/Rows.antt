-- Subtotals of small lists of answers.
use Rattle.std.specs.Prelude.{◌≡◌, ℕ, pos, true, false, List, [], ◌∷◌, codes, map, Some, None, Result, Ok, Err, refl}
use Rattle.std.specs.declared.io.ErrorKind.TheVariants.{PermissionDenied}
use Rattle.jwalk.specs.jwalk_model.declared.file_type.FileType.{FileType}
use Rattle.jwalk.specs.jwalk_model.declared.file_type.FileType.TheVariants.{File, Dir}
use Rattle.jwalk.specs.jwalk_model.declared.metadata.Moment.{Moment}
use Rattle.jwalk.specs.jwalk_model.declared.metadata.Metadata.{Metadata}
use Rattle.jwalk.specs.jwalk_model.Metadata.{metadata, with_details}
use Rattle.jwalk.specs.jwalk_model.Error.{Failure, io}
use Rattle.jwalk.specs.jwalk_model.Entry.{Item}
use Rattle.jwalk_subtotals.specs.declared.subtotal.Subtotal.{Subtotal}
use Rattle.jwalk_subtotals.specs.declared.options.SubtotalOptions.{SubtotalOptions}
use Rattle.jwalk_subtotals.specs.Subtotals.{Yielded, subtotals}

abbrev Answer : Type 0
Answer = Item (Unit {0}) (Unit {0})

-- an entry at a depth, with its name, its type and what it keeps, whose path has these directories above it
abbrev found : ℕ → List ℕ → FileType → Metadata → List (List ℕ) → Answer
found depth name type seen above = Ok (record {
  depth = depth;
  file_name = name;
  file_type = type;
  seen = Some seen;
  client_state = tt;
  parent_path = [];
  through_link = false;
  ancestors = above;
  read_children = None;
})

-- a directory of 10 bytes, and a file of this length
abbrev d : ℕ → List ℕ → Answer
d depth name = found depth name Dir (metadata Dir 10) []

abbrev f : ℕ → ℕ → List ℕ → Answer
f len depth name = found depth name File (metadata File len) []

abbrev moment : Moment
moment = record { seconds = pos 0; nanoseconds = 0 }

-- a file of 5 bytes in two blocks, with its number and how many names it has
abbrev kept : ℕ → ℕ → Metadata
kept inode names = with_details (record {
  identity = record { device = 1; inode = inode };
  links = names;
  blocks = 2;
  modified = moment;
  accessed = moment;
  changed = moment;
  created = None;
  mode = 0;
  uid = 0;
  gid = 0;
}) (metadata File 5)

-- one of its names
abbrev h : ℕ → ℕ → ℕ → List ℕ → Answer
h inode names depth name = found depth name File (kept inode names) []

-- an error at a depth
abbrev x : ℕ → Answer
x depth = Err (io depth None PermissionDenied)

abbrev told : ℕ → Result (List ℕ × Subtotal) Failure
told depth = Err (io depth None PermissionDenied)

abbrev dirs : SubtotalOptions
dirs = record { apparent = false; each_name = false; all = false; max_depth = 100 }

abbrev all : SubtotalOptions
all = record dirs { all = true }

-- a name, or an error, with its subtotal
abbrev Named : Type 0
Named = Result (List ℕ × Subtotal) Failure

abbrev named : Yielded (Unit {0}) (Unit {0}) → Named
named (Ok (e, t)) = Ok (e.file_name, t)
named (Err g) = Err g

abbrev shown : SubtotalOptions → List Answer → List Named
shown options l = map named (subtotals options l)

-- a name with its bytes, the bytes of files, how many files and directories, and errors
abbrev row : List ℕ → ℕ → ℕ → ℕ → ℕ → ℕ → Named
row name bytes file_bytes files directories errors =
    Ok (name, record { bytes = bytes; file_bytes = file_bytes; files = files; dirs = directories; links = 0; others = 0; errors = errors })

abbrev small : List Answer
small = d 0 (codes "r") ∷ f 5 1 (codes "a") ∷ d 1 (codes "d") ∷ f 7 2 (codes "b") ∷ []

directories_alone : shown dirs small ≡ row (codes "d") 17 7 1 1 0 ∷ row (codes "r") 32 12 2 2 0 ∷ []
directories_alone = refl

all_entries : shown all small ≡ row (codes "a") 5 5 1 0 0 ∷ row (codes "b") 7 7 1 0 0 ∷ row (codes "d") 17 7 1 1 0 ∷ row (codes "r") 32 12 2 2 0 ∷ []
all_entries = refl

root_alone : shown (record dirs { max_depth = 0 }) small ≡ row (codes "r") 32 12 2 2 0 ∷ []
root_alone = refl

root_that_is_a_file : shown dirs (f 5 0 (codes "a") ∷ []) ≡ row (codes "a") 5 5 1 0 0 ∷ []
root_that_is_a_file = refl

two_roots : shown dirs (d 0 (codes "r") ∷ f 5 1 (codes "a") ∷ d 0 (codes "s") ∷ f 7 1 (codes "b") ∷ []) ≡ row (codes "r") 15 5 1 1 0 ∷ row (codes "s") 17 7 1 1 0 ∷ []
two_roots = refl

-- the first answer is deeper than the root behind it, and is below nothing
deeper_root_first : shown all (f 5 1 (codes "a") ∷ d 0 (codes "r") ∷ f 7 1 (codes "b") ∷ []) ≡ row (codes "a") 5 5 1 0 0 ∷ row (codes "b") 7 7 1 0 0 ∷ row (codes "r") 17 7 1 1 0 ∷ []
deeper_root_first = refl

abbrev hard_links : List Answer
hard_links = d 0 (codes "r") ∷ d 1 (codes "d") ∷ h 7 2 2 (codes "a") ∷ d 1 (codes "e") ∷ h 7 2 2 (codes "b") ∷ []

-- the first name in order has the size
first_name_counts : shown dirs hard_links ≡ row (codes "d") 1034 5 1 1 0 ∷ row (codes "e") 10 0 1 1 0 ∷ row (codes "r") 1054 5 2 3 0 ∷ []
first_name_counts = refl

each_name_counts : shown (record dirs { each_name = true }) hard_links ≡ row (codes "d") 1034 5 1 1 0 ∷ row (codes "e") 1034 5 1 1 0 ∷ row (codes "r") 2078 10 2 3 0 ∷ []
each_name_counts = refl

lengths_count : shown (record dirs { apparent = true }) hard_links ≡ row (codes "d") 15 5 1 1 0 ∷ row (codes "e") 10 0 1 1 0 ∷ row (codes "r") 35 5 2 3 0 ∷ []
lengths_count = refl

-- where links aren't followed, a file with one name is met once
one_name_is_not_remembered : shown (record dirs { max_depth = 0 }) (d 0 (codes "r") ∷ h 7 1 1 (codes "a") ∷ h 7 1 1 (codes "b") ∷ []) ≡ row (codes "r") 2058 10 2 1 0 ∷ []
one_name_is_not_remembered = refl

-- where they are, it may be met again
followed_file_counts_once : shown dirs (d 0 (codes "r") ∷ found 1 (codes "a") File (kept 7 1) (codes "r" ∷ []) ∷ found 1 (codes "b") File (kept 7 1) (codes "r" ∷ []) ∷ []) ≡ row (codes "r") 1034 5 2 1 0 ∷ []
followed_file_counts_once = refl

-- an error counts in what it lies in, and comes before that
error_in_directory : shown dirs (d 0 (codes "r") ∷ d 1 (codes "d") ∷ f 5 2 (codes "a") ∷ x 2 ∷ f 7 1 (codes "b") ∷ []) ≡ told 2 ∷ row (codes "d") 15 5 1 1 1 ∷ row (codes "r") 32 12 2 2 1 ∷ []
error_in_directory = refl

error_behind_directory : shown dirs (d 0 (codes "r") ∷ d 1 (codes "d") ∷ x 1 ∷ []) ≡ row (codes "d") 10 0 0 1 0 ∷ told 1 ∷ row (codes "r") 20 0 0 2 1 ∷ []
error_behind_directory = refl
