-- What walks yield from a root and from a directory below it, row by row, a line each. A file of rules above ignores `*.o`, and one in the directory keeps `k.o`.
use Rattle.std.specs.Prelude.{◌≡◌, ℕ, false, List, [], ◌∷◌, map, Result, Ok, Err, bytes_eq, codes, if◌then◌else◌, refl}
use Rattle.std.specs.Fmt.{digits}
use Rattle.std.specs.declared.io.ErrorKind.{ErrorKind}
use Rattle.std.specs.declared.io.ErrorKind.TheVariants as kind
use Rattle.jwalk_model.specs.Counted.{Worth}
use Rattle.jwalk_model.specs.Entry.{Item}
use Rattle.jwalk_model.specs.FileSystem.{Functions, Listed}
use Rattle.jwalk_model.specs.Lines.{line_of}
use Rattle.jwalk_model.specs.Listing.{below}
use Rattle.jwalk_model.specs.Metadata.{metadata}
use Rattle.jwalk_model.specs.Options.{Options, defaults, with_max_depth, with_skip_hidden}
use Rattle.jwalk_model.specs.Walk.{whole_walk}
use Rattle.jwalk_model.specs.declared.file_type.FileType.{FileType}
use Rattle.jwalk_model.specs.declared.file_type.FileType.TheVariants as type
use Rattle.jwalk_model.specs.declared.metadata.Metadata.{Metadata}
use Rattle.jwalk_model.specs.declared.seen.Seen.TheVariants.{TypeAlone}
use Rattle.jwalk_ignore.specs.Callback.Given.{first_settings}
use Rattle.jwalk_ignore.specs.Rules.Texts.{Texts}
use Rattle.jwalk_ignore_laws.specs.Deeper.{below_first, item_deeper}
use Rattle.jwalk_ignore_laws.specs.Walks.{options_below, walk_ignoring}

-- a name that is listed, with its type
abbrev listed : FileType → List ℕ → Listed
listed file_type name = Ok (record { name = name; seen = Ok (TypeAlone file_type) })

-- the directories of a small disk, each with what is in it
abbrev pub in_root : List Listed
in_root = listed type.File (codes ".ignore") ∷ listed type.Dir (codes "a") ∷ listed type.File (codes "z.o") ∷ []

abbrev pub in_a : List Listed
in_a = listed type.File (codes ".ignore") ∷ listed type.File (codes "k.o") ∷ listed type.Dir (codes "s") ∷ []

abbrev pub in_s : List Listed
in_s = listed type.File (codes "x.o") ∷ listed type.File (codes "y") ∷ []

abbrev pub list_of : List ℕ → Result (List Listed) ErrorKind
list_of path =
    if bytes_eq path (codes "/r") then Ok in_root
    else if bytes_eq path (codes "/r/a") then Ok in_a
    else if bytes_eq path (codes "/r/a/s") then Ok in_s
    else Err kind.NotFound

-- what is there, where a directory is
abbrev directory_at : Result (List Listed) ErrorKind → Result Metadata ErrorKind
directory_at (Ok items) = Ok (metadata type.Dir 0)
directory_at (Err k) = Err k

abbrev pub fs : Functions
fs = record {
  list_of = list_of;
  meta_of = λ path. directory_at (list_of path);
  link_meta_of = λ path. directory_at (list_of path);
  target_of = λ path. Err kind.NotFound;
}

-- the bytes of the files of rules
abbrev bytes_at : List ℕ → Result (List ℕ) ErrorKind
bytes_at path =
    if bytes_eq path (codes "/r/.ignore") then Ok (codes "*.o\n")
    else if bytes_eq path (codes "/r/a/.ignore") then Ok (codes "!k.o\n")
    else Err kind.NotFound

-- a regular file, where there are bytes
abbrev file_at : Result (List ℕ) ErrorKind → Result FileType ErrorKind
file_at (Ok bytes) = Ok type.File
file_at (Err k) = Err k

abbrev pub texts : Texts
texts = record {
  bytes_of = bytes_at;
  type_of = λ path. file_at (bytes_at path);
  target_type_of = λ path. file_at (bytes_at path);
  absolute_of = λ path. Ok path;
}

abbrev pub options : Options
options = with_skip_hidden false (with_max_depth 9 defaults)

abbrev lines : List (Item Worth Worth) → List (List ℕ)
lines = map line_of

from_above : lines (walk_ignoring first_settings texts fs options (codes "/r"))
    ≡ codes "0 d /r\n" ∷ codes "1 d /r/a\n" ∷ codes "2 f /r/a/k.o\n" ∷ codes "2 d /r/a/s\n" ∷ codes "3 f /r/a/s/y\n" ∷ []
unfolding whole_walk below digits
from_above = refl

from_below : lines (walk_ignoring first_settings texts fs (options_below 1 options) (codes "/r/a"))
    ≡ codes "0 d /r/a\n" ∷ codes "1 f /r/a/k.o\n" ∷ codes "1 d /r/a/s\n" ∷ codes "2 f /r/a/s/y\n" ∷ []
unfolding whole_walk below digits
from_below = refl

-- what is below its root, one level deeper, is what the first has below that directory
one_deeper : lines (map (item_deeper 1) (below_first (walk_ignoring first_settings texts fs (options_below 1 options) (codes "/r/a"))))
    ≡ codes "2 f /r/a/k.o\n" ∷ codes "2 d /r/a/s\n" ∷ codes "3 f /r/a/s/y\n" ∷ []
unfolding whole_walk below digits
one_deeper = refl
