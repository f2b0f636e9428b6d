-- Errors as values: an `io::Error` counts only by its kind.
use Rattle.std.specs.Prelude.{ℕ, List, [], ◌++◌, Option, Some, None, option_map, unwrap_or, flat_map, codes, encode_utf8_all}
use Rattle.std.specs.IoError.{error_kind}
use Rattle.std.specs.Char.Escape.{escape_ascii}
use Rattle.std.specs.declared.io.ErrorKind.{ErrorKind}
use Rattle.std.specs.declared.io.ErrorKind.TheVariants.{Other}
use Rattle.jwalk_model.specs.Error as value
use Rattle.jwalk_model.specs.Error.{Failure}
use Rattle.jwalk_job.specs.declared.error.Error.{Error}
use Rattle.jwalk_job.specs.declared.error.ErrorInner.{ErrorInner}
use Rattle.jwalk_job.specs.declared.error.ErrorInner.TheVariants.{Io, Unnamed, Loop, Busy, Memory, Lost}
use Rattle.jwalk_job.specs.Text.{text}

abbrev inner_failure : {A : Type 0} → ℕ → ErrorInner A → Failure
inner_failure depth (Io path err) = value.io depth (option_map text path) (error_kind err)
inner_failure depth (Unnamed directory name err) = value.unnamed depth (text directory) (error_kind err)
inner_failure depth (Loop ancestor child) = value.looped depth (text ancestor) (text child)
inner_failure depth Busy = value.busy
inner_failure depth Memory = value.memory
inner_failure depth Lost = value.lost

-- the error as a value
abbrev pub failure : {A : Type 0} → Error A → Failure
failure e = inner_failure e.depth e.inner

abbrev inner_name : {A : Type 0} → ErrorInner A → Option (List ℕ)
inner_name (Unnamed directory name err) = option_map (λ bytes. bytes.items) name
inner_name _ = None

-- the bytes of an item's name that isn't UTF-8, where they are known
abbrev pub name_of : {A : Type 0} → Error A → Option (List ℕ)
name_of e = inner_name e.inner

-- the depth of an error: 0 if it has none
abbrev pub depth_of : Failure → ℕ
depth_of (value.io depth path kind) = depth
depth_of (value.unnamed depth directory kind) = depth
depth_of (value.looped depth ancestor child) = depth
depth_of value.busy = 0
depth_of value.memory = 0
depth_of value.lost = 0

-- its path: for a loop, that of the link
abbrev pub path_of : Failure → Option (List ℕ)
path_of (value.io depth path kind) = path
path_of (value.unnamed depth directory kind) = None
path_of (value.looped depth ancestor child) = Some child
path_of value.busy = None
path_of value.memory = None
path_of value.lost = None

-- for an error with no path of its own, the directory that it came in
abbrev pub parent_of : Failure → Option (List ℕ)
parent_of (value.unnamed depth directory kind) = Some directory
parent_of _ = None

-- for a loop, the directory that the link leads back to
abbrev pub ancestor_of : Failure → Option (List ℕ)
ancestor_of (value.io depth path kind) = None
ancestor_of (value.unnamed depth directory kind) = None
ancestor_of (value.looped depth ancestor child) = Some ancestor
ancestor_of value.busy = None
ancestor_of value.memory = None
ancestor_of value.lost = None

-- the kind of its `io::Error`
abbrev pub kind_of : Failure → Option ErrorKind
kind_of (value.io depth path kind) = Some kind
kind_of (value.unnamed depth directory kind) = Some kind
kind_of (value.looped depth ancestor child) = None
kind_of value.busy = None
kind_of value.memory = None
kind_of value.lost = None

-- that kind, or `Other` if it has none
abbrev pub kind_or_other : Failure → ErrorKind
kind_or_other f = unwrap_or (kind_of f) Other

-- the text of a link that leads back to an ancestor
abbrev pub loop_text : List ℕ → List ℕ → List ℕ
loop_text child ancestor = codes "File system loop found: " ++ child ++ codes " points to an ancestor " ++ ancestor

-- the bytes of a name as text, as `<[u8]>::escape_ascii` has them
abbrev pub escaped : List ℕ → List ℕ
escaped name = encode_utf8_all (flat_map escape_ascii name)

-- the text of an item without a path: its own, the directory, and the bytes of its name where they are known
abbrev pub item_text : List ℕ → List ℕ → Option (List ℕ) → List ℕ
item_text own directory None = own ++ codes " in " ++ directory
item_text own directory (Some name) = own ++ codes " in " ++ directory ++ codes ": " ++ escaped name

-- the text of an error, of its `io::Error`'s own text, which is given, and the bytes of its name
abbrev pub text_with : List ℕ → Option (List ℕ) → Failure → List ℕ
text_with own name (value.io depth (Some path) kind) = codes "IO error for operation on " ++ path ++ codes ": " ++ own
text_with own name (value.io depth None kind) = own
text_with own name (value.unnamed depth directory kind) = item_text own directory name
text_with own name (value.looped depth ancestor child) = loop_text child ancestor
text_with own name value.busy =
    codes "rayon thread-pool too busy or dependency loop detected - aborting before possibility of deadlock"
text_with own name value.memory = codes "memory refused for the walk"
text_with own name value.lost = codes "a reading of the crew is lost"

-- the text of an error that has no `io::Error`, whose own text isn't known
abbrev pub text_of : Failure → Option (List ℕ)
text_of (value.io depth path kind) = None
text_of (value.unnamed depth directory kind) = None
text_of (value.looped depth ancestor child) = Some (loop_text child ancestor)
text_of value.busy = Some (text_with [] None value.busy)
text_of value.memory = Some (text_with [] None value.memory)
text_of value.lost = Some (text_with [] None value.lost)
