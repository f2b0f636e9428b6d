-- The excludes that configurations name, as the code keeps them.
use Rattle.std.specs.Prelude.{◌≡◌, ℕ, List, Option, Some, None, option_map, Result, Ok, Err, if◌then◌else◌, string_bytes}
use Rattle.std.specs.declared.io.ErrorKind.{ErrorKind}
use Rattle.std.specs.IoError.{error_kind}
use Rattle.user_excludes.specs.Named.{is_missing, BadLine, Failure, Line, Named, NoValue as HasNoValue, TooDeep as IsTooDeep, Unreadable}
use Rattle.user_excludes.specs.declared.named.Line.{Line as CodeLine}
use Rattle.user_excludes.specs.declared.named.Named.{Named as CodeNamed}
use Rattle.user_excludes.specs.declared.unread.Unread.{Unread}
use Rattle.user_excludes.specs.declared.unread.Unread.TheVariants as unread

abbrev pub line_value : CodeLine → Line
line_value line = record { file = string_bytes line.file; line = line.line }

abbrev pub named_value : CodeNamed → Named
named_value named = record { path = option_map string_bytes named.path; unset = option_map line_value named.unset }

-- The reason is this failure, or memory ran out.
abbrev pub Means : Failure → Unread → Type 0
Means failure (unread.File path error) = failure ≡ Unreadable (string_bytes path) (error_kind error)
Means failure (unread.Line path line) = failure ≡ BadLine (string_bytes path) line
Means failure (unread.NoValue path line) = failure ≡ HasNoValue (string_bytes path) line
Means failure (unread.TooDeep path) = failure ≡ IsTooDeep (string_bytes path)
Means failure unread.Memory = Unit {0}

-- The reason is why there is no result, or memory ran out.
abbrev pub FailsWith : {B : Type 0} → Unread → Result B Failure → Type 0
FailsWith (unread.File path error) is = is ≡ Err (Unreadable (string_bytes path) (error_kind error))
FailsWith (unread.Line path line) is = is ≡ Err (BadLine (string_bytes path) line)
FailsWith (unread.NoValue path line) is = is ≡ Err (HasNoValue (string_bytes path) line)
FailsWith (unread.TooDeep path) is = is ≡ Err (IsTooDeep (string_bytes path))
FailsWith unread.Memory is = Unit {0}

-- The result is this one, or memory ran out.
abbrev pub Tells : {A B : Type 0} → (A → B) → Result B Failure → Result A Unread → Type 0
Tells view is (Ok it) = is ≡ Ok (view it)
Tells view is (Err reason) = FailsWith reason is

-- The bytes of a file, or nothing where it is missing.
abbrev pub read_or_none : List ℕ → Result (List ℕ) ErrorKind → Result (Option (List ℕ)) Failure
read_or_none file (Ok bytes) = Ok (Some bytes)
read_or_none file (Err k) = if is_missing k then Ok None else Err (Unreadable file k)
