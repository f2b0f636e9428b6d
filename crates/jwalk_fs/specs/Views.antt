-- What a file system returns, as values: an `io::Error` counts only by its kind.
use Rattle.std.specs.Prelude.{◌≡◌, ℕ, List, ◌++◌, Result, Ok, Err, string_bytes}
use Rattle.std.specs.IoError.{error_kind}
use Rattle.std.specs.declared.io.ErrorKind.{ErrorKind}
use Rattle.std.specs.declared.io.Error.{Error}
use Rattle.jwalk_model.specs.FileSystem as value
use Rattle.jwalk_model.specs.declared.file_type.FileType.{FileType}
use Rattle.jwalk_model.specs.declared.seen.Seen.{Seen}
use Rattle.jwalk_model.specs.declared.seen.Seen.TheVariants.{TypeAlone}
use Rattle.jwalk_fs.specs.declared.listed.Listed.{Listed}
use Rattle.jwalk_fs.specs.declared.fault.Fault.{Fault}
use Rattle.jwalk_fs.specs.declared.fault.Fault.TheVariants.{Io, Memory}

-- a result whose value is seen by `view`, and whose error by its kind
abbrev pub by_kind : {X Y : Type 0} → (X → Y) → Result X Error → Result Y ErrorKind
by_kind view (Ok x) = Ok (view x)
by_kind view (Err e) = Err (error_kind e)

-- a name with what is seen of it, or with the error in its place
abbrev pub named_as : List ℕ → Result Seen Error → value.Named
named_as name seen = record { name = name; seen = by_kind (λ t. t) seen }

-- a name with its type alone, or with the error in its place
abbrev pub typed_as : List ℕ → Result FileType Error → value.Named
typed_as name type = record { name = name; seen = by_kind TypeAlone type }

abbrev pub named : {A : Type 0} → Listed A → value.Named
named item = named_as (string_bytes item.name) item.seen

-- an item of a listing
abbrev pub listed : {A : Type 0} → Result (Listed A) Error → value.Listed
listed item = by_kind named item

-- The result is the value, or memory ran out.
abbrev pub AnswersValue : {X Y : Type 0} → (X → Y) → Result X Fault → Result Y ErrorKind → Type 0
AnswersValue view (Ok x) value = value ≡ Ok (view x)
AnswersValue view (Err (Io e)) value = value ≡ Err (error_kind e)
AnswersValue view (Err Memory) value = Unit {0}

-- A fault is the error in the value's place, or memory ran out.
abbrev pub FailsAs : {Y : Type 0} → Fault → Result Y ErrorKind → Type 0
FailsAs (Io e) value = value ≡ Err (error_kind e)
FailsAs Memory value = Unit {0}

-- What holds if a fault is an error, and not that memory ran out.
abbrev pub IfIo : Fault → Type 0 → Type 0
IfIo (Io e) P = P
IfIo Memory P = Unit {0}

-- What took items so far took these behind them.
abbrev pub TakesAll : {K : Type 0} → (K → List value.Listed → K → Type 0) → List value.Listed → K → K → Type 0
TakesAll {K} took items old new = (first : K) (before : List value.Listed) → took first before old → took first (before ++ items) new
