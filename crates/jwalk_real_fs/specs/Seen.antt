-- What the standard library returns, as a walk sees it.
use Rattle.std.specs.Prelude.{◌≡◌, ◌≢◌, ◌==◌, ℕ, List, Result, Ok, Err, if◌then◌else◌, String, string_bytes}
use Rattle.std.specs.Fs as fs
use Rattle.std.specs.IoError.{error_kind}
use Rattle.std.specs.declared.fs.attrs.Metadata as found
use Rattle.std.specs.declared.io.Error.{Error}
use Rattle.std.specs.declared.io.ErrorKind.TheVariants.{OutOfMemory}
use Rattle.jwalk_model.specs.Metadata.{type_of, len_of}
use Rattle.jwalk_model.specs.declared.file_type.FileType.{FileType}
use Rattle.jwalk_model.specs.declared.file_type.FileType.TheVariants.{Dir, File, Symlink, Other}
use Rattle.jwalk_model.specs.declared.metadata.Metadata.{Metadata}
use Rattle.jwalk_model.specs.declared.seen.Seen.{Seen}
use Rattle.jwalk_model.specs.declared.seen.Seen.TheVariants.{Whole}
use Rattle.jwalk_fs.specs.declared.fault.Fault.{Fault}
use Rattle.jwalk_fs.specs.declared.fault.Fault.TheVariants.{Io, Memory}

-- the type that is found: what is no directory, no file and no link is something else
abbrev pub type_seen : found.Metadata → FileType
type_seen m =
    if (fs.file_type m).bits == 0o040000 then Dir
    else if (fs.file_type m).bits == 0o100000 then File
    else if (fs.file_type m).bits == 0o120000 then Symlink
    else Other

-- An error of the system as a fault: that memory ran out if it says so, and otherwise the error itself.
pub record IsFault (e : Error) (f : Fault) : Type 0 where
  pub memory : error_kind e ≡ OutOfMemory → f ≡ Memory
  pub system : error_kind e ≢ OutOfMemory → f ≡ Io e

-- The type and the length are those that were found.
abbrev pub IsFound : found.Metadata → Metadata → Type 0
IsFound m seen = (type_of seen ≡ type_seen m) × (len_of seen ≡ fs.metadata_len m)

-- It is what was found, or the error is the fault.
abbrev pub IsSeen : Result found.Metadata Error → Result Metadata Fault → Type 0
IsSeen (Ok m) (Ok seen) = IsFound m seen
IsSeen (Err e) (Err f) = IsFault e f
IsSeen _ _ = ⊥

-- A call gave something, and it is that, or the error is the fault.
abbrev pub IsGiven : (Result found.Metadata Error → Type 0) → Result Metadata Fault → Type 0
IsGiven gives result = (found : Result found.Metadata Error) × gives found × IsSeen found result

-- A call gave a link's text, and it is that, or the error is the fault.
abbrev pub IsTarget : {A : Type 0} → (Result (List ℕ) Error → Type 0) → Result (String A) Fault → Type 0
IsTarget gives (Ok text) = gives (Ok (string_bytes text))
IsTarget gives (Err f) = (e : Error) × gives (Err e) × IsFault e f

-- A listing has what was found, whole, or the error itself.
abbrev pub IsListed : Result found.Metadata Error → Result Seen Error → Type 0
IsListed (Ok m) (Ok (Whole seen)) = IsFound m seen
IsListed (Err e) (Err other) = other ≡ e
IsListed _ _ = ⊥
