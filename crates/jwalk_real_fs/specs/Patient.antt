-- A file system that tries again where no descriptor was left.
use Rattle.std.specs.Prelude.{ℤ, pos, Bool, false, ◌||◌, Option, Some, None, Result, Ok, Err}
use Rattle.std.specs.IoError.{raw_os_error}
use Rattle.std.specs.Ordering.{int_eq}
use Rattle.jwalk_fs.specs.declared.fault.Fault.{Fault}
use Rattle.jwalk_fs.specs.declared.fault.Fault.TheVariants.{Io, Memory}
use Rattle.jwalk_real_fs.specs.declared.patient.Patient.{Patient}

-- the file system behind it
abbrev pub behind : {S R : Type 0} → Patient S R → S
behind patient = patient.fs

-- whether by the system's number a process, or all of them together, had as many descriptors as they may have
abbrev pub none_left : Option ℤ → Bool
none_left (Some number) = int_eq number (pos 24) || int_eq number (pos 23)
none_left None = false

-- whether a call failed since no descriptor was left
abbrev pub lacks_descriptor : {T : Type 0} → Result T Fault → Bool
lacks_descriptor (Err (Io e)) = none_left (raw_os_error e)
lacks_descriptor (Err Memory) = false
lacks_descriptor (Ok _) = false
