-- Words that a command line refuses, or that ask it for a text.
use Rattle.std.specs.Prelude.{◌≡◌, ◌⊎◌, ℕ, Bool, true, List}
use Rattle.clap.specs.Words.{App, HasKind, IsAmong, Row, Text, fault_of, kind_of, matches_of}
use Rattle.clap.specs.declared.error.kind.ErrorKind.TheVariants.{DisplayHelp, DisplayVersion}
use Rattle.program_parts.specs.Status.{status_of_kind}
use Rattle.program_parts.specs.declared.refusal.CommonRefusal.{CommonRefusal}
use Rattle.program_parts.specs.declared.refusal.CommonRefusal.TheVariants.{Words, Conflict, Memory}

-- the status of the program
abbrev pub status_of : CommonRefusal → ℕ
status_of (Words error) = status_of_kind (kind_of error)
status_of (Conflict one other) = 2
status_of Memory = 1

-- The words ask a command line for help or for the version.
abbrev pub AskForText : App → List Text → Type 0
AskForText app words = IsAmong DisplayHelp (fault_of app words) ⊎ IsAmong DisplayVersion (fault_of app words)

-- Why a command line refuses words, of whose options some exclude each other: they aren't its words, or ask for a text; they have such options; or memory ran out.
abbrev pub IsRefusedBy : App → (List Row → Bool) → List Text → CommonRefusal → Type 0
IsRefusedBy app has_conflict words (Words error) = HasKind (fault_of app words) error
IsRefusedBy app has_conflict words (Conflict one other) = has_conflict (matches_of app words) ≡ true
IsRefusedBy app has_conflict words Memory = Unit {0}
