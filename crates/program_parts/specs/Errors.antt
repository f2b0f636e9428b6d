-- Errors of a program, as it tells them.
use Rattle.std.specs.Prelude.{ℕ, List, Option}
use Rattle.program_parts.specs.Told.{IsToldBy}
use Rattle.program_parts.specs.declared.errors.Errors.{Errors}
use Rattle.program_parts.specs.declared.errors.Told.{Told}

-- what the lines are written to
abbrev pub writer_of : {E : Type 0} → Errors E → E
writer_of errors = errors.err

-- how the last error was told
abbrev pub told_of : {E : Type 0} → Errors E → Option Told
told_of errors = errors.told

-- An error was told last, in the name of a program, and nothing was written since.
abbrev pub IsTold : {E : Type 0} → (E → Option (List ℕ)) → List ℕ → Errors E → Type 0
IsTold contents program errors = IsToldBy contents program (told_of errors) (writer_of errors)
