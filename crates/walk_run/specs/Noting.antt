-- An iterator that notes errors.
use Rattle.std.specs.Prelude.{◌≡◌, Bool, true, ◌&&◌, Option, None, Some, Result, is_ok}
use Rattle.walk_run.specs.declared.noting.Noting.{Noting}

-- the iterator whose results it passes on
abbrev pub source_of : {I : Type 0} → Noting I → I
source_of s = s.answers

-- whether no error was passed on
abbrev pub is_clean : {I : Type 0} → Noting I → Bool
is_clean s = s.clean

-- whether a call yielded no error
abbrev pub yields_no_error : {T E : Type 0} → Option (Result T E) → Bool
yields_no_error None = true
yields_no_error (Some answer) = is_ok answer

-- One call: the answer is that of the other iterator, and an error is noted.
pub record PassesOn {I T E : Type 0} (next : I → Option (Result T E) → I → Type 0) (old : Noting I) (answer : Option (Result T E)) (new : Noting I) : Type 0 where
  pub passed : next (source_of old) answer (source_of new)
  pub noted : is_clean new ≡ (is_clean old && yields_no_error answer)
