-- A reading by a worker as a value.
use Rattle.std.specs.Prelude.{Bool, Result, is_err}
use Rattle.std.specs.declared.alloc.AllocError.{AllocError}

-- the plan that read, the specification that was read, and the reading, or that memory ran out
pub record Message (T U J : Type 0) : Type 0 where
  pub plan : J
  pub of : T
  pub outcome : Result U AllocError

-- whether memory ran out for it
abbrev pub ran_out : {T U J : Type 0} → Message T U J → Bool
ran_out m = is_err m.outcome
