-- What a fault says of its error, and what is left to prove at the exit of a `?`.
use Rattle.std.proofs.Common.{◌≡◌, ◌≢◌}
use Rattle.std.specs.IoError.{error_kind}
use Rattle.std.specs.Prelude.{Result, Ok, Err, IfOk, IsErrAnd, OnOk}
use Rattle.std.specs.declared.io.Error.{Error}
use Rattle.std.specs.declared.io.ErrorKind.TheVariants.{OutOfMemory}
use Rattle.jwalk_fs.specs.declared.fault.Fault.TheVariants.{Io}
use Rattle.jwalk_real_fs.specs.Seen.{IsFault}

module _ {e f : Error} where
  pub same_error : IsFault e (Io f) → f ≡ e
  same_error is =
      let system : error_kind e ≢ OutOfMemory = λ k. cc (is.memory k) in
      let same : Io f ≡ Io e = is.system system in
      cc same

pub if_ok_at_err : {X E : Type 0} (r : Result X E) (Q : E → Type 0) (P : X → Type 0) → IsErrAnd r Q → IfOk r P
if_ok_at_err (Ok x) Q P h = absurd h
if_ok_at_err (Err e) Q P h = tt

pub on_ok_at_err : {X E : Type 0} (r : Result X E) (Q : E → Type 0) (P : Type 0) → IsErrAnd r Q → OnOk r P
on_ok_at_err (Ok x) Q P h = absurd h
on_ok_at_err (Err e) Q P h = tt
