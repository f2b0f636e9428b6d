-- What is said of a call that may fail.
use Rattle.std.proofs.Common.{◌≡◌, true, false, Option, Some, None, Result, Ok, Err, IfOk, IfErr, IsErr, IsErrAnd, OnErr, OnOk, IfSome, OnSome, inl, inr, refl, sym, subst}
use Rattle.jwalk_job.specs.Given.{Given}
use Rattle.jwalk_readings.specs.declared.readers.Missed.{Missed}
use Rattle.jwalk_readings.specs.declared.readers.Missed.TheVariants.{Memory, Lost}
use Rattle.jwalk_readings.specs.CrewReads.{failure_of, NotLost}
use Rattle.jwalk_readings.specs.Sources.{Tells}

-- an error is no `Ok`
pub none_ok : {T F : Type 0} (P : T → Type 0) (r : Result T F) → IsErr r → IfOk r P
none_ok P (Ok x) failed = let no : false ≡ true = failed in absurd cc
none_ok P (Err e) failed = tt

pub none_on_ok : {T F : Type 0} (P : Type 0) (r : Result T F) → IsErr r → OnOk r P
none_on_ok P (Ok x) failed = let no : false ≡ true = failed in absurd cc
none_on_ok P (Err e) failed = tt

-- nothing is said of a value that isn't there
pub ok_none : {T F X : Type 0} (P : T → X → Type 0) (o : Option X) (r : Result T F) → o ≡ None → IfOk r (λ t. IfSome o (P t))
ok_none P o (Ok t) none = rw none tt
ok_none P o (Err e) none = tt

-- what is said of a value is said of one that an `Ok` shows to be the same
pub on_ok_as : {T F X : Type 0} (P : X → Type 0) (x y : X) (r : Result T F) → OnOk r (x ≡ y) → P y → OnOk r (P x)
on_ok_as P x y (Ok t) same holds = subst P (sym same) holds
on_ok_as P x y (Err e) same holds = tt

-- what holds is said of an error
pub on_err : {T F P : Type 0} (r : Result T F) → P → OnErr r P
on_err (Ok x) holds = tt
on_err (Err e) holds = holds

-- an iterator that gets lighter with each answer may be called again
pub goes_on : {T : Type 0} {may : Type 0} (r : Option T) (fewer : Type 0) → may → IfSome r (λ x. fewer) → OnSome r (may × Unit {0} × fewer)
goes_on None fewer can less = tt
goes_on (Some x) fewer can less = (can, tt, less)

-- a crew's reading is missed because memory ran out, or it is lost
pub tells_missed : {T : Type 0} (r : Result T Missed) → IfErr r (λ m. Tells true (failure_of m))
tells_missed (Ok x) = tt
tells_missed (Err Memory) = inl refl
tells_missed (Err Lost) = inr refl

-- where memory ran out, nothing is lost
pub refused_not_lost : {T R E : Type 0} (counts : Given R E → Type 0) (r : Result T Missed) → IsErrAnd r (λ m. m ≡ Memory) → IfErr r (NotLost counts)
refused_not_lost counts (Ok x) refused = tt
refused_not_lost counts (Err m) refused = rw refused tt

-- what can't be lost isn't
pub not_lost_if : {R E : Type 0} (counts : Given R E → Type 0) (missed : Missed) → (missed ≡ Lost → (given : Given R E) → ¬ counts given) → NotLost counts missed
not_lost_if counts Memory never = tt
not_lost_if counts Lost never = never refl

-- nor is it where less counts
pub fewer_not_lost : {R E : Type 0} (counts fewer : Given R E → Type 0) (missed : Missed) → ((given : Given R E) → fewer given → counts given) → NotLost counts missed → NotLost fewer missed
fewer_not_lost counts fewer Memory within never = tt
fewer_not_lost counts fewer Lost within never = λ given f. never given (within given f)

-- nor where it is passed on
pub passed_not_lost : {T R E : Type 0} (counts : Given R E → Type 0) (missed : Missed) (r : Result T Missed) → IsErrAnd r (λ m. m ≡ missed) → NotLost counts missed → IfErr r (NotLost counts)
passed_not_lost counts missed (Ok x) same never = tt
passed_not_lost counts missed (Err m) same never = rw same never
