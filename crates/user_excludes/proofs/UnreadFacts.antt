-- Why a result isn't known.
use Rattle.std.proofs.Common.{◌≡◌, ◌∙◌, Result, Ok, Err, ap}
use Rattle.user_excludes.specs.Named.{and_then, Failure}
use Rattle.user_excludes.specs.NamedViews.{FailsWith, Means, Tells}
use Rattle.user_excludes.specs.declared.unread.Unread.{Unread}
use Rattle.user_excludes.specs.declared.unread.Unread.TheVariants.{File, Line, NoValue, TooDeep, Memory}

-- a failure is why there is no result
pub fails_with : {B : Type 0} (reason : Unread) (failure : Failure) (is : Result B Failure) → Means failure reason → is ≡ Err failure → FailsWith reason is
fails_with (File path error) failure is means same = same ∙ ap Err means
fails_with (Line path line) failure is means same = same ∙ ap Err means
fails_with (NoValue path line) failure is means same = same ∙ ap Err means
fails_with (TooDeep path) failure is means same = same ∙ ap Err means
fails_with Memory failure is means same = tt

-- what follows a failure is that failure
pub fails_then : {A B : Type 0} (reason : Unread) (is : Result A Failure) (next : A → Result B Failure) → FailsWith reason is → FailsWith reason (and_then is next)
fails_then (File path error) is next fails = ap (λ it. and_then it next) fails
fails_then (Line path line) is next fails = ap (λ it. and_then it next) fails
fails_then (NoValue path line) is next fails = ap (λ it. and_then it next) fails
fails_then (TooDeep path) is next fails = ap (λ it. and_then it next) fails
fails_then Memory is next fails = tt

-- equal results fail for the same reason
pub fails_as : {B : Type 0} (reason : Unread) (is other : Result B Failure) → other ≡ is → FailsWith reason is → FailsWith reason other
fails_as (File path error) is other same fails = same ∙ fails
fails_as (Line path line) is other same fails = same ∙ fails
fails_as (NoValue path line) is other same fails = same ∙ fails
fails_as (TooDeep path) is other same fails = same ∙ fails
fails_as Memory is other same fails = tt

-- an equal result is told as well
pub tells_as : {A B : Type 0} (view : A → B) (is other : Result B Failure) (result : Result A Unread) → other ≡ is → Tells view is result → Tells view other result
tells_as view is other (Ok it) same tells = same ∙ tells
tells_as view is other (Err reason) same tells = fails_as reason is other same tells
