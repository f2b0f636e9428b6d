-- How a walk begins.
use Rattle.std.proofs.Common.{◌≡◌, ◌⊎◌, ◌∙◌, Bool, true, false, List, Option, Result, Ok, Err, IfOk, IsSomeAnd, inl, inr, refl, sym, ap}
use Rattle.std.specs.Result.{result_ok}
use Rattle.jwalk_model.specs.ReadDir.{Reading}
use Rattle.jwalk_model.specs.Listing.{Pair, paired}

-- a root's list that was made is held, unless memory ran out
pub held_view : {X F V W : Type 0} (view : X → Reading V W) (v : Reading V W) (held : List (Pair V W)) (read : Result X F) (given : Option X) → given ≡ result_ok read → IsSomeAnd given (λ r. held ≡ paired (view r)) → IfOk read (λ r. v ≡ view r) → held ≡ paired v
held_view view v held (Ok r) given is some value = let h = rw is at some in h ∙ ap paired (sym value)
held_view view v held (Err e) given is some value = absurd (rw is at some)

-- memory runs out at the start or not
pub by_flag : {Refused Held : Type 0} (flag : Bool) → (flag ≡ true → Refused) → (flag ≡ false → Held) → Refused ⊎ Held
by_flag true refused held = inl (refused refl)
by_flag false refused held = inr (held refl)

pub either : {Held : Type 0} (flag : Bool) → (flag ≡ true → Held) → (flag ≡ false → Held) → Held
either true refused held = refused refl
either false refused held = held refl
