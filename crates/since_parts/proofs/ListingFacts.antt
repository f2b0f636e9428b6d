-- Stamps that may be used later.
use Rattle.std.proofs.Common.{◌≡◌, ℤ, T, Bool, true, false, refl}
use Rattle.std.specs.Prelude.{◌↔◌, ◌<ℤ◌, IsTrue}
use Rattle.std.specs.Int.Signed.{lt_z, lt_z_yes}

same_by : (r c : Bool) → (r ≡ true → T c) → (T c → r ≡ true) → r ≡ c
same_by true true to from = refl
same_by true false to from = absurd (to refl)
same_by false true to from = from tt
same_by false false to from = refl

-- what tells whether a number is below another
pub below_is : (a b : ℤ) (r : Bool) → (IsTrue r ↔ (a <ℤ b)) → r ≡ lt_z a b
below_is a b r iff = same_by r (lt_z a b) (λ is. (iff.0 is).lt) (λ t. iff.1 (lt_z_yes t))
