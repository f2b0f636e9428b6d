-- Powers of 1,024, and sizes in units.
use Rattle.std.proofs.Common.{◌≡◌, ◌∙◌, ℕ, zero, suc, ◌+◌, ◌*◌, ◌/◌, ◌^◌, ◌≤◌, ◌<◌, Bool, true, false, nat_le, List, [], ◌∷◌, Some, unwrap_or, refl, ap, arith, subst, inl, inr, pow-add, pow-suc, le_refl, le_trans, mul-le-mul}
use Rattle.std.specs.Prelude.{find, if◌then◌else◌}
use Rattle.std.proofs.lemmas.Bool.{cases_lt}
use Rattle.std.proofs.Math.Pow.{pow_mono}
use Rattle.std.proofs.lemmas.Grind.{common_steps}

-- numbers that follow one another, from this one on
abbrev pub numbers_from : ℕ → ℕ → List ℕ
numbers_from zero k = []
numbers_from (suc n) k = k ∷ numbers_from n (suc k)

at : (test : ℕ → Bool) (n k p : ℕ) (b : Bool) → test k ≡ b → k ≤ p → p ≤ suc n + k → ((j : ℕ) → k ≤ j → j < p → test j ≡ false) → (p < suc n + k → test p ≡ true)
    → (suc k ≤ p → p ≡ unwrap_or (find test (numbers_from n (suc k))) (n + suc k)) → p ≡ unwrap_or (if b then Some k else find test (numbers_from n (suc k))) (suc n + k)
at test n k p true is low high none some rest =
    elim (cases_lt k p) [
      | inl less ↦ absurd (cc (is, none k (omega arith) less))
      | inr same ↦ omega (arith, same, low)
    ]
at test n k p false is low high none some rest =
    elim (cases_lt k p) [
      | inl less ↦
          let next : n + suc k ≡ suc n + k = omega arith in
          rest (omega (arith, less)) ∙ ap (unwrap_or (find test (numbers_from n (suc k)))) next
      | inr same ↦
          let here : p ≡ k = omega (arith, same, low) in
          absurd (cc (is, subst (λ q. test q ≡ true) here (some (omega (arith, same)))))
    ]

-- the first of these numbers that passes a test, or the one behind them
pub first_in : (test : ℕ → Bool) (n k p : ℕ) → k ≤ p → p ≤ n + k → ((j : ℕ) → k ≤ j → j < p → test j ≡ false) → (p < n + k → test p ≡ true)
    → p ≡ unwrap_or (find test (numbers_from n k)) (n + k)
first_in test zero k p low high none some = let is : p ≡ zero + k = omega (arith, low, high) in is
first_in test (suc n) k p low high none some =
    at test n k p (test k) refl low high none some
    (λ next. first_in test n (suc k) p next (omega (arith, high)) (λ j from below. none j (omega (arith, from)) below) (λ below. some (omega (arith, below))))

-- a size takes at most 9.9 units
pub within : (unit bytes : ℕ) → nat_le bytes (99 * unit / 10) ≡ true → nat_le (10 * bytes) (99 * unit) ≡ true
within unit bytes most = grind arith

-- a power of at most 1,024
below_two : (step power : ℕ) → step ≤ 1024 → step ^ power ≤ 2 ^ (10 * power)
below_two step zero most = simp common_steps (le_refl 1)
below_two step (suc power) most =
    let less : step ^ power ≤ 2 ^ (10 * power) = below_two step power most in
    let next : 2 ^ (10 * suc power) ≡ 2 ^ (10 * power) * 2 ^ 10 = ap (λ n. 2 ^ n) (omega arith) ∙ pow-add 2 (10 * power) 10 in
    rw (next, pow-suc step power) (mul-le-mul less most)

-- the greatest of these
pub unit_most : (step power : ℕ) → step ≤ 1024 → power ≤ 10 → step ^ power ≤ 2 ^ 100
unit_most step power most few = let below : 10 * power ≤ 100 = omega (arith, few) in le_trans (below_two step power most) (pow_mono below)

-- it fits a number of 128 bits
pub unit_fits : (step power : ℕ) → step ≤ 1024 → power ≤ 10 → step ^ power < 2 ^ 128
unit_fits step power most few = let least : step ^ power ≤ 2 ^ 100 = unit_most step power most few in omega (arith, least)

-- it is at least one
pub unit_some : (step power : ℕ) → 1 ≤ step → 1 ≤ step ^ power
unit_some step zero some = simp common_steps (le_refl 1)
unit_some step (suc power) some = rw (pow-suc step power) (mul-le-mul (unit_some step power some) some)
