-- How often an address is in a list.
use Rattle.std.proofs.Common.{◌≡◌, ℕ, ◌+◌, ◌<◌, true, false, cond, List, [], ◌∷◌, ◌++◌, refl, sym, ap, ◌∙◌, arith, ◌⊎◌, inl, inr}
use Rattle.std.specs.Cmp.{Equal-is}
use Rattle.std.specs.Cmp.Lexicographic.{nat_list_cmp_total}
use Rattle.std.specs.FinMap.{nat_cmp-IsAntisymmetric, slice_cmp-IsAntisymmetric}
use Rattle.std.specs.List.{sum_by}
use Rattle.std.specs.List.Sorted.{IsPermutation}
use Rattle.std.specs.Ordering.{is_eq}
use Rattle.std.proofs.lemmas.Cmp.{tied_itself}
use Rattle.std.proofs.lemmas.List.Sorted.{sum_by-IsPermutation}
use Rattle.std.proofs.lemmas.List.Sums.{sum_by-cons}
use Rattle.jwalk_order.specs.Addresses.{is_same, times}

pub is_same-itself : (a : List ℕ) → is_same a a ≡ true
is_same-itself a = ap is_eq (tied_itself nat_list_cmp_total a)

pub same : (a b : List ℕ) → is_same a b ≡ true → b ≡ a
same a b h = slice_cmp-IsAntisymmetric nat_cmp-IsAntisymmetric b a ((Equal-is _).0 h)

pub times-append : (a : List ℕ) (xs ys : List (List ℕ)) → times a (xs ++ ys) ≡ times a xs + times a ys
times-append a [] ys = omega arith
times-append a (x ∷ xs) ys = omega (arith, times-append a xs ys)

by_sum : (a : List ℕ) (xs : List (List ℕ)) → sum_by (λ x. cond (is_same a x) 1 0) xs ≡ times a xs
by_sum a [] = refl
by_sum a (x ∷ xs) = sum_by-cons (λ x. cond (is_same a x) 1 0) x xs ∙ ap (λ n. cond (is_same a x) 1 0 + n) (by_sum a xs)

pub times-permutation : (a : List ℕ) (xs ys : List (List ℕ)) → IsPermutation xs ys → times a ys ≡ times a xs
times-permutation a xs ys p = sym (by_sum a ys) ∙ sum_by-IsPermutation (λ x. cond (is_same a x) 1 0) xs ys p ∙ by_sum a xs

pub times-itself : (a : List ℕ) (xs : List (List ℕ)) → times a (a ∷ xs) ≡ 1 + times a xs
times-itself a xs = ap (λ b. cond b 1 0 + times a xs) (is_same-itself a)

-- What is in front, or else later.
pub among_cases : (a x : List ℕ) (xs : List (List ℕ)) → 0 < times a (x ∷ xs) → (x ≡ a) ⊎ (0 < times a xs)
among_cases a x xs h =
    elim (is_same a x) as (λ b. is_same a x ≡ b → 0 < cond b 1 0 + times a xs → (x ≡ a) ⊎ (0 < times a xs)) [
      | true ↦ λ e _. inl (same a x e)
      | false ↦ λ e k. inr (omega arith)
    ] refl h
