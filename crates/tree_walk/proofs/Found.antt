-- What is found at an address.
use Rattle.std.proofs.Common.{◌≡◌, ℕ, ◌+◌, ◌<◌, ◌≤◌, true, false, cond, List, [], ◌∷◌, ◌++◌, length, refl, sym, ap, ◌∙◌, arith, ⊎_elim}
use Rattle.std.proofs.Math.Nat.{eq-zero-or-pos}
use Rattle.std.specs.Prelude.{All}
use Rattle.std.specs.List.Sorted.{IsPermutation}
use Rattle.std.proofs.lemmas.List.Elements.{All-nil, All-cons, All-head, All-tail}
use Rattle.std.proofs.lemmas.List.Sorted.{All-permutation}
use Rattle.jwalk_order.specs.Addresses.{is_same, times}
use Rattle.jwalk_order.specs.Addressed.{Addressed, addresses_of}
use Rattle.jwalk_board.proofs.Opens.{times-addresses_of}
use Rattle.jwalk_order.proofs.Sets.{is_same-itself}
use Rattle.tree_walk.specs.ToGive.{found_at}

module _ {X V : Type 0} (v : X → V) where
  pub found_at-append : (xs ys : List (Addressed X)) (a : List ℕ) → found_at v (xs ++ ys) a ≡ found_at v xs a ++ found_at v ys a
  found_at-append [] ys a = refl
  found_at-append (x ∷ xs) ys a =
      elim (is_same a x.at) as (λ b. cond b (v x.value ∷ found_at v (xs ++ ys) a) (found_at v (xs ++ ys) a) ≡ cond b (v x.value ∷ found_at v xs a) (found_at v xs a) ++ found_at v ys a) [
        | true ↦ ap (λ l. v x.value ∷ l) (found_at-append xs ys a)
        | false ↦ found_at-append xs ys a
      ]

  -- the number of values that are found is how often the address is there
  pub found_at-length : (xs : List (Addressed X)) (a : List ℕ) → length (found_at v xs a) ≡ times a (addresses_of xs)
  found_at-length [] a = refl
  found_at-length (x ∷ xs) a =
      elim (is_same a x.at) as (λ b. length (cond b (v x.value ∷ found_at v xs a) (found_at v xs a)) ≡ cond b 1 0 + times a (addresses_of xs)) [
        | true ↦ omega (arith, found_at-length xs a)
        | false ↦ omega (arith, found_at-length xs a)
      ]

  pub found_at-none : (xs : List (Addressed X)) (a : List ℕ) → times a (addresses_of xs) ≡ 0 → found_at v xs a ≡ []
  found_at-none [] a h = refl
  found_at-none (x ∷ xs) a h =
      elim (is_same a x.at) as (λ b. cond b 1 0 + times a (addresses_of xs) ≡ 0 → cond b (v x.value ∷ found_at v xs a) (found_at v xs a) ≡ []) [
        | true ↦ λ k. absurd (omega (arith, k))
        | false ↦ λ k. found_at-none xs a (omega (arith, k))
      ] h

  pub found_at-first : (x : Addressed X) (xs : List (Addressed X)) → times x.at (addresses_of (x ∷ xs)) ≤ 1 → found_at v (x ∷ xs) x.at ≡ v x.value ∷ []
  found_at-first x xs h =
      rw (is_same-itself x.at) (ap (λ l. v x.value ∷ l) (found_at-none xs x.at (let k : cond true 1 0 + times x.at (addresses_of xs) ≤ 1 = rw (is_same-itself x.at) at h in omega (arith, k))))

  nowhere : (xs : List (Addressed X)) (a : List ℕ) (z : V) → times a (addresses_of xs) ≡ 0 → All (λ y. is_same a y.at ≡ true → v y.value ≡ z) xs
  nowhere [] a z h = All-nil _
  nowhere (x ∷ xs) a z h =
      elim (is_same a x.at) as (λ b. is_same a x.at ≡ b → cond b 1 0 + times a (addresses_of xs) ≡ 0 → All (λ y. is_same a y.at ≡ true → v y.value ≡ z) (x ∷ xs)) [
        | true ↦ λ e k. absurd (omega (arith, k))
        | false ↦ λ e k. All-cons (λ y. is_same a y.at ≡ true → v y.value ≡ z) x xs (λ is. let no : true ≡ false = sym is ∙ e in cc) (nowhere xs a z (omega (arith, k)))
      ] refl h

  -- all that are at an address have the one value that is found there
  has_value : (xs : List (Addressed X)) (a : List ℕ) (z : V) → found_at v xs a ≡ z ∷ [] → times a (addresses_of xs) ≤ 1 → All (λ y. is_same a y.at ≡ true → v y.value ≡ z) xs
  has_value [] a z h once = All-nil _
  has_value (x ∷ xs) a z h once =
      elim (is_same a x.at) as (λ b. is_same a x.at ≡ b → cond b (v x.value ∷ found_at v xs a) (found_at v xs a) ≡ z ∷ [] → cond b 1 0 + times a (addresses_of xs) ≤ 1 → All (λ y. is_same a y.at ≡ true → v y.value ≡ z) (x ∷ xs)) [
        | true ↦ λ e k n. All-cons (λ y. is_same a y.at ≡ true → v y.value ≡ z) x xs (λ _. let same : v x.value ≡ z = cc in same) (nowhere xs a z (omega (arith, n)))
        | false ↦ λ e k n. All-cons (λ y. is_same a y.at ≡ true → v y.value ≡ z) x xs (λ is. let no : true ≡ false = sym is ∙ e in cc) (has_value xs a z k (omega (arith, n)))
      ] refl h once

  -- if it is there once, and all there have the value, the value is found
  finds_value : (ys : List (Addressed X)) (a : List ℕ) (z : V) → All (λ y. is_same a y.at ≡ true → v y.value ≡ z) ys → times a (addresses_of ys) ≡ 1 → found_at v ys a ≡ z ∷ []
  finds_value [] a z all h = absurd (omega (arith, h))
  finds_value (y ∷ ys) a z all h =
      elim (is_same a y.at) as (λ b. is_same a y.at ≡ b → cond b 1 0 + times a (addresses_of ys) ≡ 1 → cond b (v y.value ∷ found_at v ys a) (found_at v ys a) ≡ z ∷ []) [
        | true ↦ λ e k. rw (All-head (λ y. is_same a y.at ≡ true → v y.value ≡ z) y ys all e, found_at-none ys a (omega (arith, k))) refl
        | false ↦ λ e k. finds_value ys a z (All-tail (λ y. is_same a y.at ≡ true → v y.value ≡ z) y ys all) (omega (arith, k))
      ] refl h

  one_found : (xs : List (Addressed X)) (a : List ℕ) → times a (addresses_of xs) ≡ 1 → (z : V) × (found_at v xs a ≡ z ∷ [])
  one_found [] a h = absurd (omega (arith, h))
  one_found (x ∷ xs) a h =
      elim (is_same a x.at) as (λ b. cond b 1 0 + times a (addresses_of xs) ≡ 1 → (z : V) × (cond b (v x.value ∷ found_at v xs a) (found_at v xs a) ≡ z ∷ [])) [
        | true ↦ λ k. (v x.value, ap (λ l. v x.value ∷ l) (found_at-none xs a (omega (arith, k))))
        | false ↦ λ k. one_found xs a (omega (arith, k))
      ] h

  -- Where an address is there at most once, the order of a list doesn't matter.
  pub found_at-permutation : (xs ys : List (Addressed X)) (a : List ℕ) → IsPermutation xs ys → times a (addresses_of xs) ≤ 1 → found_at v ys a ≡ found_at v xs a
  found_at-permutation xs ys a p once =
      let as_often = times-addresses_of a xs ys p in
      ⊎_elim
      (λ (none : times a (addresses_of xs) ≡ 0). found_at-none ys a (as_often ∙ none) ∙ sym (found_at-none xs a none))
      (λ (some : 0 < times a (addresses_of xs)).
      let one = one_found xs a (omega (arith, some, once)) in
      finds_value ys a one.0 (All-permutation (λ y. is_same a y.at ≡ true → v y.value ≡ one.0) xs ys p (has_value xs a one.0 one.1 once)) (omega (arith, as_often, some, once)) ∙ sym one.1)
      (eq-zero-or-pos (times a (addresses_of xs)))

  -- where nothing is found, nothing is there
  pub nothing_found : (xs : List (Addressed X)) (a : List ℕ) → found_at v xs a ≡ [] → times a (addresses_of xs) ≡ 0
  nothing_found [] a h = refl
  nothing_found (x ∷ xs) a h =
      elim (is_same a x.at) as (λ b. cond b (v x.value ∷ found_at v xs a) (found_at v xs a) ≡ [] → cond b 1 0 + times a (addresses_of xs) ≡ 0) [
        | true ↦ λ k. absurd (let no : v x.value ∷ found_at v xs a ≡ [] = k in cc)
        | false ↦ λ k. omega (arith, nothing_found xs a k)
      ] h
