-- The keys of a set of addresses, after a change.
use Rattle.std.proofs.Common.{◌≡◌, ◌≢◌, ℕ, ◌+◌, ◌<◌, true, false, Bool, cond, ◌||◌, List, [], ◌∷◌, ◌++◌, map, refl, sym, ap, arith, subst}
use Rattle.std.proofs.lemmas.Bool.{false≢true}
use Rattle.std.proofs.lemmas.List.Sorted.{IsPermutation-refl, IsPermutation-cons, IsPermutation-trans, IsPermutation-middle, IsPermutation-sym, IsPermutation-append_right}
use Rattle.std.proofs.lemmas.List.{map-append}
use Rattle.std.specs.BTreeMap.{is_at}
use Rattle.std.specs.BTreeSet.{insert_key}
use Rattle.std.specs.List.{list_any}
use Rattle.std.specs.List.Sorted.{IsPermutation}
use Rattle.std.specs.Ordering.{is_eq, match_ordering}
use Rattle.std.specs.Set.{remove_key}
use Rattle.std.specs.declared.cmp.Ordering.{Ordering}
use Rattle.std.specs.declared.cmp.Ordering.TheVariants.{Less, Equal, Greater}
use Rattle.jwalk_order.specs.Addresses.{is_same, times}
use Rattle.jwalk_order.proofs.Sets.{same, times-append, times-itself}

pub insert_key-permutation : {K : Type 0} (cmp : K → K → Ordering) (k : K) (ks : List K) → list_any (is_at (cmp k)) ks ≡ false → IsPermutation (k ∷ ks) (insert_key cmp ks k)
insert_key-permutation cmp k [] h = IsPermutation-refl (k ∷ [])
insert_key-permutation cmp k (x ∷ xs) h =
    elim (cmp k x) as (λ o. (is_eq o || list_any (is_at (cmp k)) xs) ≡ false → IsPermutation (k ∷ x ∷ xs) (match_ordering o (k ∷ x ∷ xs) (x ∷ xs) (x ∷ insert_key cmp xs k))) [
      | Less ↦ λ _. IsPermutation-refl (k ∷ x ∷ xs)
      | Equal ↦ λ e. absurd (false≢true (sym e))
      | Greater ↦ λ e.
          IsPermutation-trans (k ∷ x ∷ xs) (x ∷ k ∷ xs) (x ∷ insert_key cmp xs k)
          (IsPermutation-middle (k ∷ []) x xs)
          (IsPermutation-cons x (k ∷ xs) (insert_key cmp xs k) (insert_key-permutation cmp k xs e))
    ] h

pub remove_key-permutation : {K Y : Type 0} (f : K → Y) (test : K → Bool) (a : Y) → ((k : K) → test k ≡ true → f k ≡ a) → (ks : List K) → list_any test ks ≡ true
    → IsPermutation (map f ks) (a ∷ map f (remove_key test ks))
remove_key-permutation f test a found [] h = absurd (false≢true h)
remove_key-permutation f test a found (x ∷ xs) h =
    elim (test x) as (λ b. test x ≡ b → (b || list_any test xs) ≡ true → IsPermutation (f x ∷ map f xs) (a ∷ map f (cond b xs (x ∷ remove_key test xs)))) [
      | true ↦ λ e _. subst (λ z. IsPermutation (f x ∷ map f xs) (z ∷ map f xs)) (found x e) (IsPermutation-refl (f x ∷ map f xs))
      | false ↦ λ e k.
          IsPermutation-trans (f x ∷ map f xs) (f x ∷ a ∷ map f (remove_key test xs)) (a ∷ f x ∷ map f (remove_key test xs))
          (IsPermutation-cons (f x) (map f xs) (a ∷ map f (remove_key test xs)) (remove_key-permutation f test a found xs k))
          (IsPermutation-middle (f x ∷ []) a (map f (remove_key test xs)))
    ] refl h

-- A key passes the test exactly if its address is in the list.
pub list_any-times : {K : Type 0} (f : K → List ℕ) (a : List ℕ) (ks : List K) → list_any (λ k. is_same a (f k)) ks ≡ true → 0 < times a (map f ks)
list_any-times f a [] h = absurd (false≢true h)
list_any-times f a (x ∷ xs) h =
    elim (is_same a (f x)) as (λ b. (b || list_any (λ k. is_same a (f k)) xs) ≡ true → 0 < cond b 1 0 + times a (map f xs)) [
      | true ↦ λ _. omega arith
      | false ↦ λ k. omega (arith, list_any-times f a xs k)
    ] h

pub times-list_any : {K : Type 0} (f : K → List ℕ) (a : List ℕ) (ks : List K) → 0 < times a (map f ks) → list_any (λ k. is_same a (f k)) ks ≡ true
times-list_any f a [] h = absurd (omega arith)
times-list_any f a (x ∷ xs) h =
    elim (is_same a (f x)) as (λ b. 0 < cond b 1 0 + times a (map f xs) → (b || list_any (λ k. is_same a (f k)) xs) ≡ true) [
      | true ↦ λ _. refl
      | false ↦ λ k. times-list_any f a xs (omega arith)
    ] h

pub list_any-absent : {K : Type 0} (f : K → List ℕ) (a : List ℕ) (ks : List K) → times a (map f ks) ≡ 0 → list_any (λ k. is_same a (f k)) ks ≡ false
list_any-absent f a [] h = refl
list_any-absent f a (x ∷ xs) h =
    elim (is_same a (f x)) as (λ b. cond b 1 0 + times a (map f xs) ≡ 0 → (b || list_any (λ k. is_same a (f k)) xs) ≡ false) [
      | true ↦ λ k. absurd (omega arith)
      | false ↦ λ k. list_any-absent f a xs (omega arith)
    ] h

-- Some keys are kept apart from the others.
module _ {K : Type 0} (f : K → List ℕ) (a : List ℕ) where
  pub apart-same : (p : K) (ks : List K) → f p ≡ a → 0 < times a (map f (p ∷ ks))
  apart-same p ks is = subst (λ z. 0 < times a (z ∷ map f ks)) (sym is) (omega (arith, times-itself a (map f ks)))

  pub apart-other : (p : K) (ks : List K) → f p ≢ a → times a (map f (p ∷ ks)) ≡ times a (map f ks)
  apart-other p ks other =
      elim (is_same a (f p)) as (λ b. is_same a (f p) ≡ b → cond b 1 0 + times a (map f ks) ≡ times a (map f ks)) [
        | true ↦ λ e. absurd (other (same a (f p) e))
        | false ↦ λ e. omega arith
      ] refl

  pub apart-absent : (apart ks : List K) → times a (map f (apart ++ ks)) ≡ 0 → times a (map f ks) ≡ 0
  apart-absent apart ks none = omega (arith, ap (times a) (map-append f apart ks), times-append a (map f apart) (map f ks))

  pub apart-removed : (apart ks rest : List K) → IsPermutation (map f ks) (a ∷ map f rest) → IsPermutation (map f (apart ++ ks)) (a ∷ map f (apart ++ rest))
  apart-removed apart ks rest p =
      rw (map-append f apart ks, map-append f apart rest)
      (IsPermutation-trans _ _ _ (IsPermutation-append_right (map f apart) _ _ p) (IsPermutation-middle (map f apart) a (map f rest)))

pub apart-added : {K : Type 0} (apart : List K) (x : K) (ks new : List K) → IsPermutation (x ∷ ks) new → IsPermutation (x ∷ (apart ++ ks)) (apart ++ new)
apart-added apart x ks new p =
    IsPermutation-trans _ _ _ (IsPermutation-sym _ _ (IsPermutation-middle apart x ks)) (IsPermutation-append_right apart _ _ p)
