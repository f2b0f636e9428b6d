-- How often an address is among children.
use Rattle.std.proofs.Common.{◌≡◌, ℕ, zero, suc, ◌+◌, ◌<◌, ◌≤◌, Bool, true, false, cond, List, [], ◌∷◌, ◌++◌, length, refl, sym, ap, ◌∙◌, arith, subst, ⊎_elim, Contains, get_or, All}
use Rattle.std.specs.List.{sum_by}
use Rattle.std.specs.List.Sorted.{IsPermutation}
use Rattle.std.proofs.Math.Nat.{eq-zero-or-pos}
use Rattle.std.proofs.lemmas.Bool.{cases_lt}
use Rattle.std.proofs.lemmas.List.{same_from_push}
use Rattle.std.proofs.lemmas.List.Elements.{All-nil, All-cons, Contains-append_right}
use Rattle.std.proofs.lemmas.List.Sorted.{sum_by-IsPermutation}
use Rattle.std.proofs.lemmas.List.Sums.{sum_by-cons}
use Rattle.jwalk_order.specs.Frontier.{children_from}
use Rattle.jwalk_order.specs.Addresses.{is_same, times}
use Rattle.jwalk_order.specs.Addressed.{Addressed, addresses_of, child_addresses, numbered}
use Rattle.jwalk_order.proofs.Sets.{same, times-append, times-itself, among_cases}

-- The address is that of a child with an index from `i` on.
abbrev pub IsChild : List ℕ → List ℕ → ℕ → ℕ → Type 0
IsChild c a i n = (j : ℕ) × (i ≤ j) × (j < i + n) × (c ≡ a ++ j ∷ [])

pub child_from_times : (c a : List ℕ) (i n : ℕ) → 0 < times c (children_from i a n) → IsChild c a i n
child_from_times c a i zero h = absurd (omega arith)
child_from_times c a i (suc n) h =
    ⊎_elim
    (λ (e : (a ++ i ∷ []) ≡ c). (i, omega arith, omega arith, sym e))
    (λ (m : 0 < times c (children_from (i + 1) a n)).
    let k = child_from_times c a (i + 1) n m in
    let low : i ≤ k.0 = omega (arith, k.1) in
    let high : k.0 < i + suc n = omega (arith, k.2) in
    (k.0, low, high, k.3))
    (among_cases c (a ++ i ∷ []) (children_from (i + 1) a n) h)

pub times_from_child : (a : List ℕ) (i n j : ℕ) → i ≤ j → j < i + n → 0 < times (a ++ j ∷ []) (children_from i a n)
times_from_child a i zero j h k = absurd (omega arith)
times_from_child a i (suc n) j h k =
    ⊎_elim
    (λ (m : i < j). let r : 0 < times (a ++ j ∷ []) (children_from (i + 1) a n) = times_from_child a (i + 1) n j (omega arith) (omega arith) in omega arith)
    (λ (m : j ≤ i).
    let e : j ≡ i = omega arith in
    subst (λ z. 0 < times (a ++ j ∷ []) ((a ++ z ∷ []) ∷ children_from (i + 1) a n)) e
    (let t = times-itself (a ++ j ∷ []) (children_from (i + 1) a n) in omega arith))
    (cases_lt i j)

pub at_most_one : (b : Bool) → cond b 1 0 ≤ 1
at_most_one true = omega arith
at_most_one false = omega arith

pub children-once : (c a : List ℕ) (i n : ℕ) → times c (children_from i a n) ≤ 1
children-once c a i zero = omega arith
children-once c a i (suc n) =
    ⊎_elim
    (λ (none : times c (children_from (i + 1) a n) ≡ 0). omega (arith, at_most_one (is_same c (a ++ i ∷ []))))
    (λ (some : 0 < times c (children_from (i + 1) a n)).
    elim (is_same c (a ++ i ∷ [])) as (λ b. is_same c (a ++ i ∷ []) ≡ b → cond b 1 0 + times c (children_from (i + 1) a n) ≤ 1) [
      | true ↦ λ e.
          let k = child_from_times c a (i + 1) n some in
          let d : i ≡ k.0 = (same_from_push a a i k.0 (same c (a ++ i ∷ []) e ∙ k.3)).1 in
          absurd (omega (arith, k.1))
      | false ↦ λ e. omega (arith, children-once c a (i + 1) n)
    ] refl)
    (eq-zero-or-pos (times c (children_from (i + 1) a n)))

module _ {V : Type 0} where
  addresses_of-at : (xs : List (Addressed V)) (k : ℕ) (x : Addressed V) → k < length xs → get_or xs k x ≡ x → 0 < times x.at (addresses_of xs)
  addresses_of-at [] k x h e = absurd (omega arith)
  addresses_of-at (y ∷ ys) zero x h e = subst (λ z. 0 < times z.at (y.at ∷ addresses_of ys)) e (omega (arith, times-itself y.at (addresses_of ys)))
  addresses_of-at (y ∷ ys) (suc k) x h e = let r : 0 < times x.at (addresses_of ys) = addresses_of-at ys k x (omega arith) e in omega arith

  pub times-contains : (xs : List (Addressed V)) (x : Addressed V) → Contains xs x → 0 < times x.at (addresses_of xs)
  times-contains xs x h = addresses_of-at xs h.0 x h.1 h.2

  child_addresses-at : (xs : List (Addressed V)) (k : ℕ) (x : Addressed V) (i : ℕ) → k < length xs → get_or xs k x ≡ x → i < x.child_count → 0 < times (x.at ++ i ∷ []) (child_addresses xs)
  child_addresses-at [] k x i h e less = absurd (omega arith)
  child_addresses-at (y ∷ ys) zero x i h e less =
      let r : 0 < times (x.at ++ i ∷ []) (children_from 0 y.at y.child_count) =
      subst (λ z. 0 < times (x.at ++ i ∷ []) (children_from 0 z.at z.child_count)) (sym e) (times_from_child x.at 0 x.child_count i (omega arith) (omega arith)) in
      omega (arith, times-append (x.at ++ i ∷ []) (children_from 0 y.at y.child_count) (child_addresses ys))
  child_addresses-at (y ∷ ys) (suc k) x i h e less =
      let r : 0 < times (x.at ++ i ∷ []) (child_addresses ys) = child_addresses-at ys k x i (omega arith) e less in
      omega (arith, times-append (x.at ++ i ∷ []) (children_from 0 y.at y.child_count) (child_addresses ys))

  pub times-child_addresses : (xs : List (Addressed V)) (x : Addressed V) (i : ℕ) → Contains xs x → i < x.child_count → 0 < times (x.at ++ i ∷ []) (child_addresses xs)
  times-child_addresses xs x i h less = child_addresses-at xs h.0 x i h.1 h.2 less

  -- An address among the children has its parent there.
  pub record HasParent (c : List ℕ) (xs : List (Addressed V)) : Type 0 where
    pub parent : Addressed V
    pub index : ℕ
    pub there : Contains xs parent
    pub below : index < parent.child_count
    pub is : c ≡ parent.at ++ index ∷ []

  pub has_parent : (c : List ℕ) (xs : List (Addressed V)) → 0 < times c (child_addresses xs) → HasParent c xs
  has_parent c [] h = absurd (omega arith)
  has_parent c (y ∷ ys) h =
      ⊎_elim
      (λ (none : times c (children_from 0 y.at y.child_count) ≡ 0).
      let later : 0 < times c (child_addresses ys) = omega (arith, times-append c (children_from 0 y.at y.child_count) (child_addresses ys)) in
      let r : HasParent c ys = has_parent c ys later in
      let p : HasParent c (y ∷ ys) = record {
        parent = r.parent;
        index = r.index;
        there = Contains-append_right (y ∷ []) ys r.parent r.there;
        below = r.below;
        is = r.is;
      } in p)
      (λ (some : 0 < times c (children_from 0 y.at y.child_count)).
      let k = child_from_times c y.at 0 y.child_count some in
      let less : k.0 < y.child_count = omega (arith, k.2) in
      let front : 0 < length (y ∷ ys) = omega arith in
      let p : HasParent c (y ∷ ys) = record { parent = y; index = k.0; there = (0, front, refl); below = less; is = k.3 } in p)
      (eq-zero-or-pos (times c (children_from 0 y.at y.child_count)))

  by_sum : (c : List ℕ) (xs : List (Addressed V)) → sum_by (λ x. times c (children_from 0 x.at x.child_count)) xs ≡ times c (child_addresses xs)
  by_sum c [] = refl
  by_sum c (x ∷ xs) =
      sum_by-cons (λ x. times c (children_from 0 x.at x.child_count)) x xs
      ∙ ap (λ n. times c (children_from 0 x.at x.child_count) + n) (by_sum c xs)
      ∙ sym (times-append c (children_from 0 x.at x.child_count) (child_addresses xs))

  pub child_addresses-permutation : (c : List ℕ) (xs ys : List (Addressed V)) → IsPermutation xs ys → times c (child_addresses ys) ≡ times c (child_addresses xs)
  child_addresses-permutation c xs ys p =
      sym (by_sum c ys) ∙ sum_by-IsPermutation (λ x. times c (children_from 0 x.at x.child_count)) xs ys p ∙ by_sum c xs

  pub addresses_of-numbered : (a : List ℕ) (i : ℕ) (xs : List V) → addresses_of (numbered a i xs) ≡ children_from i a (length xs)
  addresses_of-numbered a i [] = refl
  addresses_of-numbered a i (x ∷ xs) = ap (λ z. (a ++ i ∷ []) ∷ z) (addresses_of-numbered a (i + 1) xs)

  pub unread-numbered : (a : List ℕ) (i : ℕ) (xs : List V) → All (λ x. x.child_count ≡ 0) (numbered a i xs)
  unread-numbered a i [] = All-nil (λ x. x.child_count ≡ 0)
  unread-numbered a i (x ∷ xs) =
      All-cons (λ y. y.child_count ≡ 0) (record { at = a ++ i ∷ []; value = x; child_count = 0 }) (numbered a (i + 1) xs) refl (unread-numbered a (i + 1) xs)

  pub length-numbered : (a : List ℕ) (i : ℕ) (xs : List V) → length (numbered a i xs) ≡ length xs
  length-numbered a i [] = refl
  length-numbered a i (x ∷ xs) = omega (arith, length-numbered a (i + 1) xs)
