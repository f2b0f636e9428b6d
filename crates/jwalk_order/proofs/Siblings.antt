-- What the entries of a queue of siblings spread out to.
use Rattle.std.proofs.Common.{◌≡◌, ℕ, zero, suc, ◌+◌, ◌-◌, ◌<◌, ◌≤◌, ◌^◌, true, false, List, [], ◌∷◌, ◌++◌, length, take, set, get_or, swap, Less, Equal, Greater, refl, sym, ap, ◌∙◌, arith, subst, append_assoc, ⊎_elim}
use Rattle.std.proofs.Math.Seq.{take-append_seam}
use Rattle.std.specs.Cmp.{nat_cmp_is}
use Rattle.std.specs.Cmp.Lexicographic.{slice_cmp}
use Rattle.std.specs.List.Sorted.{IsPermutation}
use Rattle.std.specs.Ordering.{nat_cmp, is_lt, ordering_then}
use Rattle.std.specs.Prelude.{All}
use Rattle.std.proofs.lemmas.Bool.{cases_lt, false≢true}
use Rattle.std.proofs.lemmas.List.{take_more, take_all, take-set, length-set, get_or-set_same, get_or_push, length_push}
use Rattle.std.proofs.lemmas.List.Edits.{swap_is}
use Rattle.std.proofs.lemmas.List.Elements.{All-nil, All-cons, All-head, All-tail, All-append}
use Rattle.std.proofs.lemmas.List.Sorted.{All-permutation, length_permutation, IsPermutation-refl, IsPermutation-cons, IsPermutation-trans, IsPermutation-keeps, IsPermutation-append_left, IsPermutation-append_right, IsPermutation-append_comm}
use Rattle.jwalk_order.specs.Frontier.{next_address}
use Rattle.jwalk_order.specs.IndexPath.{is_before}
use Rattle.jwalk_order.specs.Addressed.{Addressed, addresses_of, numbered, IsFirst}
use Rattle.jwalk_order.specs.Addresses.{times}
use Rattle.jwalk_order.specs.Siblings.{parent_address, last_index, siblings, all_siblings, AreSiblings}
use Rattle.jwalk_order.proofs.Sets.{times-itself}

-- An address is that of its parent, and its last index.
pub parent_and_last : (a : List ℕ) → 0 < length a → parent_address a ++ last_index a ∷ [] ≡ a
parent_and_last a some = sym (take_more a (length a - 1) 0 (omega arith)) ∙ take_all _ a (omega arith)

pub parent-set_last : (a : List ℕ) (n : ℕ) → parent_address (set a (length a - 1) n) ≡ parent_address a
parent-set_last a n = ap (λ k. take (k - 1) (set a (length a - 1) n)) (length-set a (length a - 1) n) ∙ take-set a (length a - 1) n

pub last-set_last : (a : List ℕ) (n : ℕ) → 0 < length a → last_index (set a (length a - 1) n) ≡ n
last-set_last a n some = ap (λ k. get_or (set a (length a - 1) n) (k - 1) 0) (length-set a (length a - 1) n) ∙ get_or-set_same a (length a - 1) n 0 (omega arith)

pub parent-child : (a : List ℕ) (i : ℕ) → parent_address (a ++ i ∷ []) ≡ a
parent-child a i =
    let one : length (a ++ i ∷ []) - 1 ≡ length a = omega (arith, length_push a i) in
    ap (λ k. take k (a ++ i ∷ [])) one ∙ take-append_seam a (i ∷ [])

pub last-child : (a : List ℕ) (i : ℕ) → last_index (a ++ i ∷ []) ≡ i
last-child a i = get_or_push a i 0 (length (a ++ i ∷ []) - 1) (omega (arith, length_push a i))

-- What does not come before an address has siblings behind it that don't either.
first_index : (i x : ℕ) (xs : List ℕ) → is_lt (ordering_then (nat_cmp i x) (slice_cmp nat_cmp [] xs)) ≡ false → is_lt (ordering_then (nat_cmp (i + 1) x) (slice_cmp nat_cmp [] xs)) ≡ false
first_index i x xs h =
    ⊎_elim
    (λ (less : i < x).
    let before : is_lt (ordering_then (nat_cmp i x) (slice_cmp nat_cmp [] xs)) ≡ true =
    ap (λ o. is_lt (ordering_then o (slice_cmp nat_cmp [] xs))) (sym (nat_cmp_is i x Less less)) in
    absurd (false≢true (sym h ∙ before)))
    (λ (more : x ≤ i).
    ap (λ o. is_lt (ordering_then o (slice_cmp nat_cmp [] xs))) (sym (nat_cmp_is (i + 1) x Greater (omega arith))))
    (cases_lt i x)

pub not_before-next : (p : List ℕ) (i : ℕ) (b : List ℕ) → is_before (p ++ i ∷ []) b ≡ false → is_before (p ++ (i + 1) ∷ []) b ≡ false
not_before-next [] i [] h = refl
not_before-next [] i (x ∷ xs) h = first_index i x xs h
not_before-next (y ∷ p) i [] h = refl
not_before-next (y ∷ p) i (x ∷ xs) h =
    elim (nat_cmp y x) as (λ o. is_lt (ordering_then o (slice_cmp nat_cmp (p ++ i ∷ []) xs)) ≡ false → is_lt (ordering_then o (slice_cmp nat_cmp (p ++ (i + 1) ∷ []) xs)) ≡ false) [
      | Less ↦ λ k. k
      | Equal ↦ λ k. not_before-next p i xs k
      | Greater ↦ λ k. refl
    ] h

module _ {V : Type 0} where
  pub first-numbered : (p : List ℕ) (i : ℕ) (b : List ℕ) (xs : List V) → is_before (p ++ i ∷ []) b ≡ false → IsFirst b (numbered p i xs)
  first-numbered p i b [] h = All-nil (λ y. is_before y.at b ≡ false)
  first-numbered p i b (x ∷ xs) h =
      All-cons (λ y. is_before y.at b ≡ false) (record { at = p ++ i ∷ []; value = x; child_count = 0 }) (numbered p (i + 1) xs) h (first-numbered p (i + 1) b xs (not_before-next p i b h))

empty : {B : Type 0} (xs : List B) → length xs ≡ 0 → xs ≡ []
empty [] none = refl
empty (x ∷ xs) none = absurd (omega arith)

module _ {B : Type 0} where
  pub swap_fronts : (p q r : List B) → IsPermutation (p ++ (q ++ r)) (q ++ (p ++ r))
  swap_fronts p q r =
      subst (λ z. IsPermutation z (q ++ (p ++ r))) (append_assoc p q r)
      (subst (IsPermutation ((p ++ q) ++ r)) (append_assoc q p r) (IsPermutation-append_left r (p ++ q) (q ++ p) (IsPermutation-append_comm p q)))

module _ {X V : Type 0} (values : X → List V) where
  -- An entry that takes the place of another one.
  exchanged : (x : Addressed X) (xs : List (Addressed X)) (k : ℕ) (d : Addressed X) → k < length xs
      → IsPermutation (siblings values x ++ all_siblings values xs) (siblings values (get_or xs k d) ++ all_siblings values (set xs k x))
  exchanged x [] k d h = absurd (omega arith)
  exchanged x (z ∷ zs) zero d h = swap_fronts (siblings values x) (siblings values z) (all_siblings values zs)
  exchanged x (z ∷ zs) (suc k) d h =
      let y = get_or zs k d in
      IsPermutation-trans _ _ _ (swap_fronts (siblings values x) (siblings values z) (all_siblings values zs))
      (IsPermutation-trans _ _ _
      (IsPermutation-append_right (siblings values z) _ _ (exchanged x zs k d (omega arith)))
      (swap_fronts (siblings values z) (siblings values y) (all_siblings values (set zs k x))))

  swapped : (xs : List (Addressed X)) (i j : ℕ) (d : Addressed X) → i < length xs → j < length xs
      → IsPermutation (all_siblings values xs) (all_siblings values (set (set xs i (get_or xs j d)) j (get_or xs i d)))
  swapped [] i j d h k = absurd (omega arith)
  swapped (x ∷ xs) zero zero d h k = IsPermutation-refl _
  swapped (x ∷ xs) zero (suc j) d h k = exchanged x xs j d (omega arith)
  swapped (x ∷ xs) (suc i) zero d h k = exchanged x xs i d (omega arith)
  swapped (x ∷ xs) (suc i) (suc j) d h k = IsPermutation-append_right (siblings values x) _ _ (swapped xs i j d (omega arith) (omega arith))

  moved : (xs : List (Addressed X)) (i j : ℕ) → i < length xs → j < length xs → IsPermutation (all_siblings values xs) (all_siblings values (swap xs i j))
  moved [] i j h k = absurd (omega arith)
  moved (x ∷ xs) i j h k = subst (λ z. IsPermutation (all_siblings values (x ∷ xs)) (all_siblings values z)) (swap_is (x ∷ xs) i j x h k) (swapped (x ∷ xs) i j x h k)

  pub all_siblings-permutation : (xs ys : List (Addressed X)) → IsPermutation xs ys → IsPermutation (all_siblings values xs) (all_siblings values ys)
  all_siblings-permutation xs ys p =
      IsPermutation-keeps xs (λ zs. IsPermutation (all_siblings values xs) (all_siblings values zs)) (IsPermutation-refl _)
      (λ zs i j h k q. IsPermutation-trans _ _ _ q (moved zs i j h k)) ys p

  -- Nothing comes before an address that no entry comes before.
  pub first-all_siblings : (b : List ℕ) (xs : List (Addressed X)) → All (AreSiblings values) xs → IsFirst b xs → IsFirst b (all_siblings values xs)
  first-all_siblings b [] are first = All-nil (λ y. is_before y.at b ≡ false)
  first-all_siblings b (x ∷ xs) are first =
      let mine = All-head (AreSiblings values) x xs are in
      let not_before : is_before (parent_address x.at ++ last_index x.at ∷ []) b ≡ false =
      ap (λ a. is_before a b) (parent_and_last x.at mine.below) ∙ All-head (λ (y : Addressed X). is_before y.at b ≡ false) x xs first in
      All-append (λ y. is_before y.at b ≡ false) (siblings values x) (all_siblings values xs)
      (first-numbered (parent_address x.at) (last_index x.at) b (values x.value) not_before)
      (first-all_siblings b xs (All-tail (AreSiblings values) x xs are) (All-tail (λ (y : Addressed X). is_before y.at b ≡ false) x xs first))

  -- The first of an entry's values is at its address.
  first_of-entry : (x : Addressed X) (v : V) (rest : List V) → AreSiblings values x → values x.value ≡ v ∷ rest
      → siblings values x ≡ record { at = x.at; value = v; child_count = 0 } ∷ numbered (parent_address x.at) (last_index x.at + 1) rest
  first_of-entry x v rest mine is =
      ap (numbered (parent_address x.at) (last_index x.at)) is
      ∙ ap (λ a. record { at = a; value = v; child_count = 0 } ∷ numbered (parent_address x.at) (last_index x.at + 1) rest) (parent_and_last x.at mine.below)

  -- The others are at the address of the next sibling.
  next-entry : (a : List ℕ) (y : X) (count : ℕ) → 0 < length a
      → siblings values (record { at = set a (length a - 1) (last_index a + 1); value = y; child_count = count }) ≡ numbered (parent_address a) (last_index a + 1) (values y)
  next-entry a y count some =
      ap (λ p. numbered p (last_index (set a (length a - 1) (last_index a + 1))) (values y)) (parent-set_last a (last_index a + 1))
      ∙ ap (λ i. numbered (parent_address a) i (values y)) (last-set_last a (last_index a + 1) some)

  -- The first entry is at the address of the first value.
  pub first_value : (x : Addressed X) (xs : List (Addressed X)) → AreSiblings values x → (v : V) × (rest : List (Addressed V)) × (all_siblings values (x ∷ xs) ≡ record { at = x.at; value = v; child_count = 0 } ∷ rest)
  first_value x xs mine = from (values x.value) refl mine.some
    where
      from : (vs : List V) → values x.value ≡ vs → 0 < length vs → (v : V) × (rest : List (Addressed V)) × (all_siblings values (x ∷ xs) ≡ record { at = x.at; value = v; child_count = 0 } ∷ rest)
      from [] is some = absurd (omega arith)
      from (v ∷ vs) is some =
          (v, numbered (parent_address x.at) (last_index x.at + 1) vs ++ all_siblings values xs, ap (λ l. l ++ all_siblings values xs) (first_of-entry x v vs mine is))

  -- What the entry at the front says of all that is queued.
  pub record IsFront (x : Addressed X) (xs : List (Addressed X)) : Type 0 where
    pub next : x.at ≡ next_address (addresses_of (all_siblings values xs))
    pub among : 0 < times x.at (addresses_of (all_siblings values xs))

  pub front : (x : Addressed X) (xs : List (Addressed X)) → All (AreSiblings values) xs → 0 < length xs → x ≡ get_or xs 0 x → IsFront x xs
  front x [] are some is = absurd (omega arith)
  front x (z ∷ zs) are some is =
      let s = first_value z zs (All-head (AreSiblings values) z zs are) in
      let next : z.at ≡ next_address (addresses_of (all_siblings values (z ∷ zs))) = ap (λ l. next_address (addresses_of l)) (sym s.2) in
      let among : 0 < times z.at (addresses_of (all_siblings values (z ∷ zs))) =
      subst (λ l. 0 < times z.at (addresses_of l)) (sym s.2) (omega (arith, times-itself z.at (addresses_of s.1))) in
      rw is (record { next = next; among = among })

  -- A new entry has joined the others.
  pub record Joins (parent : List ℕ) (vs : List V) (old new : List (Addressed X)) : Type 0 where
    pub permutation : IsPermutation (numbered parent 0 vs ++ all_siblings values old) (all_siblings values new)
    pub are : All (AreSiblings values) new

  pub joins : (parent : List ℕ) (vs : List V) (x : Addressed X) (a : List ℕ) (y : X) (old was new : List (Addressed X)) → x ≡ record { at = a; value = y; child_count = 0 }
      → a ≡ parent ++ 0 ∷ [] → values y ≡ vs → 0 < length vs → length vs < 2 ^ 64 → was ≡ old → All (AreSiblings values) old → IsPermutation (x ∷ was) new → Joins parent vs old new
  joins parent vs x a y old was new x-is a-is y-is some fit was-is are p =
      let e : Addressed X = record { at = parent ++ 0 ∷ []; value = y; child_count = 0 } in
      let e-is : x ≡ e = x-is ∙ ap (λ b. record { at = b; value = y; child_count = 0 }) a-is in
      let q : IsPermutation (e ∷ old) new = rw (sym e-is, sym was-is) p in
      let spread : siblings values e ≡ numbered parent 0 vs =
      ap (λ b. numbered b (last_index (parent ++ 0 ∷ [])) (values y)) (parent-child parent 0) ∙ ap (λ i. numbered parent i (values y)) (last-child parent 0) ∙ ap (numbered parent 0) y-is in
      let mine : AreSiblings values e = record {
        below = omega (arith, length_push parent 0);
        some = omega (arith, ap length y-is);
        fit = omega (arith, ap length y-is, last-child parent 0);
      } in
      record {
        permutation = subst (λ l. IsPermutation (l ++ all_siblings values old) (all_siblings values new)) spread (all_siblings-permutation (e ∷ old) new q);
        are = All-permutation (AreSiblings values) (e ∷ old) new q (All-cons (AreSiblings values) e old mine are);
      }

  -- The first value has left.
  pub record Leaves (v : V) (old new : List (Addressed X)) : Type 0 where
    pub permutation : IsPermutation (all_siblings values old) (record { at = next_address (addresses_of (all_siblings values old)); value = v; child_count = 0 } ∷ all_siblings values new)
    pub are : All (AreSiblings values) new

  -- The entry at the front was taken out.
  module _ (x : Addressed X) (v : V) (rest : List V) (old others : List (Addressed X)) (are : All (AreSiblings values) old) (p : IsPermutation old (x ∷ others)) (top : x ≡ get_or old 0 x) (is : values x.value ≡ v ∷ rest) where
    all_are : All (AreSiblings values) (x ∷ others)
    all_are = All-permutation (AreSiblings values) old (x ∷ others) p are

    pub mine_are : AreSiblings values x
    mine_are = All-head (AreSiblings values) x others all_are

    old_some : 0 < length old
    old_some = omega (arith, length_permutation old (x ∷ others) p)

    taken_out : IsPermutation (all_siblings values old) (record { at = next_address (addresses_of (all_siblings values old)); value = v; child_count = 0 } ∷ (numbered (parent_address x.at) (last_index x.at + 1) rest ++ all_siblings values others))
    taken_out =
        let spread = first_of-entry x v rest mine_are is ∙ ap (λ a. record { at = a; value = v; child_count = 0 } ∷ numbered (parent_address x.at) (last_index x.at + 1) rest) (front x old are old_some top).next in
        subst (λ l. IsPermutation (all_siblings values old) (l ++ all_siblings values others)) spread (all_siblings-permutation old (x ∷ others) p)

    pub some_queued : 0 < length (all_siblings values old)
    some_queued = omega (arith, length_permutation _ _ taken_out)

    -- Its only value was taken.
    pub leaves_last : length rest ≡ 0 → Leaves v old others
    leaves_last none = record {
      permutation = subst (λ r. IsPermutation (all_siblings values old) (record { at = next_address (addresses_of (all_siblings values old)); value = v; child_count = 0 } ∷ (numbered (parent_address x.at) (last_index x.at + 1) r ++ all_siblings values others))) (empty rest none) taken_out;
      are = All-tail (AreSiblings values) x others all_are;
    }

    -- It was put back with the others of its values.
    pub leaves_some : (a : List ℕ) (y : X) (count : ℕ) (new : List (Addressed X)) → a ≡ set x.at (length x.at - 1) (last_index x.at + 1) → values y ≡ rest → 0 < length rest
        → IsPermutation (record { at = a; value = y; child_count = count } ∷ others) new → Leaves v old new
    leaves_some a y count new a-is y-is some q =
        let b : List ℕ = set x.at (length x.at - 1) (last_index x.at + 1) in
        let e : Addressed X = record { at = b; value = y; child_count = count } in
        let q' : IsPermutation (e ∷ others) new = rw (sym a-is) q in
        let long : length b ≡ length x.at = length-set x.at (length x.at - 1) (last_index x.at + 1) in
        let last : last_index b ≡ last_index x.at + 1 = last-set_last x.at (last_index x.at + 1) mine_are.below in
        let mine : AreSiblings values e = record {
          below = omega (arith, long, mine_are.below);
          some = omega (arith, ap length y-is);
          fit = omega (arith, last, ap length y-is, ap length is, mine_are.fit);
        } in
        let spread : siblings values e ≡ numbered (parent_address x.at) (last_index x.at + 1) rest = next-entry x.at y count mine_are.below ∙ ap (numbered (parent_address x.at) (last_index x.at + 1)) y-is in
        record {
          permutation = IsPermutation-trans _ _ _ taken_out
              (IsPermutation-cons _ _ _ (subst (λ l. IsPermutation (l ++ all_siblings values others) (all_siblings values new)) spread (all_siblings-permutation (e ∷ others) new q')));
          are = All-permutation (AreSiblings values) (e ∷ others) new q' (All-cons (AreSiblings values) e others mine (All-tail (AreSiblings values) x others all_are));
        }

module _ {X : Type 0} where
  pub some_there : (a : List ℕ) (xs : List (Addressed X)) → 0 < times a (addresses_of xs) → 0 < length xs
  some_there a [] h = h
  some_there a (x ∷ xs) h = omega arith
