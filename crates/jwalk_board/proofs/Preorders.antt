-- What is in a preorder.
use Rattle.std.proofs.Common.{◌≡◌, ℕ, zero, suc, ◌+◌, ◌<◌, ◌≤◌, true, false, cond, List, [], ◌∷◌, ◌++◌, length, refl, sym, ap, ◌∙◌, arith, subst, ⊎_elim, ◌⊎◌, inl, inr, Contains, All, get_or, append_assoc, eqb, ltb, Less, Equal}
use Rattle.std.proofs.lemmas.Bool.{false≢true, eqb-true, ltb-true}
use Rattle.std.proofs.lemmas.List.{append-nil, map-append}
use Rattle.std.proofs.lemmas.List.Elements.{All-head, All-tail, All-nil, All-cons, All-weaker, Contains-append_left, Contains-append_right, Contains-append_cases}
use Rattle.std.specs.Cmp.{nat_cmp_is}
use Rattle.std.specs.Cmp.Lexicographic.{slice_cmp}
use Rattle.std.specs.Ordering.{nat_cmp, is_lt, ordering_then}
use Rattle.jwalk_order.specs.IndexPath.{is_before}
use Rattle.std.proofs.Math.Nat.{eq-zero-or-pos}
use Rattle.jwalk_order.specs.Addresses.{is_same, times}
use Rattle.jwalk_board.specs.Left.{is_left}
use Rattle.jwalk_order.specs.Addressed.{Addressed, addresses_of, numbered}
use Rattle.jwalk_board.specs.Plan.{PlanTree, Falls, forest, node, subtree_within, subtree, specs_in_preorder}
use Rattle.jwalk_order.proofs.Children.{HasParent, IsChild, times-contains, at_most_one}
use Rattle.jwalk_board.proofs.Left.{left-below, left-children, not_before-below}
use Rattle.jwalk_order.proofs.Sets.{same, times-append, times-itself, among_cases}

-- ---- the order of addresses

left-is_before : (a b : List ℕ) → is_left a b ≡ true → is_before a b ≡ true
left-is_before [] b h = absurd (false≢true h)
left-is_before (x ∷ a) [] h = absurd (false≢true h)
left-is_before (x ∷ a) (y ∷ b) h =
    elim (eqb x y) as (λ v. eqb x y ≡ v → cond v (is_left a b) (ltb x y) ≡ true → is_before (x ∷ a) (y ∷ b) ≡ true) [
      | true ↦ λ e k.
          ap (λ o. is_lt (ordering_then o (slice_cmp nat_cmp a b))) (sym (nat_cmp_is x y Equal (eqb-true x y e))) ∙ left-is_before a b k
      | false ↦ λ e k. ap (λ o. is_lt (ordering_then o (slice_cmp nat_cmp a b))) (sym (nat_cmp_is x y Less (ltb-true x y k)))
    ] refl h

above-is_before : (a : List ℕ) (i : ℕ) (s : List ℕ) → is_before a (a ++ i ∷ s) ≡ true
above-is_before [] i s = refl
above-is_before (x ∷ a) i s =
    ap (λ o. is_lt (ordering_then o (slice_cmp nat_cmp a (a ++ i ∷ s)))) (sym (nat_cmp_is x x Equal refl)) ∙ above-is_before a i s

pub not_before-itself : (a : List ℕ) → is_before a a ≡ false
not_before-itself a = ap (λ z. is_before z a) (sym (append-nil a)) ∙ not_before-below a []

-- The addresses are in order.
abbrev pub IsAscending : List (List ℕ) → Type 0
IsAscending [] = Unit {0}
IsAscending (x ∷ xs) = ((y : List ℕ) → 0 < times y xs → is_before x y ≡ true) × IsAscending xs

ascending-append : (xs ys : List (List ℕ)) → IsAscending xs → IsAscending ys → ((x y : List ℕ) → 0 < times x xs → 0 < times y ys → is_before x y ≡ true) → IsAscending (xs ++ ys)
ascending-append [] ys h k cross = k
ascending-append (x ∷ xs) ys h k cross = (
  λ y m.
      ⊎_elim
      (λ (none : times y xs ≡ 0). cross x y (omega (arith, times-itself x xs)) (omega (arith, times-append y xs ys)))
      (λ (some : 0 < times y xs). h.0 y some)
      (eq-zero-or-pos (times y xs)),
  ascending-append xs ys h.1 k (λ z y m n. cross z y (omega arith) n),
)

pub ascending-cross : (xs ys : List (List ℕ)) → IsAscending (xs ++ ys) → (x y : List ℕ) → 0 < times x xs → 0 < times y ys → is_before x y ≡ true
ascending-cross [] ys h x y m n = absurd (omega arith)
ascending-cross (z ∷ zs) ys h x y m n =
    ⊎_elim
    (λ (e : z ≡ x). ap (λ w. is_before w y) (sym e) ∙ h.0 y (omega (arith, times-append y zs ys)))
    (λ (k : 0 < times x zs). ascending-cross zs ys h.1 x y k n)
    (among_cases x z zs m)

pub ascending-once : (a : List ℕ) (xs : List (List ℕ)) → IsAscending xs → times a xs ≤ 1
ascending-once a [] h = omega arith
ascending-once a (x ∷ xs) h =
    ⊎_elim
    (λ (none : times a xs ≡ 0). omega (arith, at_most_one (is_same a x)))
    (λ (some : 0 < times a xs).
    elim (is_same a x) as (λ b. is_same a x ≡ b → cond b 1 0 + times a xs ≤ 1) [
      | true ↦ λ e. absurd (false≢true (sym (not_before-itself a) ∙ ap (λ z. is_before z a) (sym (same a x e)) ∙ h.0 a some))
      | false ↦ λ e. omega (arith, ascending-once a xs h.1)
    ] refl)
    (eq-zero-or-pos (times a xs))

-- ---- parents in longer lists

module _ {V : Type 0} where
  pub has_more : {c : List ℕ} (xs ys : List (Addressed V)) → HasParent c ys → HasParent c (xs ++ ys)
  has_more xs ys p = record { parent = p.parent; index = p.index; there = Contains-append_right xs ys p.parent p.there; below = p.below; is = p.is }

  pub has_less : {c : List ℕ} (xs ys : List (Addressed V)) → HasParent c xs → HasParent c (xs ++ ys)
  has_less xs ys p = record { parent = p.parent; index = p.index; there = Contains-append_left xs ys p.parent p.there; below = p.below; is = p.is }

-- ---- what a subtree starts with

abbrev pub IsAtOrBelow : List ℕ → List ℕ → Type 0
IsAtOrBelow a y = (rest : List ℕ) × (y ≡ a ++ rest)

-- The address is at or below a child with an index from `i` on.
abbrev pub IsBelowChild : List ℕ → ℕ → List ℕ → Type 0
IsBelowChild a i y = (j : ℕ) × (i ≤ j) × ((rest : List ℕ) × (y ≡ a ++ j ∷ rest))

module _ {S : Type 0} where
  forest_starts : (f : List ℕ → S → List (Addressed S)) → ((a : List ℕ) (s : S) (y : List ℕ) → 0 < times y (addresses_of (f a s)) → IsAtOrBelow a y)
      → (a : List ℕ) (i : ℕ) (specs : List S) (y : List ℕ) → 0 < times y (addresses_of (forest f a i specs)) → IsBelowChild a i y
  forest_starts f starts a i [] y h = absurd (omega arith)
  forest_starts f starts a i (s ∷ specs) y h =
      let both : times y (addresses_of (f (a ++ i ∷ []) s ++ forest f a (i + 1) specs)) ≡ times y (addresses_of (f (a ++ i ∷ []) s)) + times y (addresses_of (forest f a (i + 1) specs)) =
      ap (times y) (map-append (λ x. x.at) (f (a ++ i ∷ []) s) (forest f a (i + 1) specs)) ∙ times-append y (addresses_of (f (a ++ i ∷ []) s)) (addresses_of (forest f a (i + 1) specs)) in
      ⊎_elim
      (λ (none : times y (addresses_of (f (a ++ i ∷ []) s)) ≡ 0).
      let r = forest_starts f starts a (i + 1) specs y (omega (arith, both)) in
      let low : i ≤ r.0 = omega (arith, r.1) in
      (r.0, low, r.2))
      (λ (some : 0 < times y (addresses_of (f (a ++ i ∷ []) s))).
      let r = starts (a ++ i ∷ []) s y some in
      let low : i ≤ i = omega arith in
      (i, low, (r.0, r.1 ∙ append_assoc a (i ∷ []) r.0)))
      (eq-zero-or-pos (times y (addresses_of (f (a ++ i ∷ []) s))))

  forest_ascends : (f : List ℕ → S → List (Addressed S)) → ((a : List ℕ) (s : S) (y : List ℕ) → 0 < times y (addresses_of (f a s)) → IsAtOrBelow a y)
      → ((a : List ℕ) (s : S) → IsAscending (addresses_of (f a s))) → (a : List ℕ) (i : ℕ) (specs : List S) → IsAscending (addresses_of (forest f a i specs))
  forest_ascends f starts ascends a i [] = tt
  forest_ascends f starts ascends a i (s ∷ specs) =
      subst IsAscending (sym (map-append (λ x. x.at) (f (a ++ i ∷ []) s) (forest f a (i + 1) specs)))
      (ascending-append (addresses_of (f (a ++ i ∷ []) s)) (addresses_of (forest f a (i + 1) specs)) (ascends (a ++ i ∷ []) s) (forest_ascends f starts ascends a (i + 1) specs)
      (λ x y m n.
      let p = starts (a ++ i ∷ []) s x m in
      let q = forest_starts f starts a (i + 1) specs y n in
      let less : i < q.0 = omega (arith, q.1) in
      let l = left-below (a ++ i ∷ []) (a ++ q.0 ∷ []) p.0 q.2.0 (left-children a i q.0 less) in
      ap (λ z. is_before z y) p.1 ∙ ap (is_before ((a ++ i ∷ []) ++ p.0)) (q.2.1 ∙ sym (append_assoc a (q.0 ∷ []) q.2.0))
      ∙ left-is_before ((a ++ i ∷ []) ++ p.0) ((a ++ q.0 ∷ []) ++ q.2.0) l))

  -- two trees that agree on these specifications
  forest_same : (f g : List ℕ → S → List (Addressed S)) (a : List ℕ) (i : ℕ) (specs : List S) → All (λ c. (b : List ℕ) → f b c ≡ g b c) specs → forest f a i specs ≡ forest g a i specs
  forest_same f g a i [] h = refl
  forest_same f g a i (s ∷ specs) h =
      ap (λ z. z ++ forest f a (i + 1) specs) (All-head (λ c. (b : List ℕ) → f b c ≡ g b c) s specs h (a ++ i ∷ []))
      ∙ ap (λ z. g (a ++ i ∷ []) s ++ z) (forest_same f g a (i + 1) specs (All-tail (λ c. (b : List ℕ) → f b c ≡ g b c) s specs h))

  cons_at : (x y : Addressed S) (xs : List (Addressed S)) (k : ℕ) → k < length (x ∷ xs) → get_or (x ∷ xs) k y ≡ y → (y ≡ x) ⊎ Contains xs y
  cons_at x y xs zero less e = inl (sym e)
  cons_at x y xs (suc k) less e = let l : k < length xs = omega arith in inr (k, l, e)

  pub cons_cases : (x y : Addressed S) (xs : List (Addressed S)) → Contains (x ∷ xs) y → (y ≡ x) ⊎ Contains xs y
  cons_cases x y xs h = cons_at x y xs h.0 h.1 h.2

  pub contains_first : (x : Addressed S) (xs : List (Addressed S)) → Contains (x ∷ xs) x
  contains_first x xs = let l : 0 < length (x ∷ xs) = omega arith in (0, l, refl)

  pub contains_later : (x y : Addressed S) (xs : List (Addressed S)) → Contains xs y → Contains (x ∷ xs) y
  contains_later x y xs h = Contains-append_right (x ∷ []) xs y h

  -- One address, one value.
  pub unique : (xs : List (Addressed S)) → IsAscending (addresses_of xs) → (x y : Addressed S) → Contains xs x → Contains xs y → x.at ≡ y.at → x ≡ y
  unique [] h x y m n e = absurd (let l : m.0 < 0 = m.1 in omega arith)
  unique (z ∷ zs) h x y m n e =
      ⊎_elim
      (λ (p : x ≡ z).
      ⊎_elim
      (λ (q : y ≡ z). p ∙ sym q)
      (λ (q : Contains zs y).
      absurd (false≢true (sym (not_before-itself z.at) ∙ ap (is_before z.at) (ap (λ w. w.at) (sym p) ∙ e) ∙ h.0 y.at (times-contains zs y q))))
      (cons_cases z y zs n))
      (λ (p : Contains zs x).
      ⊎_elim
      (λ (q : y ≡ z).
      absurd (false≢true (sym (not_before-itself z.at) ∙ ap (is_before z.at) (ap (λ w. w.at) (sym q) ∙ sym e) ∙ h.0 x.at (times-contains zs x p))))
      (λ (q : Contains zs y). unique zs h.1 x y p q e)
      (cons_cases z y zs n))
      (cons_cases z x zs m)

  forest_parent : (f : List ℕ → S → List (Addressed S)) → ((a : List ℕ) (s : S) (y : List ℕ) → 0 < times y (addresses_of (f a s)) → (y ≡ a) ⊎ HasParent y (f a s))
      → (a : List ℕ) (i : ℕ) (specs : List S) (y : List ℕ) → 0 < times y (addresses_of (forest f a i specs)) → IsChild y a i (length specs) ⊎ HasParent y (forest f a i specs)
  forest_parent f parents a i [] y h = absurd (omega arith)
  forest_parent f parents a i (s ∷ specs) y h =
      let here : List (Addressed S) = f (a ++ i ∷ []) s in
      let later : List (Addressed S) = forest f a (i + 1) specs in
      let both : times y (addresses_of (here ++ later)) ≡ times y (addresses_of here) + times y (addresses_of later) =
      ap (times y) (map-append (λ x. x.at) here later) ∙ times-append y (addresses_of here) (addresses_of later) in
      ⊎_elim
      (λ (none : times y (addresses_of here) ≡ 0).
      ⊎_elim
      (λ (k : IsChild y a (i + 1) (length specs)).
      let low : i ≤ k.0 = omega (arith, k.1) in let high : k.0 < i + length (s ∷ specs) = omega (arith, k.2) in inl (k.0, low, high, k.3))
      (λ (p : HasParent y later). inr (has_more here later p))
      (forest_parent f parents a (i + 1) specs y (omega (arith, both))))
      (λ (some : 0 < times y (addresses_of here)).
      ⊎_elim
      (λ (e : y ≡ a ++ i ∷ []). let low : i ≤ i = omega arith in let high : i < i + length (s ∷ specs) = omega arith in inl (i, low, high, e))
      (λ (p : HasParent y here). inr (has_less here later p))
      (parents (a ++ i ∷ []) s y some))
      (eq-zero-or-pos (times y (addresses_of here)))

module _ {S R : Type 0} (t : PlanTree S R) where
  within_starts : (n : ℕ) (a : List ℕ) (s : S) (y : List ℕ) → 0 < times y (addresses_of (subtree_within t n a s)) → IsAtOrBelow a y
  within_starts zero a s y h = absurd (omega arith)
  within_starts (suc n) a s y h =
      ⊎_elim
      (λ (e : a ≡ y). ([], sym e ∙ sym (append-nil a)))
      (λ (m : 0 < times y (addresses_of (forest (subtree_within t n) a 0 (t.children s)))).
      let r = forest_starts (subtree_within t n) (within_starts n) a 0 (t.children s) y m in (r.0 ∷ r.2.0, r.2.1))
      (among_cases y a (addresses_of (forest (subtree_within t n) a 0 (t.children s))) h)

  within_ascends : (n : ℕ) (a : List ℕ) (s : S) → IsAscending (addresses_of (subtree_within t n a s))
  within_ascends zero a s = tt
  within_ascends (suc n) a s = (
    λ y m.
        let r = forest_starts (subtree_within t n) (within_starts n) a 0 (t.children s) y m in
        ap (is_before a) r.2.1 ∙ above-is_before a r.0 r.2.0,
    forest_ascends (subtree_within t n) (within_starts n) (within_ascends n) a 0 (t.children s),
  )

  within_parent : (n : ℕ) (a : List ℕ) (s : S) (y : List ℕ) → 0 < times y (addresses_of (subtree_within t n a s)) → (y ≡ a) ⊎ HasParent y (subtree_within t n a s)
  within_parent zero a s y h = absurd (omega arith)
  within_parent (suc n) a s y h =
      let below : List (Addressed S) = forest (subtree_within t n) a 0 (t.children s) in
      ⊎_elim
      (λ (e : a ≡ y). inl (sym e))
      (λ (m : 0 < times y (addresses_of below)).
      ⊎_elim
      (λ (k : IsChild y a 0 (length (t.children s))).
      let less : k.0 < (node t a s).child_count = omega (arith, k.2) in
      let p : HasParent y (node t a s ∷ below) = record { parent = node t a s; index = k.0; there = contains_first (node t a s) below; below = less; is = k.3 } in inr p)
      (λ (p : HasParent y below). inr (has_more (node t a s ∷ []) below p))
      (forest_parent (subtree_within t n) (within_parent n) a 0 (t.children s) y m))
      (among_cases y a (addresses_of below) h)

  pub ascends : (roots : List S) → IsAscending (addresses_of (specs_in_preorder t roots))
  ascends roots =
      forest_ascends (subtree t) (λ a s. within_starts (suc (t.height s)) a s) (λ a s. within_ascends (suc (t.height s)) a s) [] 0 roots

  -- An address of the preorder is that of a root, or has its parent there.
  pub root_or_child : (roots : List S) (y : List ℕ) → 0 < times y (addresses_of (specs_in_preorder t roots)) → IsChild y [] 0 (length roots) ⊎ HasParent y (specs_in_preorder t roots)
  root_or_child roots y h = forest_parent (subtree t) (λ a s. within_parent (suc (t.height s)) a s) [] 0 roots y h

  module _ (falls : Falls t) where
    within_same : (n m : ℕ) (a : List ℕ) (s : S) → t.height s < n → t.height s < m → subtree_within t n a s ≡ subtree_within t m a s
    within_same zero m a s h k = absurd (omega arith)
    within_same (suc n) zero a s h k = absurd (omega arith)
    within_same (suc n) (suc m) a s h k =
        ap (λ z. node t a s ∷ z)
        (forest_same (subtree_within t n) (subtree_within t m) a 0 (t.children s)
        (All-weaker (λ c. t.height c < t.height s) (λ c. (b : List ℕ) → subtree_within t n b c ≡ subtree_within t m b c)
        (λ c less b. within_same n m b c (omega arith) (omega arith)) (t.children s) (falls s)))

    -- A subtree is its node, followed by the subtrees of the children.
    pub subtree-is : (a : List ℕ) (s : S) → subtree t a s ≡ node t a s ∷ forest (subtree t) a 0 (t.children s)
    subtree-is a s =
        ap (λ z. node t a s ∷ z)
        (forest_same (subtree_within t (t.height s)) (subtree t) a 0 (t.children s)
        (All-weaker (λ c. t.height c < t.height s) (λ c. (b : List ℕ) → subtree_within t (t.height s) b c ≡ subtree t b c)
        (λ c less b. within_same (t.height s) (suc (t.height c)) b c less (omega arith)) (t.children s) (falls s)))

    forest_closed : (f : List ℕ → S → List (Addressed S)) (a : List ℕ) (i : ℕ) (specs : List S)
        → All (λ c. (b : List ℕ) (x : Addressed S) → Contains (f b c) x → (z : Addressed S) → Contains (forest (subtree t) x.at 0 (t.children x.value)) z → Contains (f b c) z) specs
        → (x : Addressed S) → Contains (forest f a i specs) x → (z : Addressed S) → Contains (forest (subtree t) x.at 0 (t.children x.value)) z → Contains (forest f a i specs) z
    forest_closed f a i [] h x m z k = absurd (let l : m.0 < 0 = m.1 in omega arith)
    forest_closed f a i (s ∷ specs) h x m z k =
        let P : S → Type 0 = λ c. (b : List ℕ) (x : Addressed S) → Contains (f b c) x → (z : Addressed S) → Contains (forest (subtree t) x.at 0 (t.children x.value)) z → Contains (f b c) z in
        let here : List (Addressed S) = f (a ++ i ∷ []) s in
        let later : List (Addressed S) = forest f a (i + 1) specs in
        ⊎_elim
        (λ (p : Contains here x). Contains-append_left here later z (All-head P s specs h (a ++ i ∷ []) x p z k))
        (λ (p : Contains later x). Contains-append_right here later z (forest_closed f a (i + 1) specs (All-tail P s specs h) x p z k))
        (Contains-append_cases here later x m)

    within_closed : (n : ℕ) (a : List ℕ) (s : S) → t.height s < n → (x : Addressed S) → Contains (subtree_within t n a s) x
        → (z : Addressed S) → Contains (forest (subtree t) x.at 0 (t.children x.value)) z → Contains (subtree_within t n a s) z
    within_closed zero a s h x m z k = absurd (omega arith)
    within_closed (suc n) a s h x m z k =
        let below : List (Addressed S) = forest (subtree_within t n) a 0 (t.children s) in
        ⊎_elim
        (λ (e : x ≡ node t a s).
        let same : forest (subtree t) a 0 (t.children s) ≡ below =
        forest_same (subtree t) (subtree_within t n) a 0 (t.children s)
        (All-weaker (λ c. t.height c < t.height s) (λ c. (b : List ℕ) → subtree t b c ≡ subtree_within t n b c)
        (λ c less b. within_same (suc (t.height c)) n b c (omega arith) (omega arith)) (t.children s) (falls s)) in
        let q : Contains (forest (subtree t) a 0 (t.children s)) z = subst (λ w. Contains (forest (subtree t) w.at 0 (t.children w.value)) z) e k in
        contains_later (node t a s) z below (subst (λ w. Contains w z) same q))
        (λ (p : Contains below x).
        contains_later (node t a s) z below
        (forest_closed (subtree_within t n) a 0 (t.children s)
        (All-weaker (λ c. t.height c < t.height s)
        (λ c. (b : List ℕ) (x : Addressed S) → Contains (subtree_within t n b c) x → (z : Addressed S) → Contains (forest (subtree t) x.at 0 (t.children x.value)) z → Contains (subtree_within t n b c) z)
        (λ c less b y there w inner. within_closed n b c (omega arith) y there w inner) (t.children s) (falls s)) x p z k))
        (cons_cases (node t a s) x below m)

    pub closed_below : (roots : List S) (x : Addressed S) → Contains (specs_in_preorder t roots) x → (z : Addressed S) → Contains (forest (subtree t) x.at 0 (t.children x.value)) z
        → Contains (specs_in_preorder t roots) z
    closed_below roots x m z k =
        forest_closed (subtree t) [] 0 roots
        (λ j d less b y there w inner. within_closed (suc (t.height (get_or roots j d))) b (get_or roots j d) (omega arith) y there w inner) x m z k

    -- The children of an address are in its forest.
    pub children_there : (a : List ℕ) (i : ℕ) (specs : List S) → All (λ z. Contains (forest (subtree t) a i specs) (node t z.at z.value)) (numbered a i specs)
    children_there a i [] = All-nil (λ z. Contains (forest (subtree t) a i []) (node t z.at z.value))
    children_there a i (s ∷ specs) =
        let here : List (Addressed S) = subtree t (a ++ i ∷ []) s in
        let later : List (Addressed S) = forest (subtree t) a (i + 1) specs in
        let first : Contains here (node t (a ++ i ∷ []) s) =
        subst (λ w. Contains w (node t (a ++ i ∷ []) s)) (sym (subtree-is (a ++ i ∷ []) s)) (contains_first (node t (a ++ i ∷ []) s) (forest (subtree t) (a ++ i ∷ []) 0 (t.children s))) in
        All-cons (λ z. Contains (here ++ later) (node t z.at z.value)) (record { at = a ++ i ∷ []; value = s; child_count = 0 }) (numbered a (i + 1) specs)
        (Contains-append_left here later (node t (a ++ i ∷ []) s) first)
        (All-weaker (λ z. Contains later (node t z.at z.value)) (λ z. Contains (here ++ later) (node t z.at z.value))
        (λ z h. Contains-append_right here later (node t z.at z.value) h) (numbered a (i + 1) specs) (children_there a (i + 1) specs))
