-- What follows from an address that is left of another.
use Rattle.std.proofs.Common.{◌≡◌, ℕ, zero, suc, ◌+◌, ◌<◌, true, false, cond, eqb, ltb, ⊎_elim, List, [], ◌∷◌, ◌++◌, refl, sym, ap, ◌∙◌, arith, subst, ◌⊎◌, inl, inr, Equal, Greater}
use Rattle.std.proofs.lemmas.List.{append-nil}
use Rattle.std.proofs.lemmas.Bool.{false≢true, eqb-true, ltb-true, lt-ltb}
use Rattle.std.specs.Cmp.{nat_cmp_is}
use Rattle.std.specs.Cmp.Lexicographic.{slice_cmp}
use Rattle.std.specs.Ordering.{nat_cmp, is_lt, ordering_then}
use Rattle.jwalk_order.specs.Frontier.{children_from}
use Rattle.jwalk_order.specs.IndexPath.{is_before}
use Rattle.jwalk_order.specs.Addresses.{times}
use Rattle.jwalk_board.specs.Left.{is_left, IsLeftOf, IsApart}
use Rattle.jwalk_order.proofs.Sets.{among_cases}

eqb-itself : (x : ℕ) → eqb x x ≡ true
eqb-itself x = search arith

-- If one address is left of another, so is what lies below them.
pub left-below : (a b s t : List ℕ) → is_left a b ≡ true → is_left (a ++ s) (b ++ t) ≡ true
left-below [] b s t h = absurd (false≢true h)
left-below (x ∷ a) [] s t h = absurd (false≢true h)
left-below (x ∷ a) (y ∷ b) s t h =
    elim (eqb x y) as (λ v. cond v (is_left a b) (ltb x y) ≡ true → cond v (is_left (a ++ s) (b ++ t)) (ltb x y) ≡ true) [
      | true ↦ λ k. left-below a b s t k
      | false ↦ λ k. k
    ] h

pub not_left-below : (a s : List ℕ) → is_left a (a ++ s) ≡ false
not_left-below [] s = refl
not_left-below (x ∷ a) s = ap (λ v. cond v (is_left a (a ++ s)) (ltb x x)) (eqb-itself x) ∙ not_left-below a s

pub not_left-above : (a s : List ℕ) → is_left (a ++ s) a ≡ false
not_left-above [] [] = refl
not_left-above [] (x ∷ s) = refl
not_left-above (x ∷ a) s = ap (λ v. cond v (is_left (a ++ s) a) (ltb x x)) (eqb-itself x) ∙ not_left-above a s

pub left-before : (a b : List ℕ) → is_left a b ≡ true → is_before b a ≡ false
left-before [] b h = absurd (false≢true h)
left-before (x ∷ a) [] h = absurd (false≢true h)
left-before (x ∷ a) (y ∷ b) h =
    elim (eqb x y) as (λ v. eqb x y ≡ v → cond v (is_left a b) (ltb x y) ≡ true → is_before (y ∷ b) (x ∷ a) ≡ false) [
      | true ↦ λ e k.
          ap (λ o. is_lt (ordering_then o (slice_cmp nat_cmp b a))) (sym (nat_cmp_is y x Equal (sym (eqb-true x y e)))) ∙ left-before a b k
      | false ↦ λ e k. ap (λ o. is_lt (ordering_then o (slice_cmp nat_cmp b a))) (sym (nat_cmp_is y x Greater (ltb-true x y k)))
    ] refl h

pub not_before-below : (a s : List ℕ) → is_before (a ++ s) a ≡ false
not_before-below [] [] = refl
not_before-below [] (x ∷ s) = refl
not_before-below (x ∷ a) s =
    ap (λ o. is_lt (ordering_then o (slice_cmp nat_cmp (a ++ s) a))) (sym (nat_cmp_is x x Equal refl)) ∙ not_before-below a s

eqb-less : (i j : ℕ) → i < j → eqb i j ≡ false
eqb-less i j h = elim (eqb i j) as (λ v. eqb i j ≡ v → v ≡ false) [ true ↦ λ e. absurd (let k : i ≡ j = eqb-true i j e in omega arith) | false ↦ λ e. refl ] refl

-- Of two children the one with the smaller index is left.
pub left-children : (a : List ℕ) (i j : ℕ) → i < j → is_left (a ++ i ∷ []) (a ++ j ∷ []) ≡ true
left-children [] i j h = ap (λ v. cond v false (ltb i j)) (eqb-less i j h) ∙ lt-ltb i j h
left-children (x ∷ a) i j h =
    ap (λ v. cond v (is_left (a ++ i ∷ []) (a ++ j ∷ [])) (ltb x x)) (eqb-itself x) ∙ left-children a i j h

left_of_children : (a : List ℕ) (i j n : ℕ) → i < j → IsLeftOf (a ++ i ∷ []) (children_from j a n)
left_of_children a i j zero h = tt
left_of_children a i j (suc n) h = (left-children a i j h, left_of_children a i (j + 1) n (omega arith))

pub apart_children : (a : List ℕ) (i n : ℕ) → IsApart (children_from i a n)
apart_children a i zero = tt
apart_children a i (suc n) = (left_of_children a i (i + 1) n (omega arith), apart_children a (i + 1) n)

left_of-append : (a : List ℕ) (xs ys : List (List ℕ)) → IsLeftOf a xs → IsLeftOf a ys → IsLeftOf a (xs ++ ys)
left_of-append a [] ys h k = k
left_of-append a (x ∷ xs) ys h k = (h.0, left_of-append a xs ys h.1 k)

left_of-child : (a : List ℕ) (i : ℕ) (ys : List (List ℕ)) → IsLeftOf a ys → IsLeftOf (a ++ i ∷ []) ys
left_of-child a i [] h = tt
left_of-child a i (y ∷ ys) h =
    (subst (λ z. is_left (a ++ i ∷ []) z ≡ true) (append-nil y) (left-below a y (i ∷ []) [] h.0), left_of-child a i ys h.1)

-- The children of an address may take its place.
pub apart_passed : (a : List ℕ) (i n : ℕ) (rest : List (List ℕ)) → IsLeftOf a rest → IsApart rest → IsApart (children_from i a n ++ rest)
apart_passed a i zero rest h k = k
apart_passed a i (suc n) rest h k = (
  left_of-append (a ++ i ∷ []) (children_from (i + 1) a n) rest (left_of_children a i (i + 1) n (omega arith)) (left_of-child a i rest h),
  apart_passed a (i + 1) n rest h k,
)

pub left_of-among : (a g : List ℕ) (xs : List (List ℕ)) → IsLeftOf a xs → 0 < times g xs → is_left a g ≡ true
left_of-among a g [] h k = absurd (omega arith)
left_of-among a g (x ∷ xs) h k =
    ⊎_elim (λ e. ap (is_left a) (sym e) ∙ h.0) (λ m. left_of-among a g xs h.1 m) (among_cases g x xs k)

-- Two of such a list are one, or one is left of the other.
pub apart_pair : (f g : List ℕ) (xs : List (List ℕ)) → IsApart xs → 0 < times f xs → 0 < times g xs → (f ≡ g) ⊎ ((is_left f g ≡ true) ⊎ (is_left g f ≡ true))
apart_pair f g [] h k m = absurd (omega arith)
apart_pair f g (x ∷ xs) h k m =
    ⊎_elim
    (λ e. ⊎_elim (λ d. inl (sym e ∙ d)) (λ d. inr (inl (ap (λ z. is_left z g) (sym e) ∙ left_of-among x g xs h.0 d))) (among_cases g x xs m))
    (λ e. ⊎_elim (λ d. inr (inr (ap (λ z. is_left z f) (sym d) ∙ left_of-among x f xs h.0 e))) (λ d. apart_pair f g xs h.1 e d) (among_cases g x xs m))
    (among_cases f x xs k)
