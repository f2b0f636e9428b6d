-- What is at the top of a heap by address.
use Rattle.std.proofs.Common.{◌≡◌, ℕ, ◌-◌, ◌<◌, ◌≤◌, true, false, List, [], ◌∷◌, ◌++◌, map, get_or, length, length-append, refl, sym, ap, ◌∙◌, arith, subst, Less, Equal, Greater, Option, Some, None}
use Rattle.std.proofs.lemmas.Bool.{false≢true}
use Rattle.std.proofs.lemmas.Cmp.{tied_itself}
use Rattle.std.proofs.lemmas.List.Sorted.{All-permutation, IsPermutation-map, length_permutation}
use Rattle.std.specs.Cmp.Lexicographic.{nat_list_cmp_total, slice_cmp}
use Rattle.std.specs.FinMap.{nat_cmp-IsAntisymmetric, slice_cmp-IsAntisymmetric}
use Rattle.std.specs.List.Sorted.{IsPermutation}
use Rattle.std.specs.Ordering.{nat_cmp, is_lt, ordering_reverse}
use Rattle.std.specs.declared.cmp.Ordering.{Ordering}
use Rattle.jwalk_order.specs.Frontier.{next_address}
use Rattle.std.proofs.lemmas.List.Elements.{All-cons, All-from_recursion, All-map}
use Rattle.std.specs.Option.{IsSome, IfSome, option_to_list}
use Rattle.std.specs.BinaryHeap.{IsUpperBound}
use Rattle.jwalk_order.specs.IndexPath.{address, is_before}
use Rattle.jwalk_order.specs.Ordered.{address_of, child_count_of, ordered_cmp}
use Rattle.jwalk_order.specs.declared.index_path.IndexPath.{IndexPath}
use Rattle.jwalk_order.specs.declared.ordered.Ordered.{Ordered}
use Rattle.jwalk_order.specs.Addresses.{times}
use Rattle.jwalk_order.specs.Addressed.{addressed, addresses_of, IsFirst}
use Rattle.jwalk_order.proofs.Sets.{times-itself}

pub if_some_with : {X : Type 0} (r : Option X) {P : Type 0} {Q S : X → Type 0} → (IsSome r → P) → IfSome r Q → ((x : X) → P → Q x → S x) → IfSome r S
if_some_with None p q f = tt
if_some_with (Some x) p q f = f x (p refl) q

module _ {V A : Type 0} where
  pub first_from_bound : (top : Ordered V A) (items : List (Ordered V A)) → IsUpperBound ordered_cmp top items → IsFirst (address_of top) (map addressed items)
  first_from_bound top items h =
      All-map (λ y. is_before y.at (address_of top) ≡ false) addressed items (All-from_recursion (λ y. is_before (address_of y) (address_of top) ≡ false) items h)

  pub among_from_top : (top : Ordered V A) (items : List (Ordered V A)) → 0 < length items → top ≡ get_or items 0 top → 0 < times (address_of top) (addresses_of (map addressed items))
  among_from_top top [] some first = absurd (omega arith)
  among_from_top top (x ∷ xs) some first =
      subst (λ y. 0 < times (address_of top) (address_of y ∷ addresses_of (map addressed xs))) first (omega (arith, times-itself (address_of top) (addresses_of (map addressed xs))))

  pub top_addressed : (top : Ordered V A) (items : List (Ordered V A)) → top ≡ get_or items 0 top → addressed top ≡ get_or (map addressed items) 0 (addressed top)
  top_addressed top [] first = refl
  top_addressed top (x ∷ xs) first = ap addressed first

  pub addressed-is : (item : Ordered V A) (path : IndexPath A) (value : V) (count : ℕ) → item.value ≡ value → item.index_path ≡ path → child_count_of item ≡ count
      → addressed item ≡ record { at = address path; value = value; child_count = count }
  addressed-is item path value count v p n = λ i. record { at = address (p i); value = v i; child_count = n i }

-- If b does not come before a, and c does not come before b, then c does not come before a.
pub not_before-trans : (a b c : List ℕ) → is_before b a ≡ false → is_before c b ≡ false → is_before c a ≡ false
not_before-trans a b c h k = go (slice_cmp nat_cmp c a) refl (slice_cmp nat_cmp b a) refl
  where
    go : (o : Ordering) → slice_cmp nat_cmp c a ≡ o → (p : Ordering) → slice_cmp nat_cmp b a ≡ p → is_lt o ≡ false
    go Less e Less d = absurd (false≢true (sym h ∙ ap is_lt d))
    go Less e Equal d =
        let same : b ≡ a = slice_cmp-IsAntisymmetric nat_cmp-IsAntisymmetric b a d in
        absurd (false≢true (sym k ∙ ap (λ z. is_before c z) same ∙ ap is_lt e))
    go Less e Greater d =
        let less : slice_cmp nat_cmp a b ≡ Less = nat_list_cmp_total.antisymm a b ∙ ap ordering_reverse d in
        absurd (false≢true (sym k ∙ ap is_lt (nat_list_cmp_total.trans c a b e less)))
    go Equal e p d = refl
    go Greater e p d = refl

pub not_before-back : (a b : List ℕ) → is_before a b ≡ true → is_before b a ≡ false
not_before-back a b h = go (slice_cmp nat_cmp a b) refl
  where
    go : (o : Ordering) → slice_cmp nat_cmp a b ≡ o → is_before b a ≡ false
    go Less e = ap is_lt (nat_list_cmp_total.antisymm b a ∙ ap ordering_reverse e)
    go Equal e = absurd (false≢true (sym (ap is_lt e) ∙ h))
    go Greater e = absurd (false≢true (sym (ap is_lt e) ∙ h))

pub not_before-itself : (a : List ℕ) → is_before a a ≡ false
not_before-itself a = ap is_lt (tied_itself nat_list_cmp_total a)

-- Items of which one, if it is there, is in front of a list of others.
module _ {V A : Type 0} where
  abbrev IsInFront : Option (Ordered V A) → List (Ordered V A) → Type 0
  IsInFront front others = IfSome front (λ x. IsFirst (address_of x) (map addressed others))

  pub first-of_front : (x : Ordered V A) (others : List (Ordered V A)) → IsFirst (address_of x) (map addressed others) → IsFirst (address_of x) (map addressed (x ∷ others))
  first-of_front x others h = All-cons (λ y. is_before y.at (address_of x) ≡ false) (addressed x) (map addressed others) (not_before-itself (address_of x)) h

  pub first-permutation : (a : List ℕ) (xs ys : List (Ordered V A)) → IsPermutation xs ys → IsFirst a (map addressed xs) → IsFirst a (map addressed ys)
  first-permutation a xs ys p = All-permutation (λ y. is_before y.at a ≡ false) (map addressed xs) (map addressed ys) (IsPermutation-map addressed xs ys p)

  -- What the first comes before joins the others.
  pub front-kept : (front : Option (Ordered V A)) (item : Ordered V A) (others new : List (Ordered V A))
      → is_before (next_address (addresses_of (map addressed (option_to_list front ++ others)))) (address_of item) ≡ true
      → IsInFront front others → IsPermutation (item ∷ others) new → IsInFront front new
  front-kept None item others new ahead first p = tt
  front-kept (Some x) item others new ahead first p =
      first-permutation (address_of x) (item ∷ others) new p
      (All-cons (λ y. is_before y.at (address_of x) ≡ false) (addressed item) (map addressed others) (not_before-back (address_of x) (address_of item) ahead) first)

  pub one-more : (front : Option (Ordered V A)) (item : Ordered V A) (others new : List (Ordered V A)) (room more : ℕ)
      → 0 < room - length (option_to_list front ++ others) → room ≤ more → IsPermutation (item ∷ others) new → length (option_to_list front ++ new) ≤ more
  one-more front item others new room more some le p =
      omega (arith, some, le, length_permutation (item ∷ others) new p, length-append (option_to_list front) others, length-append (option_to_list front) new)
