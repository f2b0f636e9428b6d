-- What lies at an address and below it, and what is taken away there.
use Rattle.std.proofs.Common.{◌≡◌, ℕ, ◌+◌, ◌<◌, Bool, true, false, cond, not, ◌&&◌, List, [], ◌∷◌, ◌++◌, map, get_or, length, refl, sym, ap, ◌∙◌, arith, subst, Option, Some, None}
use Rattle.std.specs.List.{filter}
use Rattle.std.specs.List.Sorted.{IsPermutation}
use Rattle.std.specs.Option.{IfSome, IfNone}
use Rattle.std.specs.Prelude.{drop}
use Rattle.std.proofs.lemmas.Bool.Decides.{Decides-eqb}
use Rattle.std.proofs.lemmas.List.Elements.{All-nil, All-cons}
use Rattle.std.proofs.lemmas.List.Sorted.{IsPermutation-refl, IsPermutation-trans, IsPermutation-append_right, length_permutation}
use Rattle.std.proofs.lemmas.Slice.Eq.{starts_is}
use Rattle.jwalk_order.specs.Addressed.{Addressed, addressed, addresses_of}
use Rattle.jwalk_order.specs.Addresses.{IsAmong, times}
use Rattle.jwalk_order.specs.Frontier.{next_address}
use Rattle.jwalk_order.specs.IndexPath.{is_within}
use Rattle.jwalk_order.specs.Ordered.{address_of}
use Rattle.jwalk_order.specs.Within.{Leaves}
use Rattle.jwalk_order.specs.declared.ordered.Ordered.{Ordered}
use Rattle.jwalk_order.proofs.Siblings.{swap_fronts}

-- An address that lies at or below another begins with it.
pub within_begins : (a b : List ℕ) → is_within a b ≡ true → b ≡ a ++ drop (length a) b
within_begins a b h = (starts_is Decides-eqb b a (is_within a b) refl).0 h

pub begins_within : (a rest : List ℕ) → is_within a (a ++ rest) ≡ true
begins_within a rest = (starts_is Decides-eqb (a ++ rest) a (is_within a (a ++ rest)) refl).1 rest refl

module _ {V : Type 0} where
  pub none_leave : (a : List ℕ) (xs : List (Addressed V)) → Leaves a xs xs
  none_leave a xs = record { gone = []; leave = IsPermutation-refl xs; within = All-nil (λ x. is_within a x.at ≡ true) }

  one_leaves : (a : List ℕ) (old mid new : List (Addressed V)) (x : Addressed V) → is_within a x.at ≡ true → IsPermutation mid (x ∷ new) → Leaves a old mid → Leaves a old new
  one_leaves a old mid new x within p l = record {
    gone = x ∷ l.gone;
    leave = IsPermutation-trans _ _ _ l.leave (IsPermutation-trans _ _ _ (IsPermutation-append_right l.gone mid (x ∷ new) p) (swap_fronts l.gone (x ∷ []) new));
    within = All-cons (λ y. is_within a y.at ≡ true) x l.gone within l.within;
  }

  -- One that lies there goes, and fewer are left.
  pub record Goes (a : List ℕ) (old mid new : List (Addressed V)) : Type 0 where
    pub leaves : Leaves a old new
    pub shorter : length new < length mid

  goes : (a : List ℕ) (old mid new : List (Addressed V)) (x : Addressed V) → is_within a x.at ≡ true → IsPermutation mid (x ∷ new) → Leaves a old mid → Goes a old mid new
  goes a old mid new x within p l = record { leaves = one_leaves a old mid new x within p l; shorter = omega (arith, length_permutation mid (x ∷ new) p) }

  nothing_there : (a : List ℕ) (xs : List (Addressed V)) → IsAmong a (addresses_of xs) → xs ≡ [] → ⊥
  nothing_there a xs there none = let k : times a (addresses_of xs) ≡ 0 = ap (λ z. times a (addresses_of z)) none in omega (arith, k, there)

  -- The least of a queue goes, if it lies there.
  pub least_goes : (a : List ℕ) (old mid new : List (Addressed V)) (first : List ℕ) (r : Option V) → first ≡ next_address (addresses_of mid) → IsAmong first (addresses_of mid) → is_within a first ≡ true
      → IfSome r (λ value. IsPermutation mid (record { at = next_address (addresses_of mid); value = value; child_count = 0 } ∷ new)) → IfNone r (mid ≡ []) → Leaves a old mid → Goes a old mid new
  least_goes a old mid new first None is there within some none l = absurd (nothing_there first mid there none)
  least_goes a old mid new first (Some v) is there within some none l =
      goes a old mid new (record { at = next_address (addresses_of mid); value = v; child_count = 0 }) (ap (is_within a) (sym is) ∙ within) some l

  same_first : (x y : Addressed V) (xs : List (Addressed V)) → (xs ≡ [] → ⊥) → x ≡ get_or xs 0 x → y ≡ get_or xs 0 y → x ≡ y
  same_first x y [] some x-is y-is = absurd (some refl)
  same_first x y (z ∷ zs) some x-is y-is = x-is ∙ sym y-is

  module _ {A : Type 0} where
    -- The top of a heap goes, if it lies there.
    pub top_goes : (a : List ℕ) (old mid new : List (Addressed V)) (top : Ordered V A) (r : Option (Ordered V A)) → addressed top ≡ get_or mid 0 (addressed top) → IsAmong (address_of top) (addresses_of mid) → is_within a (address_of top) ≡ true
        → IfSome r (λ item. IsPermutation mid (addressed item ∷ new)) → IfSome r (λ item. addressed item ≡ get_or mid 0 (addressed item)) → IfNone r (mid ≡ []) → Leaves a old mid → Goes a old mid new
    top_goes a old mid new top None top-is there within some item-is none l = absurd (nothing_there (address_of top) mid there none)
    top_goes a old mid new top (Some item) top-is there within some item-is none l =
        let same : addressed top ≡ addressed item = same_first (addressed top) (addressed item) mid (nothing_there (address_of top) mid there) top-is item-is in
        goes a old mid new (addressed item) (ap (λ z. is_within a z.at) (sym same) ∙ within) some l

map-filter : {X Y : Type 0} (f : X → Y) (p : Y → Bool) (xs : List X) → map f (filter (λ x. true && p (f x)) xs) ≡ filter p (map f xs)
map-filter f p [] = refl
map-filter f p (x ∷ xs) =
    elim (p (f x)) as (λ b. map f (cond (true && b) (x ∷ filter (λ x. true && p (f x)) xs) (filter (λ x. true && p (f x)) xs)) ≡ cond b (f x ∷ filter p (map f xs)) (filter p (map f xs))) [
      | true ↦ ap (λ l. f x ∷ l) (map-filter f p xs)
      | false ↦ map-filter f p xs
    ]

-- What stays of a set, one of which is kept apart.
pub stay-apart : {X Y : Type 0} (f : X → Y) (p : Y → Bool) (has : Bool) (x : X) (xs : List X)
    → map f (cond (has && p (f x)) (x ∷ []) [] ++ filter (λ x. true && p (f x)) xs) ≡ filter p (map f (cond has (x ∷ []) [] ++ xs))
stay-apart f p false x xs = map-filter f p xs
stay-apart f p true x xs =
    elim (p (f x)) as (λ b. map f (cond (true && b) (x ∷ []) [] ++ filter (λ x. true && p (f x)) xs) ≡ cond b (f x ∷ filter p (map f xs)) (filter p (map f xs))) [
      | true ↦ ap (λ l. f x ∷ l) (map-filter f p xs)
      | false ↦ map-filter f p xs
    ]
