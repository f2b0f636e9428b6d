-- The stable order of a list: the insertion sort has it, and no other list has.
use Rattle.std.proofs.Common.{◌≡◌, ℕ, zero, suc, ◌<◌, ◌≤◌, Bool, true, false, cond, not, ◌&&◌, List, [], ◌∷◌, map, length, get_or, refl, sym, ap, ◌∙◌, subst, add-one, arith, Ok, Err}
use Rattle.std.specs.List.{filter, AllByRecursion}
use Rattle.std.specs.List.Sorted.{IsPermutation, IsSortedBy, IsStableBy, ties}
use Rattle.std.specs.Cmp.{IsStrictWeakOrder}
use Rattle.std.specs.Cmp.Lexicographic.{slice_cmp}
use Rattle.std.specs.Ordering.{nat_cmp, is_lt}
use Rattle.std.proofs.lemmas.Cmp.{nat_list_cmp_total}
use Rattle.jwalk_model.specs.Entry.{Entry, Item}
use Rattle.jwalk_model.specs.Sorting.{stands_before, IsSorted, arranged, OrdersAreArranged}
use Rattle.std.proofs.lemmas.List.Sorted.{ranks_by, sorted_far, IsPermutation-refl, IsPermutation-cons, IsPermutation-middle, IsPermutation-sym, IsPermutation-trans}

first_false : (a b : Bool) → (not a && not b) ≡ true → a ≡ false
first_false false b h = refl
first_false true b h = cc

second_false : (a b : Bool) → (not a && not b) ≡ true → b ≡ false
second_false false false h = refl
second_false false true h = cc
second_false true b h = cc

-- what an element adds to a filter, once x and y are the other way round
exchanged : {X : Type 0} (x y : X) (us vs : List X) (a b : Bool) → (a ≡ true → b ≡ true → ⊥) → us ≡ cond a (x ∷ vs) vs → cond b (y ∷ us) us ≡ cond a (x ∷ cond b (y ∷ vs) vs) (cond b (y ∷ vs) vs)
exchanged x y us vs true true h e = absurd (h refl refl)
exchanged x y us vs true false h e = e
exchanged x y us vs false true h e = ap (λ l. y ∷ l) e
exchanged x y us vs false false h e = e

module _ {X : Type 0} (lt : X → X → Bool) where
  -- No element must come before an earlier one.
  abbrev Ascends : List X → Type 0
  Ascends [] = Unit {0}
  Ascends (x ∷ xs) = AllByRecursion (λ y. lt y x ≡ false) xs × Ascends xs

  -- x put before the first element that needn't come before it
  abbrev pub inserted : X → List X → List X
  inserted x [] = x ∷ []
  inserted x (y ∷ ys) = cond (lt y x) (y ∷ inserted x ys) (x ∷ y ∷ ys)

  abbrev pub insertion_sorted : List X → List X
  insertion_sorted [] = []
  insertion_sorted (x ∷ xs) = inserted x (insertion_sorted xs)

  -- ---- the sort only moves elements

  moved_by : (x y : X) (ys : List X) (b : Bool) → IsPermutation (x ∷ ys) (inserted x ys) → IsPermutation (x ∷ y ∷ ys) (cond b (y ∷ inserted x ys) (x ∷ y ∷ ys))
  moved_by x y ys true h = IsPermutation-trans _ _ _ (IsPermutation-sym _ _ (IsPermutation-middle (y ∷ []) x ys)) (IsPermutation-cons y _ _ h)
  moved_by x y ys false h = IsPermutation-refl _

  moved : (x : X) (ys : List X) → IsPermutation (x ∷ ys) (inserted x ys)
  moved x [] = IsPermutation-refl _
  moved x (y ∷ ys) = moved_by x y ys (lt y x) (moved x ys)

  pub IsPermutation-insertion_sorted : (xs : List X) → IsPermutation xs (insertion_sorted xs)
  IsPermutation-insertion_sorted [] = IsPermutation-refl _
  IsPermutation-insertion_sorted (x ∷ xs) = IsPermutation-trans _ _ _ (IsPermutation-cons x _ _ (IsPermutation-insertion_sorted xs)) (moved x (insertion_sorted xs))

  -- ---- `Ascends` against `IsSortedBy`

  above : (x : X) (xs : List X) → ((k : ℕ) (d : X) → k < length xs → lt (get_or xs k d) x ≡ false) → AllByRecursion (λ y. lt y x ≡ false) xs
  above x [] h = tt
  above x (y ∷ ys) h = (h 0 y (omega arith), above x ys (λ k d l. h (suc k) d (omega arith)))

  ascends_from_far : (xs : List X) → ((i j : ℕ) (d : X) → i ≤ j → j < length xs → lt (get_or xs j d) (get_or xs i d) ≡ false) → Ascends xs
  ascends_from_far [] h = tt
  ascends_from_far (x ∷ xs) h = (above x xs (λ k d l. h 0 (suc k) d (omega arith) (omega arith)), ascends_from_far xs (λ i j d l m. h (suc i) (suc j) d (omega arith) (omega arith)))

  neighbours : (xs : List X) → Ascends xs → (k : ℕ) (d : X) → suc k < length xs → lt (get_or xs (suc k) d) (get_or xs k d) ≡ false
  neighbours [] h k d l = absurd (omega arith)
  neighbours (x ∷ []) h k d l = absurd (omega arith)
  neighbours (x ∷ y ∷ ys) h zero d l = h.0.0
  neighbours (x ∷ y ∷ ys) h (suc k) d l = neighbours (y ∷ ys) h.1 k d (omega arith)

  IsSortedBy-from_ascends : (xs : List X) → Ascends xs → IsSortedBy lt xs
  IsSortedBy-from_ascends xs h k d low l = rw add-one (neighbours xs h k d (omega arith))

  module _ (o : IsStrictWeakOrder lt) where
    ascends_from_IsSortedBy : (xs : List X) → IsSortedBy lt xs → Ascends xs
    ascends_from_IsSortedBy xs h = ascends_from_far xs (sorted_far lt o xs h)

    -- ---- the sort ascends

    rests : (x y : X) (ys : List X) → lt y x ≡ false → AllByRecursion (λ z. lt z y ≡ false) ys → AllByRecursion (λ z. lt z x ≡ false) ys
    rests x y [] e h = tt
    rests x y (z ∷ zs) e h = (o.chain z y x h.0 e, rests x y zs e h.1)

    still_above_by : (x y z : X) (ys : List X) (b : Bool) → lt x z ≡ false → lt y z ≡ false → AllByRecursion (λ w. lt w z ≡ false) ys → AllByRecursion (λ w. lt w z ≡ false) (inserted x ys) → AllByRecursion (λ w. lt w z ≡ false) (cond b (y ∷ inserted x ys) (x ∷ y ∷ ys))
    still_above_by x y z ys true e f h k = (f, k)
    still_above_by x y z ys false e f h k = (e, (f, h))

    still_above : (x z : X) (ys : List X) → lt x z ≡ false → AllByRecursion (λ w. lt w z ≡ false) ys → AllByRecursion (λ w. lt w z ≡ false) (inserted x ys)
    still_above x z [] e h = (e, tt)
    still_above x z (y ∷ ys) e h = still_above_by x y z ys (lt y x) e h.0 h.1 (still_above x z ys e h.1)

    still_ascends_by : (x y : X) (ys : List X) (b : Bool) → lt y x ≡ b → Ascends (y ∷ ys) → Ascends (inserted x ys) → Ascends (cond b (y ∷ inserted x ys) (x ∷ y ∷ ys))
    still_ascends_by x y ys true e h k = (still_above x y ys (o.one_way y x e) h.0, k)
    still_ascends_by x y ys false e h k = ((e, rests x y ys e h.0), h)

    still_ascends : (x : X) (ys : List X) → Ascends ys → Ascends (inserted x ys)
    still_ascends x [] h = (tt, tt)
    still_ascends x (y ∷ ys) h = still_ascends_by x y ys (lt y x) refl h (still_ascends x ys h.1)

    ascends_sorted : (xs : List X) → Ascends (insertion_sorted xs)
    ascends_sorted [] = tt
    ascends_sorted (x ∷ xs) = still_ascends x (insertion_sorted xs) (ascends_sorted xs)

    pub IsSortedBy-insertion_sorted : (xs : List X) → IsSortedBy lt (insertion_sorted xs)
    IsSortedBy-insertion_sorted xs = IsSortedBy-from_ascends (insertion_sorted xs) (ascends_sorted xs)

    -- ---- the sort is stable

    apart : (x y z : X) → lt y x ≡ true → ties lt z x ≡ true → ties lt z y ≡ true → ⊥
    apart x y z e p q =
        let f = o.chain y z x (second_false (lt z y) (lt y z) q) (first_false (lt z x) (lt x z) p) in
        cc

    kept_by : (x y z : X) (ys : List X) (b : Bool) → lt y x ≡ b → filter (ties lt z) (inserted x ys) ≡ filter (ties lt z) (x ∷ ys) → filter (ties lt z) (cond b (y ∷ inserted x ys) (x ∷ y ∷ ys)) ≡ filter (ties lt z) (x ∷ y ∷ ys)
    kept_by x y z ys true e h = exchanged x y (filter (ties lt z) (inserted x ys)) (filter (ties lt z) ys) (ties lt z x) (ties lt z y) (apart x y z e) h
    kept_by x y z ys false e h = refl

    kept : (x z : X) (ys : List X) → filter (ties lt z) (inserted x ys) ≡ filter (ties lt z) (x ∷ ys)
    kept x z [] = refl
    kept x z (y ∷ ys) = kept_by x y z ys (lt y x) refl (kept x z ys)

    pub IsStableBy-insertion_sorted : (xs : List X) → IsStableBy lt xs (insertion_sorted xs)
    IsStableBy-insertion_sorted [] z = refl
    IsStableBy-insertion_sorted (x ∷ xs) z = kept x z (insertion_sorted xs) ∙ ap (λ l. cond (ties lt z x) (x ∷ l) l) (IsStableBy-insertion_sorted xs z)

    -- ---- two such lists are one

    itself : (x : X) (b : Bool) → lt x x ≡ b → lt x x ≡ false
    itself x true e = o.one_way x x e
    itself x false e = e

    ties_itself : (x : X) → ties lt x x ≡ true
    ties_itself x = rw (itself x (lt x x) refl) refl

    not_tied_by : (x y z : X) (b : Bool) → ties lt x z ≡ b → lt x y ≡ true → lt z y ≡ false → b ≡ false
    not_tied_by x y z true p e f = let g = o.chain x z y (first_false (lt x z) (lt z x) p) f in cc
    not_tied_by x y z false p e f = refl

    -- x must come before y, and none of zs before y: so none of zs ties with x
    none_ties : (x y : X) (zs : List X) → lt x y ≡ true → AllByRecursion (λ z. lt z y ≡ false) zs → filter (ties lt x) zs ≡ []
    none_ties x y [] e h = refl
    none_ties x y (z ∷ zs) e h = rw (not_tied_by x y z (ties lt x z) refl e h.0) (none_ties x y zs e h.1)

    own_class : (x : X) (xs : List X) → filter (ties lt x) (x ∷ xs) ≡ x ∷ filter (ties lt x) xs
    own_class x xs = rw (ties_itself x) refl

    not_before : (x y : X) (xs ys : List X) → Ascends (y ∷ ys) → filter (ties lt x) (x ∷ xs) ≡ filter (ties lt x) (y ∷ ys) → (b : Bool) → lt x y ≡ b → lt x y ≡ false
    not_before x y xs ys k e true p =
        let f = none_ties x y (y ∷ ys) p (itself y (lt y y) refl, k.0) in
        let g = own_class x xs in
        cc
    not_before x y xs ys k e false p = p

    same_head : (x y : X) (xs ys : List X) → Ascends (x ∷ xs) → Ascends (y ∷ ys) → ((z : X) → filter (ties lt z) (x ∷ xs) ≡ filter (ties lt z) (y ∷ ys)) → x ≡ y
    same_head x y xs ys h k e =
        let p = not_before x y xs ys k (e x) (lt x y) refl in
        let q = not_before y x ys xs h (sym (e y)) (lt y x) refl in
        let f = rw (p, q, ties_itself x) at (e x) in
        cc

    same_rests : (x : X) (us vs : List X) (b : Bool) → cond b (x ∷ us) us ≡ cond b (x ∷ vs) vs → us ≡ vs
    same_rests x us vs true e = cc
    same_rests x us vs false e = e

    one_list : (xs ys : List X) → Ascends xs → Ascends ys → ((z : X) → filter (ties lt z) xs ≡ filter (ties lt z) ys) → xs ≡ ys
    one_list [] [] h k e = refl
    one_list [] (y ∷ ys) h k e = let f = e y ∙ own_class y ys in cc
    one_list (x ∷ xs) [] h k e = let f = sym (e x) ∙ own_class x xs in cc
    one_list (x ∷ xs) (y ∷ ys) h k e =
        let p = same_head x y xs ys h k e in
        let q = one_list xs ys h.1 k.1 (λ z. same_rests x (filter (ties lt z) xs) (filter (ties lt z) ys) (ties lt z x) (rw (← p) at (e z))) in
        cc

    -- a list that is sorted, and stable against xs, is what the sort makes of xs
    pub insertion_sorted-unique : (xs ys : List X) → IsSortedBy lt ys → IsStableBy lt xs ys → ys ≡ insertion_sorted xs
    insertion_sorted-unique xs ys h k =
        one_list ys (insertion_sorted xs) (ascends_from_IsSortedBy ys h) (ascends_sorted xs) (λ z. k z ∙ sym (IsStableBy-insertion_sorted xs z))

-- the sort by an order of what f gives
map_inserted_by : {X Y : Type 0} (f : Y → X) (y z : Y) (us zs : List Y) (vs : List X) (b : Bool) → map f us ≡ vs → map f (cond b (z ∷ us) (y ∷ z ∷ zs)) ≡ cond b (f z ∷ vs) (f y ∷ f z ∷ map f zs)
map_inserted_by f y z us zs vs true e = ap (λ l. f z ∷ l) e
map_inserted_by f y z us zs vs false e = refl

map_inserted : {X Y : Type 0} (lt : X → X → Bool) (f : Y → X) (y : Y) (ys : List Y) → map f (inserted (λ a b. lt (f a) (f b)) y ys) ≡ inserted lt (f y) (map f ys)
map_inserted lt f y [] = refl
map_inserted lt f y (z ∷ zs) = map_inserted_by f y z _ zs _ (lt (f z) (f y)) (map_inserted lt f y zs)

pub map-insertion_sorted : {X Y : Type 0} (lt : X → X → Bool) (f : Y → X) (ys : List Y) → map f (insertion_sorted (λ a b. lt (f a) (f b)) ys) ≡ insertion_sorted lt (map f ys)
map-insertion_sorted lt f [] = refl
map-insertion_sorted lt f (y ∷ ys) = map_inserted lt f y (insertion_sorted (λ a b. lt (f a) (f b)) ys) ∙ ap (inserted lt (f y)) (map-insertion_sorted lt f ys)

IsStrictWeakOrder-through : {X Y : Type 0} (lt : X → X → Bool) → IsStrictWeakOrder lt → (f : Y → X) → IsStrictWeakOrder (λ a b. lt (f a) (f b))
IsStrictWeakOrder-through lt o f = record { one_way = λ x y. o.one_way (f x) (f y); chain = λ x y z. o.chain (f x) (f y) (f z) }

-- ---- the order of items

module _ {R E : Type 0} where
  names : IsStrictWeakOrder (λ (x y : Entry R E). is_lt (slice_cmp nat_cmp x.file_name y.file_name))
  names = ranks_by nat_list_cmp_total (λ (x : Entry R E). x.file_name)

  one_way : (x y : Item R E) → stands_before x y ≡ true → stands_before y x ≡ false
  one_way (Ok x) (Ok y) e = names.one_way x y e
  one_way (Ok x) (Err g) e = refl
  one_way (Err f) y e = cc

  chain : (x y z : Item R E) → stands_before x y ≡ false → stands_before y z ≡ false → stands_before x z ≡ false
  chain (Ok x) (Ok y) (Ok z) e f = names.chain x y z e f
  chain (Ok x) (Ok y) (Err g) e f = f
  chain (Ok x) (Err g) z e f = cc
  chain (Err g) y z e f = refl

  pub stands_before-order : IsStrictWeakOrder (stands_before {R = R} {E = E})
  stands_before-order = record { one_way = one_way; chain = chain }

  -- the order of values that can be seen as items
  pub stands_before-through : {T : Type 0} (item : T → Item R E) → IsStrictWeakOrder (λ a b. stands_before (item a) (item b))
  stands_before-through item = IsStrictWeakOrder-through stands_before stands_before-order item

  pub IsSorted-arranged : (l : List (Item R E)) → IsSorted l (arranged l)
  IsSorted-arranged l = record {
    same_items = IsPermutation-insertion_sorted stands_before l;
    in_order = IsSortedBy-insertion_sorted stands_before stands_before-order l;
    ties_kept = IsStableBy-insertion_sorted stands_before stands_before-order l;
  }

  pub arranged-unique : (l m : List (Item R E)) → IsSorted l m → m ≡ arranged l
  arranged-unique l m s = insertion_sorted-unique stands_before stands_before-order l m s.in_order s.ties_kept

  pub orders_are_arranged : OrdersAreArranged R E
  orders_are_arranged l m = (arranged-unique l m, λ e. subst (IsSorted l) (sym e) (IsSorted-arranged l))

  -- for a stable sort of a list of values that can be seen as items
  pub arranged-map : {T : Type 0} (item : T → Item R E) (l m : List T) → IsSortedBy (λ a b. stands_before (item a) (item b)) m → IsStableBy (λ a b. stands_before (item a) (item b)) l m → map item m ≡ arranged (map item l)
  arranged-map item l m h k =
      ap (map item) (insertion_sorted-unique (λ a b. stands_before (item a) (item b)) (stands_before-through item) l m h k)
      ∙ map-insertion_sorted stands_before item l
