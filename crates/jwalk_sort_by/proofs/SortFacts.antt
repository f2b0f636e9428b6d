-- Lists in an order of one's own.
use Rattle.std.proofs.Common.{◌≡◌, ℕ, Bool, true, false, cond, List, [], ◌∷◌, map, Option, Some, None, Result, Ok, Err, refl, sym, ap, ◌∙◌, subst}
use Rattle.std.specs.Prelude.{IsPermutation, OnOk}
use Rattle.std.specs.Cmp.{IsStrictWeakOrder}
use Rattle.std.specs.Ordering.{is_lt}
use Rattle.std.specs.List.{AllByRecursion}
use Rattle.std.specs.List.Sorted.{IsSortedBy, IsStableBy}
use Rattle.std.specs.declared.cmp.Ordering.{Ordering}
use Rattle.std.proofs.lemmas.List.Elements.{All-from_recursion, recursion_from_All}
use Rattle.std.proofs.lemmas.List.Sorted.{All-permutation}
use Rattle.jwalk_model.specs.Entry.{Entry, Item, AtDepth}
use Rattle.jwalk_model.specs.ReadDir.{Reading}
use Rattle.jwalk_model.specs.Counted.{Worth}
use Rattle.jwalk_model.proofs.SortingFacts.{inserted, insertion_sorted, IsPermutation-insertion_sorted, IsSortedBy-insertion_sorted, IsStableBy-insertion_sorted, insertion_sorted-unique}
use Rattle.jwalk_job.specs.Entry.{entry, item}
use Rattle.jwalk_job.specs.Given.{Given, counted_entry, counted_item}
use Rattle.jwalk_job.specs.declared.dir_entry.DirEntry.{DirEntry}
use Rattle.jwalk_job.specs.declared.error.Error.{Error}
use Rattle.jwalk_sort_by.specs.SortBy.{goes_before, put, ordered, ordered_at, IsOrdered, OrderedIsTheOne, IsBy, gives_of}

-- what holds of every result holds of an `Ok`
pub on_ok : {T F : Type 0} {P : Type 0} (r : Result T F) → P → OnOk r P
on_ok (Ok x) p = p
on_ok (Err e) p = tt

-- what a comparison of two items returns, by what says of the entries which is less
pub gives_before : {X F : Type 0} (gives : X → X → Ordering → Type 0) (less : X → X → Bool) → IsBy gives less → (x y : Result X F) (order : Ordering) → gives_of gives x y order → is_lt order ≡ goes_before less x y
gives_before gives less by (Ok x) (Ok y) order h = by x y order h
gives_before gives less by (Ok x) (Err f) order h = ap is_lt h
gives_before gives less by (Err e) (Ok y) order h = ap is_lt h
gives_before gives less by (Err e) (Err f) order h = ap is_lt h

module _ {X F : Type 0} (less : X → X → Bool) where
  same_put : (x : Result X F) (ys : List (Result X F)) → put less x ys ≡ inserted (goes_before less) x ys
  same_put x [] = refl
  same_put x (y ∷ ys) = ap (λ m. cond (goes_before less y x) (y ∷ m) (x ∷ y ∷ ys)) (same_put x ys)

  same_order : (l : List (Result X F)) → ordered less l ≡ insertion_sorted (goes_before less) l
  same_order [] = refl
  same_order (x ∷ xs) = same_put x (ordered less xs) ∙ ap (inserted (goes_before less) x) (same_order xs)

  module _ (o : IsStrictWeakOrder less) where
    one_way : (x y : Result X F) → goes_before less x y ≡ true → goes_before less y x ≡ false
    one_way (Ok x) (Ok y) e = o.one_way x y e
    one_way (Ok x) (Err g) e = refl
    one_way (Err f) y e = absurd (cc e)

    chain : (x y z : Result X F) → goes_before less x y ≡ false → goes_before less y z ≡ false → goes_before less x z ≡ false
    chain (Ok x) (Ok y) (Ok z) e f = o.chain x y z e f
    chain (Ok x) (Ok y) (Err g) e f = f
    chain (Ok x) (Err g) z e f = absurd (cc e)
    chain (Err g) y z e f = refl

    pub goes_before-order : IsStrictWeakOrder (goes_before {X = X} {F = F} less)
    goes_before-order = record { one_way = one_way; chain = chain }

    pub ordered_unique : (l m : List (Result X F)) → IsSortedBy (goes_before less) m → IsStableBy (goes_before less) l m → m ≡ ordered less l
    ordered_unique l m up ties = insertion_sorted-unique (goes_before less) goes_before-order l m up ties ∙ sym (same_order l)

    IsOrdered-ordered : (l : List (Result X F)) → IsOrdered less l (ordered less l)
    IsOrdered-ordered l = subst (IsOrdered less l) (sym (same_order l)) (record {
      same_items = IsPermutation-insertion_sorted (goes_before less) l;
      ascends = IsSortedBy-insertion_sorted (goes_before less) goes_before-order l;
      ties_kept = IsStableBy-insertion_sorted (goes_before less) goes_before-order l;
    })

pub ordered_is_the_one : {X F : Type 0} → OrderedIsTheOne X F
ordered_is_the_one less o l m = (λ s. ordered_unique less o l m s.ascends s.ties_kept, λ e. subst (IsOrdered less l) (sym e) (IsOrdered-ordered less o l))

-- the order of what a view shows
module _ {X F Y G : Type 0} (view : Result X F → Result Y G) (lx : X → X → Bool) (ly : Y → Y → Bool) (same : (x y : Result X F) → goes_before lx x y ≡ goes_before ly (view x) (view y)) where
  put_by : (x y : Result X F) (ys : List (Result X F)) (b : Bool) → map view (put lx x ys) ≡ put ly (view x) (map view ys)
      → map view (cond b (y ∷ put lx x ys) (x ∷ y ∷ ys)) ≡ cond b (view y ∷ put ly (view x) (map view ys)) (view x ∷ view y ∷ map view ys)
  put_by x y ys true is = ap (λ m. view y ∷ m) is
  put_by x y ys false is = refl

  put-map : (x : Result X F) (ys : List (Result X F)) → map view (put lx x ys) ≡ put ly (view x) (map view ys)
  put-map x [] = refl
  put-map x (y ∷ ys) =
      put_by x y ys (goes_before lx y x) (put-map x ys)
      ∙ ap (λ b. cond b (view y ∷ put ly (view x) (map view ys)) (view x ∷ view y ∷ map view ys)) (same y x)

  ordered-map : (l : List (Result X F)) → map view (ordered lx l) ≡ ordered ly (map view l)
  ordered-map [] = refl
  ordered-map (x ∷ xs) = put-map x (ordered lx xs) ∙ ap (put ly (view x)) (ordered-map xs)

-- which of two entries is less, by what they count as
abbrev pub less_counted : {R E : Type 0} → Given R E → (Entry Worth Worth → Entry Worth Worth → Bool) → Entry R E → Entry R E → Bool
less_counted given less x y = less (counted_entry given x) (counted_entry given y)

module _ {R E : Type 0} (given : Given R E) (less : Entry Worth Worth → Entry Worth Worth → Bool) where
  same_counted : (x y : Item R E) → goes_before (less_counted given less) x y ≡ goes_before less (counted_item given x) (counted_item given y)
  same_counted (Ok x) (Ok y) = refl
  same_counted (Ok x) (Err f) = refl
  same_counted (Err e) y = refl

  pub map-counted : (l : List (Item R E)) → map (counted_item given) (ordered (less_counted given less) l) ≡ ordered less (map (counted_item given) l)
  map-counted l = ordered-map (counted_item given) (less_counted given less) less same_counted l

module _ {C A R E : Type 0} (given : Given R E) (less : Entry Worth Worth → Entry Worth Worth → Bool) where
  abbrev pub less_of : DirEntry C A R E → DirEntry C A R E → Bool
  less_of x y = less_counted given less (entry x) (entry y)

  pub less_of-order : IsStrictWeakOrder less → IsStrictWeakOrder (less_of)
  less_of-order o = record {
    one_way = λ x y. o.one_way (counted_entry given (entry x)) (counted_entry given (entry y));
    chain = λ x y z. o.chain (counted_entry given (entry x)) (counted_entry given (entry y)) (counted_entry given (entry z));
  }

  same_items : (x y : Result (DirEntry C A R E) (Error A)) → goes_before less_of x y ≡ goes_before (less_counted given less) (item x) (item y)
  same_items (Ok x) (Ok y) = refl
  same_items (Ok x) (Err f) = refl
  same_items (Err e) y = refl

  -- items in order are in order as they count
  counted-ordered : (l m : List (Result (DirEntry C A R E) (Error A))) → m ≡ ordered less_of l → ordered less (map (counted_item given) (map item l)) ≡ map (counted_item given) (map item m)
  counted-ordered l m is =
      sym (map-counted given less (map item l))
      ∙ ap (map (counted_item given)) (sym (ordered-map item less_of (less_counted given less) same_items l) ∙ ap (map item) (sym is))

  -- the same where the list that a walk begins with stays as it is
  pub counted-ordered_at : (depth : Option ℕ) (l m : List (Result (DirEntry C A R E) (Error A))) → m ≡ ordered_at less_of depth l → ordered_at less depth (map (counted_item given) (map item l)) ≡ map (counted_item given) (map item m)
  counted-ordered_at None l m is = ap (λ k. map (counted_item given) (map item k)) (sym is)
  counted-ordered_at (Some depth) l m is = counted-ordered l m is

-- the same reading
pub reading_as : {R E : Type 0} (a b : R) (l m : List (Item R E)) → a ≡ b → l ≡ m → ◌≡◌ {A = Reading R E} (record { state = a; list = l }) (record { state = b; list = m })
reading_as a b l m p q = cc

-- what is moved in a list is still at its depth
module _ {R E : Type 0} (depth : ℕ) where
  abbrev is_at_depth : Item R E → Type 0
  is_at_depth x = AtDepth depth (x ∷ [])

  each_at : (l : List (Item R E)) → AtDepth depth l → AllByRecursion is_at_depth l
  each_at [] h = tt
  each_at (Ok e ∷ l) h = ((h.0, tt), each_at l h.1)
  each_at (Err f ∷ l) h = (tt, each_at l h)

  all_at : (l : List (Item R E)) → AllByRecursion is_at_depth l → AtDepth depth l
  all_at [] h = tt
  all_at (Ok e ∷ l) h = (h.0.0, all_at l h.1)
  all_at (Err f ∷ l) h = all_at l h.1

  pub moved-AtDepth : (l m : List (Item R E)) → IsPermutation l m → AtDepth depth l → AtDepth depth m
  moved-AtDepth l m moves h = all_at m (recursion_from_All is_at_depth m (All-permutation is_at_depth l m moves (All-from_recursion is_at_depth l (each_at l h))))
