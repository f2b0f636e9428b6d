-- Entries in an order of one's own, with the errors behind them.
use Rattle.std.specs.Prelude.{◌≡◌, ◌↔◌, ℕ, Bool, true, false, List, [], ◌∷◌, Option, Some, None, Result, Ok, Err, if◌then◌else◌, IsPermutation}
use Rattle.std.specs.Cmp.{IsStrictWeakOrder}
use Rattle.std.specs.Ordering.{is_lt}
use Rattle.std.specs.List.Sorted.{IsSortedBy, IsStableBy}
use Rattle.std.specs.declared.cmp.Ordering.{Ordering}
use Rattle.std.specs.declared.cmp.Ordering.TheVariants.{Less, Equal, Greater}
use Rattle.jwalk_model.specs.Entry.{Entry, Item, AtDepth}
use Rattle.jwalk_model.specs.ReadDir.{list_depth}
use Rattle.jwalk_model.specs.Counted.{Worth, blank}
use Rattle.jwalk_model.specs.Job.{Processing, KeepsDepthsOf}
use Rattle.jwalk_job.specs.Entry.{entry}
use Rattle.jwalk_job.specs.Given.{Given, counted_entry}
use Rattle.jwalk_job.specs.declared.dir_entry.DirEntry.{DirEntry}
use Rattle.jwalk_sort_by.specs.declared.compares.ByKey.{ByKey}
use Rattle.jwalk_sort_by.specs.declared.compares.ByOrder.{ByOrder}
use Rattle.jwalk_sort_by.specs.declared.sort_by.SortBy.{SortBy}

-- what a callback of this kind compares by
abbrev pub order_of : {O : Type 0} → SortBy O → O
order_of it = it.order

-- the closure that compares, of one that sorts by such a closure
abbrev pub comparison_of : {F : Type 0} → SortBy (ByOrder F) → F
comparison_of it = it.order.compare

-- the closure that returns a key, of one that sorts by such a closure
abbrev pub key_of : {F : Type 0} → SortBy (ByKey F) → F
key_of it = it.order.key

module _ {X F : Type 0} (less : X → X → Bool) where
  -- whether an item must come before another: an entry before an error, and entries as is said
  abbrev pub goes_before : Result X F → Result X F → Bool
  goes_before (Ok x) (Ok y) = less x y
  goes_before (Ok x) (Err f) = true
  goes_before (Err e) y = false

  -- x put before the first item that needn't come before it
  abbrev pub put : Result X F → List (Result X F) → List (Result X F)
  put x [] = x ∷ []
  put x (y ∷ ys) = if goes_before y x then y ∷ put x ys else x ∷ y ∷ ys

  -- the items in order, of which those that tie keep the order in which they were listed
  abbrev pub ordered : List (Result X F) → List (Result X F)
  ordered [] = []
  ordered (x ∷ xs) = put x (ordered xs)

  -- the list of a directory in order, and the one that a walk begins with as it is
  abbrev pub ordered_at : Option ℕ → List (Result X F) → List (Result X F)
  ordered_at None l = l
  ordered_at (Some depth) l = ordered l

  -- The second list has the items of the first, ascending, where those that tie keep their order.
  pub record IsOrdered (l m : List (Result X F)) : Type 0 where
    pub same_items : IsPermutation l m
    pub ascends : IsSortedBy goes_before m
    pub ties_kept : IsStableBy goes_before l m

-- By an order, the list in order is the one that has the same items, ascends and keeps the order of what ties.
abbrev pub OrderedIsTheOne : Type 0 → Type 0 → Type 0
OrderedIsTheOne X F = (less : X → X → Bool) → IsStrictWeakOrder less → (l m : List (Result X F)) → IsOrdered less l m ↔ (m ≡ ordered less l)

-- what a comparison of two items may return, where this is what one of two entries may: an entry is less than an error, and errors tie
abbrev pub gives_of : {X F : Type 0} → (X → X → Ordering → Type 0) → Result X F → Result X F → Ordering → Type 0
gives_of gives (Ok x) (Ok y) order = gives x y order
gives_of gives (Ok x) (Err f) order = order ≡ Less
gives_of gives (Err e) (Ok y) order = order ≡ Greater
gives_of gives (Err e) (Err f) order = order ≡ Equal

-- Comparisons say which of two values is less.
abbrev pub IsBy : {X : Type 0} → (X → X → Ordering → Type 0) → (X → X → Bool) → Type 0
IsBy {X} gives less = (x y : X) (order : Ordering) → gives x y order → is_lt order ≡ less x y

module _ {R E : Type 0} (less : Entry R E → Entry R E → Bool) where
  -- what the callback makes of a list
  abbrev pub sorts : Processing R E
  sorts depth path state list = record { state = state; list = ordered_at less depth list }

  put_at : (depth : ℕ) (x : Item R E) (ys : List (Item R E)) → AtDepth depth (x ∷ []) → AtDepth depth ys → AtDepth depth (put less x ys)
  put_at depth x [] h k = h
  put_at depth (Ok e) (Ok d ∷ ys) h k = elim (less d e) as (λ b. AtDepth depth (if b then Ok d ∷ put less (Ok e) ys else Ok e ∷ Ok d ∷ ys)) [
    | true ↦ (k.0, put_at depth (Ok e) ys h k.1)
    | false ↦ (h.0, k)
  ]
  put_at depth (Ok e) (Err f ∷ ys) h k = (h.0, k)
  put_at depth (Err g) (Ok d ∷ ys) h k = (k.0, put_at depth (Err g) ys h k.1)
  put_at depth (Err g) (Err f ∷ ys) h k = k

  all_at : (depth : ℕ) (l : List (Item R E)) → AtDepth depth l → AtDepth depth (ordered less l)
  all_at depth [] h = tt
  all_at depth (Ok e ∷ l) h = put_at depth (Ok e) (ordered less l) (h.0, tt) (all_at depth l h.1)
  all_at depth (Err f ∷ l) h = put_at depth (Err f) (ordered less l) tt (all_at depth l h)

  -- An entry keeps its depth.
  pub sorts-KeepsDepthsOf : KeepsDepthsOf sorts
  sorts-KeepsDepthsOf None path state list h = h
  sorts-KeepsDepthsOf (Some depth) path state list h = all_at (list_depth (Some depth)) list h

-- What is given if entries are sorted, and states count as nothing.
abbrev pub sorting : {R E : Type 0} → (Entry Worth Worth → Entry Worth Worth → Bool) → Given R E
sorting less = record {
  read_dir_state = λ _. blank;
  dir_entry_state = λ _. blank;
  processed = sorts less;
  keeps_depths = sorts-KeepsDepthsOf less;
  new_entry = blank;
}

-- The callback makes of lists what is given: entries are compared by an order of what they count as, and what is given sorts by it.
abbrev pub SortsAs : {C A R E : Type 0} → (DirEntry C A R E → DirEntry C A R E → Ordering → Type 0) → Given R E → Type 0
SortsAs gives given = (less : Entry Worth Worth → Entry Worth Worth → Bool) × IsStrictWeakOrder less
    × IsBy gives (λ x y. less (counted_entry given (entry x)) (counted_entry given (entry y)))
    × ((depth : Option ℕ) (path : List ℕ) (state : _) (list : _) → given.processed depth path state list ≡ sorts less depth path state list)
