-- The stable order of a list: entries by the bytes of their names, then the errors. What ties keeps its order.
use Rattle.std.specs.Prelude.{◌≡◌, ◌↔◌, Bool, true, false, List, [], ◌∷◌, Ok, Err, if◌then◌else◌, IsPermutation}
use Rattle.std.specs.Ordering.{nat_cmp, is_lt}
use Rattle.std.specs.Cmp.Lexicographic.{slice_cmp}
use Rattle.std.specs.List.Sorted.{IsSortedBy, IsStableBy}
use Rattle.jwalk_model.specs.Entry.{Item}

module _ {R E : Type 0} where
  -- whether x must come before y: an entry before an error, and entries by the bytes of their names
  abbrev pub stands_before : Item R E → Item R E → Bool
  stands_before (Ok x) (Ok y) = is_lt (slice_cmp nat_cmp x.file_name y.file_name)
  stands_before (Ok x) (Err f) = true
  stands_before (Err e) y = false

  -- m is l in that order; what ties keeps its order
  pub record IsSorted (l m : List (Item R E)) : Type 0 where
    pub same_items : IsPermutation l m
    pub in_order : IsSortedBy stands_before m
    pub ties_kept : IsStableBy stands_before l m

  -- x put before the first item that needn't come before it
  abbrev pub put : Item R E → List (Item R E) → List (Item R E)
  put x [] = x ∷ []
  put x (y ∷ ys) = if stands_before y x then y ∷ put x ys else x ∷ y ∷ ys

  -- the one list m with IsSorted l m
  abbrev pub arranged : List (Item R E) → List (Item R E)
  arranged [] = []
  arranged (x ∷ xs) = put x (arranged xs)

-- a list's one stable order is the arranged list
abbrev pub OrdersAreArranged : Type 0 → Type 0 → Type 0
OrdersAreArranged R E = (l m : List (Item R E)) → IsSorted l m ↔ (m ≡ arranged l)
