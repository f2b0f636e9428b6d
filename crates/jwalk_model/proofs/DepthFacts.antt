-- The depths of a list that is put in order.
use Rattle.std.proofs.Common.{◌≡◌, ℕ, Bool, true, false, List, [], ◌∷◌, Ok, Err, cond}
use Rattle.jwalk_model.specs.Entry.{Item, AtDepth}
use Rattle.jwalk_model.specs.Sorting.{stands_before, put, arranged}

module _ {R E : Type 0} (depth : ℕ) where
  -- an entry is at this depth
  abbrev ItemAt : Item R E → Type 0
  ItemAt (Ok e) = e.depth ≡ depth
  ItemAt (Err f) = Unit {0}

  first_at : (x : Item R E) (xs : List (Item R E)) → AtDepth depth (x ∷ xs) → ItemAt x
  first_at (Ok e) xs h = h.0
  first_at (Err f) xs h = tt

  rest_at : (x : Item R E) (xs : List (Item R E)) → AtDepth depth (x ∷ xs) → AtDepth depth xs
  rest_at (Ok e) xs h = h.1
  rest_at (Err f) xs h = h

  both_at : (x : Item R E) (xs : List (Item R E)) → ItemAt x → AtDepth depth xs → AtDepth depth (x ∷ xs)
  both_at (Ok e) xs h k = (h, k)
  both_at (Err f) xs h k = k

  AtDepth-put : (x : Item R E) (xs : List (Item R E)) → ItemAt x → AtDepth depth xs → AtDepth depth (put x xs)
  AtDepth-put x [] h k = both_at x [] h tt
  AtDepth-put x (y ∷ ys) h k =
      elim (stands_before y x) as (λ b. AtDepth depth (cond b (y ∷ put x ys) (x ∷ y ∷ ys))) [
        | true ↦ both_at y (put x ys) (first_at y ys k) (AtDepth-put x ys h (rest_at y ys k))
        | false ↦ both_at x (y ∷ ys) h k
      ]

  -- putting a list in order keeps its depths
  pub AtDepth-arranged : (xs : List (Item R E)) → AtDepth depth xs → AtDepth depth (arranged xs)
  AtDepth-arranged [] h = tt
  AtDepth-arranged (x ∷ xs) h = AtDepth-put x (arranged xs) (first_at x xs h) (AtDepth-arranged xs (rest_at x xs h))

  pub AtDepth-in_order : (sort : Bool) (xs : List (Item R E)) → AtDepth depth xs → AtDepth depth (cond sort (arranged xs) xs)
  AtDepth-in_order true xs h = AtDepth-arranged xs h
  AtDepth-in_order false xs h = h
