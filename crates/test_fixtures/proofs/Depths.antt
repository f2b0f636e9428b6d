-- Lists whose entries are at one depth.
use Rattle.std.proofs.Common.{ℕ, List, [], ◌∷◌, map, Ok, Err}
use Rattle.std.specs.List.{All, AllByRecursion}
use Rattle.std.proofs.lemmas.List.Elements.{recursion_from_All}
use Rattle.jwalk.specs.jwalk_model.Entry.{Item, AtDepth}

module _ {R E X : Type 0} (view : X → Item R E) (depth : ℕ) where
  abbrev pub IsAt : X → Type 0
  IsAt x = AtDepth depth (view x ∷ [])

  with_one : (i : Item R E) (rest : List (Item R E)) → AtDepth depth (i ∷ []) → AtDepth depth rest → AtDepth depth (i ∷ rest)
  with_one (Ok e) rest here h = (here.0, h)
  with_one (Err f) rest here h = h

  each_at : (xs : List X) → AllByRecursion IsAt xs → AtDepth depth (map view xs)
  each_at [] h = tt
  each_at (x ∷ xs) h = with_one (view x) (map view xs) h.0 (each_at xs h.1)

  -- a list is at a depth if each item by itself is
  pub all_at : (xs : List X) → All IsAt xs → AtDepth depth (map view xs)
  all_at xs h = each_at xs (recursion_from_All IsAt xs h)
