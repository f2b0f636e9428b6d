-- Addresses. An address is the list of the indices that lead to it from the roots.
use Rattle.std.specs.Prelude.{◌≡◌, ◌≢◌, ℕ, Bool, nat_eq, List, [], ◌++◌}
use Rattle.std.specs.Cmp.Lexicographic.{slice_cmp}
use Rattle.std.specs.List.{starts_with}
use Rattle.std.specs.Ordering.{nat_cmp, is_lt, on, flip_args}
use Rattle.std.specs.declared.cmp.Ordering.{Ordering}
use Rattle.jwalk_order.specs.declared.index_path.IndexPath.{IndexPath}

module _ {A : Type 0} where
  -- the list of its indices
  abbrev pub address : IndexPath A → List ℕ
  address path = path.indices.items

  -- The order of `IndexPath`: the lexicographic one, reversed.
  abbrev pub reversed_cmp : IndexPath A → IndexPath A → Ordering
  reversed_cmp = flip_args (on address (slice_cmp nat_cmp))

-- One or more indices behind the first address lead to the second.
abbrev pub IsAbove : List ℕ → List ℕ → Type 0
IsAbove a b = (rest : List ℕ) × (rest ≢ []) × (b ≡ a ++ rest)

-- whether an address comes before another in lexicographic order
abbrev pub is_before : List ℕ → List ℕ → Bool
is_before a b = is_lt (slice_cmp nat_cmp a b)

-- whether the second address is the first one, or lies below it
abbrev pub is_within : List ℕ → List ℕ → Bool
is_within a b = starts_with nat_eq b a
