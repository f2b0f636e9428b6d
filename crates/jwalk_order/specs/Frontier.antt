-- The addresses still to be passed, the next one first.
use Rattle.std.specs.Prelude.{ℕ, List, [], ◌∷◌, ◌++◌, map}
use Rattle.std.specs.List.{range_with_len}

-- n children of an address, from an index on
abbrev pub children_from : ℕ → List ℕ → ℕ → List (List ℕ)
children_from first a count = map (λ i. a ++ i ∷ []) (range_with_len first count)

-- a new frontier has the addresses of the roots
abbrev pub roots : ℕ → List (List ℕ)
roots count = children_from 0 [] count

-- The first address is passed: its children take its place.
abbrev pub passed : List (List ℕ) → ℕ → List (List ℕ)
passed [] count = []
passed (a ∷ rest) count = children_from 0 a count ++ rest

-- the address looked for: the empty one if there is none
abbrev pub next_address : List (List ℕ) → List ℕ
next_address [] = []
next_address (a ∷ rest) = a
