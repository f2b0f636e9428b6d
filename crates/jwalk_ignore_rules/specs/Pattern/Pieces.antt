-- A text taken apart at a byte.
use Rattle.std.specs.Prelude.{ℕ, Bool, List, [], ◌∷◌, ◌==◌, if◌then◌else◌}

-- whether a byte is this one
abbrev pub is_byte : ℕ → ℕ → Bool
is_byte own byte = byte == own

-- an item in front of the first of lists
abbrev pub onto_first : {X : Type 0} → X → List (List X) → List (List X)
onto_first x [] = (x ∷ []) ∷ []
onto_first x (first ∷ others) = (x ∷ first) ∷ others

-- what is between the bytes of this value in a text
abbrev pub pieces : ℕ → List ℕ → List (List ℕ)
pieces own [] = [] ∷ []
pieces own (c ∷ cs) = if is_byte own c then [] ∷ pieces own cs else onto_first c (pieces own cs)
