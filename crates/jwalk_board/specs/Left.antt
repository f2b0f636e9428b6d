-- Addresses that lie beside one another, none below the other.
use Rattle.std.specs.Prelude.{◌≡◌, ℕ, Bool, true, false, cond, ◌==◌, nat_lt, List, [], ◌∷◌}

-- Where the two part, the first has the smaller index.
abbrev pub is_left : List ℕ → List ℕ → Bool
is_left [] b = false
is_left (x ∷ a) [] = false
is_left (x ∷ a) (y ∷ b) = cond (x == y) (is_left a b) (nat_lt x y)

-- An address is left of each of a list.
abbrev pub IsLeftOf : List ℕ → List (List ℕ) → Type 0
IsLeftOf a [] = Unit {0}
IsLeftOf a (x ∷ xs) = (is_left a x ≡ true) × IsLeftOf a xs

-- Each address is left of all that come after it.
abbrev pub IsApart : List (List ℕ) → Type 0
IsApart [] = Unit {0}
IsApart (x ∷ xs) = IsLeftOf x xs × IsApart xs
