-- Lists of addresses as sets.
use Rattle.std.specs.Prelude.{ℕ, ◌+◌, ◌<◌, Bool, cond, List, [], ◌∷◌}
use Rattle.std.specs.Cmp.Lexicographic.{slice_cmp}
use Rattle.std.specs.Ordering.{nat_cmp, is_eq}

-- whether two addresses are the same
abbrev pub is_same : List ℕ → List ℕ → Bool
is_same a b = is_eq (slice_cmp nat_cmp b a)

-- how often an address is in a list
abbrev pub times : List ℕ → List (List ℕ) → ℕ
times a [] = 0
times a (x ∷ xs) = cond (is_same a x) 1 0 + times a xs

-- It is there.
abbrev pub IsAmong : List ℕ → List (List ℕ) → Type 0
IsAmong a xs = 0 < times a xs
