-- Texts in a colour.
use Rattle.std.specs.Prelude.{ℕ, List, [], ◌∷◌, ◌++◌, codes, Option, Some, None}

-- the byte that a control sequence begins with
abbrev escape : ℕ
escape = 27

-- what begins a text of a colour: ESC [ COLOUR m
abbrev pub start_of : Option (List ℕ) → List ℕ
start_of None = []
start_of (Some color) = escape ∷ codes "[" ++ color ++ codes "m"

-- what ends it: ESC [ 0 m
abbrev pub end_of : Option (List ℕ) → List ℕ
end_of None = []
end_of (Some color) = escape ∷ codes "[0m"

-- a text in its colour, or as it is if it has none
abbrev pub painted : Option (List ℕ) → List ℕ → List ℕ
painted color text = start_of color ++ text ++ end_of color
