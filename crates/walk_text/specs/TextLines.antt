-- The lines of a text of bytes.
use Rattle.std.specs.Prelude.{ℕ, Bool, List, [], ◌∷◌, ◌==◌, if◌then◌else◌}
use Rattle.std.specs.List.{enumerate_from}

-- whether a byte ends a line
abbrev pub is_line_feed : ℕ → Bool
is_line_feed b = b == 10

-- a byte in front of the first line
abbrev pub onto_first : ℕ → List (List ℕ) → List (List ℕ)
onto_first c [] = (c ∷ []) ∷ []
onto_first c (line ∷ others) = (c ∷ line) ∷ others

-- the lines: each ends at a line feed, but the last may have none
abbrev pub text_lines : List ℕ → List (List ℕ)
text_lines [] = []
text_lines (c ∷ cs) = if is_line_feed c then [] ∷ text_lines cs else onto_first c (text_lines cs)

-- the lines with their numbers, of which this is the first
abbrev pub numbered_from : ℕ → List ℕ → List (ℕ × List ℕ)
numbered_from number text = enumerate_from number (text_lines text)
