-- The names of a path.
use Rattle.std.specs.Prelude.{ℕ, Bool, true, false, List, [], ◌∷◌, ◌==◌}
use Rattle.std.specs.List.{filter}
use Rattle.jwalk_ignore_rules.specs.Pattern.Pieces.{pieces}

-- whether a byte is a slash
abbrev pub is_slash : ℕ → Bool
is_slash byte = byte == 47

-- whether a name has a byte
abbrev pub is_name : List ℕ → Bool
is_name [] = false
is_name (c ∷ cs) = true

-- the names of a path: what is between its slashes, unless it is empty
abbrev pub names_of : List ℕ → List (List ℕ)
names_of path = filter is_name (pieces 47 path)
