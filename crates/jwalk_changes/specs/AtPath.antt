-- Paths by their names, and their order.
use Rattle.std.specs.Prelude.{ℕ, ◌+◌, Bool, true, false, ◌&&◌, ◌==◌, List, [], ◌∷◌, ◌++◌, map, bytes_eq, if◌then◌else◌}
use Rattle.std.specs.declared.cmp.Ordering.{Ordering}
use Rattle.std.specs.Ordering.{nat_cmp, is_lt, is_eq}
use Rattle.std.specs.Cmp.Lexicographic.{slice_cmp}
use Rattle.jwalk_model.specs.Paths.{parts, slash}

-- the names in a path text: what is between its slashes, and none in an empty text
abbrev pub names : List ℕ → List (List ℕ)
names [] = []
names (c ∷ cs) = parts (c ∷ cs)

-- what is between the two parts of a path
abbrev pub between : List ℕ → List ℕ → List ℕ
between [] back = []
between (c ∷ cs) [] = []
between (c ∷ cs) (d ∷ ds) = slash ∷ []

-- the text of a path in two parts
abbrev pub whole : List ℕ → List ℕ → List ℕ
whole front back = front ++ between front back ++ back

-- the place of a byte in the order of bytes where a slash is the least
abbrev pub rank : ℕ → ℕ
rank c = if c == slash then 0 else c + 1

-- how two texts compare byte by byte in this order
abbrev pub text_cmp : List ℕ → List ℕ → Ordering
text_cmp a b = slice_cmp nat_cmp (map rank a) (map rank b)

-- how two paths compare: by their names one after another, each by its bytes, and a path comes before all that is below it
abbrev pub path_cmp : List (List ℕ) → List (List ℕ) → Ordering
path_cmp = slice_cmp (slice_cmp nat_cmp)

-- whether a path comes before another
abbrev pub is_before : List (List ℕ) → List (List ℕ) → Bool
is_before p q = is_lt (path_cmp p q)

-- whether two paths are the same
abbrev pub is_same : List (List ℕ) → List (List ℕ) → Bool
is_same p q = is_eq (path_cmp p q)

-- whether the second path is below the first: it has the same names, and then at least one more
abbrev pub is_below : List (List ℕ) → List (List ℕ) → Bool
is_below [] [] = false
is_below [] (n ∷ ns) = true
is_below (m ∷ ms) [] = false
is_below (m ∷ ms) (n ∷ ns) = bytes_eq m n && is_below ms ns
