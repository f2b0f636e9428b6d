-- The texts of a directory that is read: its path, and the names in it.
use Rattle.std.specs.Prelude.{ℕ, nat_eq, Bool, not, ◌||◌, ◌==◌, List, [], ◌∷◌, ◌++◌, length, filter, if◌then◌else◌}
use Rattle.std.specs.List.{slice_split, ends_with}
use Rattle.std.specs.Str.{bytes_eq, byte}

-- a path whose last byte is a slash; an empty one stays empty
abbrev pub slash_ended : List ℕ → List ℕ
slash_ended path = if length path == 0 || ends_with nat_eq path (byte "/" ∷ []) then path else path ++ byte "/" ∷ []

-- The name isn't empty, and neither `.` nor `..`.
abbrev pub is_child : List ℕ → Bool
is_child name = not (bytes_eq name [] || bytes_eq name (byte "." ∷ []) || bytes_eq name (byte "." ∷ byte "." ∷ []))

-- whether a byte ends a name
abbrev pub is_nul : ℕ → Bool
is_nul b = b == 0

-- the names of children among those that were read together, each ended by a NUL
abbrev pub children : List ℕ → List (List ℕ)
children names = filter is_child (slice_split is_nul names)
