-- Extensions of names.
use Rattle.std.specs.Prelude.{ℕ, ◌+◌, ◌-◌, ◌==◌, Bool, false, ◌&&◌, ◌||◌, nat_lt, List, [], ◌∷◌, length, drop, map, bytes_eq, if◌then◌else◌}
use Rattle.std.specs.Char.{to_ascii_lowercase}
use Rattle.std.specs.List.{list_any}

-- whether a text is a dot and an extension, whatever the case of ASCII's letters
abbrev pub is_dotted : List ℕ → List ℕ → Bool
is_dotted extension [] = false
is_dotted extension (c ∷ cs) = c == 46 && bytes_eq (map to_ascii_lowercase cs) (map to_ascii_lowercase extension)

-- an extension without its first dot
abbrev pub without_dot : List ℕ → List ℕ
without_dot [] = []
without_dot (c ∷ cs) = if c == 46 then cs else c ∷ cs

-- whether a name ends with a dot and this text, after at least one character
abbrev pub has_ending : List ℕ → List ℕ → Bool
has_ending ending name =
    nat_lt (length ending + 1) (length name) && is_dotted ending (drop (length name - (length ending + 1)) name)

-- whether a name has an extension, which may be named with its dot
abbrev pub has_extension : List ℕ → List ℕ → Bool
has_extension name extension = has_ending (without_dot extension) name

-- whether a name has one of these extensions, or there are none
abbrev pub has_one : List ℕ → List (List ℕ) → Bool
has_one name extensions = (length extensions == 0) || list_any (has_extension name) extensions
