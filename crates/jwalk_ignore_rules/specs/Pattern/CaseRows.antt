-- What classes take in either case of letters, row by row: `a`, `A`, `b` and `B`.
use Rattle.std.specs.Prelude.{◌≡◌, ℕ, Bool, true, false, List, [], ◌∷◌, Option, Some, map, codes, refl}
use Rattle.std.specs.Option.{option_map}
use Rattle.jwalk_ignore_rules.specs.Pattern.Class.{class_in, class_in_either_case, has}
use Rattle.jwalk_ignore_rules.specs.Pattern.ByteTest.{Byte, fits, in_either_case}

-- which of these letters the class of a text takes, behind its opening bracket
abbrev taken : List ℕ → Option (List Bool)
taken text = option_map (λ read. map (has (class_in_either_case read.0)) (codes "aAbB")) (class_in text)

row_byte : map (fits (in_either_case (Byte 97))) (codes "aAbB") ≡ true ∷ true ∷ false ∷ false ∷ []
row_byte = refl

row_listed : taken (codes "A]") ≡ Some (true ∷ true ∷ false ∷ false ∷ [])
row_listed = refl

row_not_listed : taken (codes "!a]") ≡ Some (false ∷ false ∷ true ∷ true ∷ [])
row_not_listed = refl

-- the range from `B` to `a` has `B` and `a`, and what is between them
row_range : taken (codes "B-a]") ≡ Some (true ∷ true ∷ true ∷ true ∷ [])
row_range = refl

row_named : taken (codes "[:upper:]]") ≡ Some (true ∷ true ∷ true ∷ true ∷ [])
row_named = refl

row_not_named : taken (codes "![:upper:]]") ≡ Some (false ∷ false ∷ false ∷ false ∷ [])
row_not_named = refl
