-- Patterns of one name.
use Rattle.std.specs.Prelude.{◌≡◌, ◌++◌, ℕ, List, [], ◌∷◌, IsTrue, map}
use Rattle.jwalk_ignore_rules.specs.Pattern.ByteTest.{ByteTest, test_value, fits, in_either_case}
use Rattle.jwalk_ignore_rules.specs.Pattern.Fits.{Fits, part_map}
use Rattle.jwalk_ignore_rules.specs.declared.pattern.byte_test.ByteTest.{ByteTest as CodeTest}
use Rattle.jwalk_ignore_rules.specs.declared.pattern.glob.Glob.{Glob}
use Rattle.jwalk_ignore_rules.specs.declared.pattern.part.Part.{Part}

-- a test takes a byte that fits
abbrev pub TakesByte : ByteTest → ℕ → Type 0
TakesByte test byte = IsTrue (fits test byte)

-- parts by value
abbrev pub parts_value : {A : Type 0} → List (Part (CodeTest A)) → List (Part ByteTest)
parts_value parts = map (part_map test_value) parts

-- a pattern by value
abbrev pub glob_value : {A : Type 0} → Glob A → List (Part ByteTest)
glob_value glob = parts_value glob.parts.items

-- a name fits a pattern: `*` skips any number of bytes, and any other part takes one byte
abbrev pub IsNamed : List (Part ByteTest) → List ℕ → Type 0
IsNamed glob name = Fits TakesByte glob name

-- each name that fits ends with this byte
abbrev pub EachEndsWith : List (Part ByteTest) → ℕ → Type 0
EachEndsWith glob byte = (name : List ℕ) → IsNamed glob name → (front : List ℕ) × (name ≡ front ++ byte ∷ [])

-- no name fits but this one
abbrev pub TakesOnly : List (Part ByteTest) → List ℕ → Type 0
TakesOnly glob name = (other : List ℕ) → IsNamed glob other → other ≡ name

-- the same pattern with letters in either case
abbrev pub glob_in_either_case : List (Part ByteTest) → List (Part ByteTest)
glob_in_either_case glob = map (part_map in_either_case) glob
