-- Patterns of the names of a path.
use Rattle.std.specs.Prelude.{◌≡◌, ◌≢◌, ◌++◌, ℕ, List, [], ◌∷◌, map}
use Rattle.jwalk_ignore_rules.specs.Pattern.ByteTest.{ByteTest}
use Rattle.jwalk_ignore_rules.specs.Pattern.Glob.{glob_value, IsNamed}
use Rattle.jwalk_ignore_rules.specs.Pattern.Names.{names_of}
use Rattle.jwalk_ignore_rules.specs.Pattern.Fits.{Fits, part_map}
use Rattle.jwalk_ignore_rules.specs.declared.pattern.glob.Glob.{Glob}
use Rattle.jwalk_ignore_rules.specs.declared.pattern.part.Part.{Part}

-- parts by value
abbrev pub globs_value : {A : Type 0} → List (Part (Glob A)) → List (Part (List (Part ByteTest)))
globs_value parts = map (part_map glob_value) parts

-- names fit a pattern: `**` skips any number of names, and any other part takes one name
abbrev pub IsReached : List (Part (List (Part ByteTest))) → List (List ℕ) → Type 0
IsReached parts names = Fits IsNamed parts names

-- each path that fits ends with this byte, unless it ends with a slash
abbrev pub LastByteIs : List (Part (List (Part ByteTest))) → ℕ → Type 0
LastByteIs parts byte = (front : List ℕ) → (last : ℕ) → last ≢ 47 → IsReached parts (names_of (front ++ last ∷ [])) → last ≡ byte
