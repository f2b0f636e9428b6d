-- The pattern of one line.
pub mod ByteClass
pub mod ByteTest
mod CaseRows
pub mod Class
pub mod ClassItem
pub mod Fits
pub mod Glob
pub mod ItemRead
pub mod NamePattern
pub mod Names
pub mod NamesRead
mod NamesRows
mod PatternRows
pub mod PatternText
pub mod Pieces
pub mod Taken
pub mod Token
use Rattle.std.specs.Prelude.{◌≡◌, ◌++◌, ℕ, ◌==◌, Bool, true, false, IsTrue, List, [], ◌∷◌, length, map, Option, None, if◌then◌else◌}
use Rattle.std.specs.Option.{option_map}
use Rattle.jwalk_ignore_rules.specs.Pattern.ByteTest.{ByteTest as Test}
use Rattle.jwalk_ignore_rules.specs.Pattern.Fits.{part_map}
use Rattle.jwalk_ignore_rules.specs.Pattern.Glob.{glob_in_either_case}
use Rattle.jwalk_ignore_rules.specs.Pattern.NamePattern.{globs_value, IsReached}
use Rattle.jwalk_ignore_rules.specs.Pattern.Names.{names_of}
use Rattle.jwalk_ignore_rules.specs.Pattern.NamesRead.{parts_in}
use Rattle.jwalk_ignore_rules.specs.Pattern.PatternText.{without_first_slash, without_last_slash, ends_with_slash, first_parts}
use Rattle.jwalk_ignore_rules.specs.declared.rules.decision.Decision.{Decision}
use Rattle.jwalk_ignore_rules.specs.declared.rules.decision.Decision.TheVariants.{Ignored, Kept}
use Rattle.jwalk_ignore_rules.specs.declared.pattern.part.Part.{Part}
use Rattle.jwalk_ignore_rules.specs.declared.pattern.Pattern.{Pattern as CodePattern}

-- a pattern by value: whether it begins with `!`, whether it ends with a slash, and the parts for the names of a path
pub record Pattern : Type 0 where
  pub keeps : Bool
  pub only_dirs : Bool
  pub parts : List (Part (List (Part Test)))

-- a pattern by value
abbrev pub pattern_value : {A : Type 0} → CodePattern A → Pattern
pattern_value pattern = record { keeps = pattern.keeps; only_dirs = pattern.only_dirs; parts = globs_value pattern.parts.items }

-- the pattern of a text behind the `!`, if there is one; none if it is malformed
abbrev pub pattern_of_text : Bool → List ℕ → Option Pattern
pattern_of_text keeps text =
    let inner = without_last_slash text in
    let names = without_first_slash inner in
    option_map (λ parts. record { keeps = keeps; only_dirs = ends_with_slash text; parts = parts })
    (parts_in (length names) (record { parts = first_parts inner; name = [] }) names)

-- the pattern of a line's text; none for a blank text, a comment and a malformed pattern
abbrev pub pattern_in : List ℕ → Option Pattern
pattern_in [] = None
pattern_in (byte ∷ behind) =
    if byte == 35 then None else if byte == 33 then pattern_of_text true behind else pattern_of_text false (byte ∷ behind)

-- the same pattern with letters in either case
abbrev pub pattern_in_either_case : Pattern → Pattern
pattern_in_either_case pattern = record pattern { parts = map (part_map glob_in_either_case) pattern.parts }

-- a pattern matches a path: the names fit, and it is a directory if the pattern ends with a slash
abbrev pub Matches : Pattern → List ℕ → Bool → Type 0
Matches pattern path is_dir = (IsTrue pattern.only_dirs → IsTrue is_dir) × IsReached pattern.parts (names_of path)

-- each path that a pattern matches ends with this name
abbrev pub EndsWith : Pattern → List ℕ → Type 0
EndsWith pattern name = (path : List ℕ) → (is_dir : Bool) → Matches pattern path is_dir → (front : List (List ℕ)) × (names_of path ≡ front ++ name ∷ [])

-- what a pattern says of a path that it matches, by whether it begins with `!`
abbrev pub decision_of : Bool → Decision
decision_of true = Kept
decision_of false = Ignored
