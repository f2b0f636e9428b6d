-- How the names of a pattern are read.
use Prim.Native.Nat.{zero}
use Rattle.std.specs.Prelude.{ℕ, suc, Bool, true, false, ◌&&◌, nat_le, List, [], ◌∷◌, ◌++◌, length, Option, Some, None, if◌then◌else◌}
use Rattle.std.specs.List.{list_all}
use Rattle.jwalk_ignore_rules.specs.Pattern.ByteTest.{ByteTest}
use Rattle.jwalk_ignore_rules.specs.Pattern.Glob.{parts_value}
use Rattle.jwalk_ignore_rules.specs.Pattern.NamePattern.{globs_value}
use Rattle.jwalk_ignore_rules.specs.Pattern.Token.{Token, Slash, InName, token_in}
use Rattle.jwalk_ignore_rules.specs.declared.pattern.names_read.NamesRead.{NamesRead as CodeRead}
use Rattle.jwalk_ignore_rules.specs.declared.pattern.part.Part.{Part}
use Rattle.jwalk_ignore_rules.specs.declared.pattern.part.Part.TheVariants.{Many, One}

-- what was read of a pattern: the parts whose names ended, and the parts of the name that goes on
pub record NamesRead : Type 0 where
  pub parts : List (Part (List (Part ByteTest)))
  pub name : List (Part ByteTest)

-- the same by value
abbrev pub read_value : {A : Type 0} → CodeRead A → NamesRead
read_value read = record { parts = globs_value read.parts.items; name = parts_value read.name.items }

-- whether a part is a star
abbrev pub is_many : Part ByteTest → Bool
is_many Many = true
is_many (One test) = false

-- whether a name is two stars, or more
abbrev pub is_double_star : List (Part ByteTest) → Bool
is_double_star name = nat_le 2 (length name) && list_all is_many name

-- the part that a name in front of a slash is
abbrev pub inner_part : List (Part ByteTest) → Part (List (Part ByteTest))
inner_part name = if is_double_star name then Many else One name

-- the parts that the last name is: `**` stands for one name or more
abbrev pub last_parts : List (Part ByteTest) → List (Part (List (Part ByteTest)))
last_parts name = if is_double_star name then Many ∷ One name ∷ [] else One name ∷ []

-- one token more
abbrev pub added : Token → NamesRead → NamesRead
added Slash read = record { parts = read.parts ++ inner_part read.name ∷ []; name = [] }
added (InName part) read = record { parts = read.parts; name = read.name ++ part ∷ [] }

-- all parts, at the end
abbrev pub finished : NamesRead → List (Part (List (Part ByteTest)))
finished read = read.parts ++ last_parts read.name

-- The parts of a text, behind what was read; none if a token is malformed. There are at most `tokens` tokens, which are
-- never more than bytes.
abbrev pub parts_in : ℕ → NamesRead → List ℕ → Option (List (Part (List (Part ByteTest))))
parts_in tokens read [] = Some (finished read)
parts_in zero read (byte ∷ behind) = None
parts_in (suc tokens) read (byte ∷ behind) = elim (token_in (byte ∷ behind)) [
  | None ↦ None
  | Some next ↦ parts_in tokens (added next.0 read) next.1
]
