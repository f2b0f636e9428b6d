-- How the bytes of a pattern are read.
use Rattle.std.specs.Prelude.{ℕ, ◌==◌, List, [], ◌∷◌, Option, Some, None, if◌then◌else◌}
use Rattle.std.specs.Borrow.{Bor}
use Rattle.std.specs.Option.{option_map}
use Rattle.jwalk_ignore_rules.specs.Pattern.ByteTest.{ByteTest, Byte, Any, OneOf, test_value}
use Rattle.jwalk_ignore_rules.specs.Pattern.Class.{class_in}
use Rattle.jwalk_ignore_rules.specs.Pattern.Fits.{part_map}
use Rattle.jwalk_ignore_rules.specs.declared.pattern.part.Part.{Part}
use Rattle.jwalk_ignore_rules.specs.declared.pattern.part.Part.TheVariants.{Many, One}
use Rattle.jwalk_ignore_rules.specs.declared.pattern.token.Token.{Token as CodeToken}
use Rattle.jwalk_ignore_rules.specs.declared.pattern.token.Token.TheVariants as code

-- what the first bytes of a pattern mean: the end of a name, or a part of one
pub data Token : Type 0 where
  Slash : Token
  InName : Part ByteTest → Token

-- a token by value
abbrev pub token_value : {A : Type 0} → CodeToken A → Token
token_value code.Slash = Slash
token_value (code.Part part) = InName (part_map test_value part)

-- a byte behind a backslash means itself, and a slash ends a name there too
abbrev pub escaped_token : ℕ → Token
escaped_token byte = if byte == 47 then Slash else InName (One (Byte byte))

-- a byte that begins nothing longer
abbrev pub plain_token : ℕ → Token
plain_token byte = if byte == 47 then Slash else if byte == 42 then InName Many else if byte == 63 then InName (One Any) else InName (One (Byte byte))

-- a class, and what is behind it
abbrev pub class_token : List ℕ → Option (Token × List ℕ)
class_token text = option_map (λ read. (InName (One (OneOf read.0)), read.1)) (class_in text)

-- a byte behind a backslash, and what is behind it; none if there is none
abbrev pub escaped_in : List ℕ → Option (Token × List ℕ)
escaped_in [] = None
escaped_in (byte ∷ behind) = Some (escaped_token byte, behind)

-- what the first bytes of a text mean, and what is behind them; none if they are malformed
abbrev pub token_in : List ℕ → Option (Token × List ℕ)
token_in [] = None
token_in (byte ∷ behind) = if byte == 92 then escaped_in behind else if byte == 91 then class_token behind else Some (plain_token byte, behind)

-- a token that was read, and what is behind it, by value
abbrev pub token_read : {A : Type 0} → CodeToken A × Bor (List ℕ) → Token × List ℕ
token_read read = (token_value read.0, read.1.now)
