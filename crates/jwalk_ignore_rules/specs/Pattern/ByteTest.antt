-- What one byte of a name is compared with.
use Rattle.std.specs.Prelude.{ℕ, Bool, true, ◌==◌}
use Rattle.std.specs.Char.{eq_ignore_ascii_case}
use Rattle.jwalk_ignore_rules.specs.Pattern.Class.{ClassValue, class_in_either_case, class_value, has}
use Rattle.jwalk_ignore_rules.specs.declared.pattern.byte_test.ByteTest.{ByteTest as CodeTest}
use Rattle.jwalk_ignore_rules.specs.declared.pattern.byte_test.ByteTest.TheVariants as code

-- which bytes fit at one place: this byte alone, this letter in either case, any byte, or a byte of a class
pub data ByteTest : Type 0 where
  Byte : ℕ → ByteTest
  EitherCase : ℕ → ByteTest
  Any : ByteTest
  OneOf : ClassValue → ByteTest

-- a test by value
abbrev pub test_value : {A : Type 0} → CodeTest A → ByteTest
test_value (code.Byte own) = Byte own
test_value (code.EitherCase own) = EitherCase own
test_value code.Any = Any
test_value (code.OneOf class) = OneOf (class_value class)

-- whether a byte fits
abbrev pub fits : ByteTest → ℕ → Bool
fits (Byte own) byte = own == byte
fits (EitherCase own) byte = eq_ignore_ascii_case own byte
fits Any byte = true
fits (OneOf class) byte = has class byte

-- the same test with letters in either case
abbrev pub in_either_case : ByteTest → ByteTest
in_either_case (Byte own) = EitherCase own
in_either_case (EitherCase own) = EitherCase own
in_either_case Any = Any
in_either_case (OneOf class) = OneOf (class_in_either_case class)
