-- Decimal numbers in words and tree lines.
use Rattle.std.specs.Prelude.{ℕ, ◌^◌, ◌<◌, ◌≤◌, List, length}
use Rattle.std.specs.Str.Parse.{AllDigits, digits_value}

-- the number that is written with these decimal digits
abbrev pub value_of : List ℕ → ℕ
value_of = digits_value 10

-- a number of 64 bits, written with 1 to 20 decimal digits
pub record IsNumber (text : List ℕ) : Type 0 where
  pub digits : AllDigits 10 text
  pub some : 0 < length text
  pub few : length text ≤ 20
  pub fits : value_of text < 2 ^ 64
