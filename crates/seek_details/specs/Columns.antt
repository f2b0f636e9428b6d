-- Texts and numbers in columns.
use Rattle.std.specs.Prelude.{ℕ, ◌-◌, List, ◌++◌, length, codes, decimal, replicate, Option, None, Some}

-- a text behind as many of these bytes as a width asks for
abbrev pub padded : ℕ → ℕ → List ℕ → List ℕ
padded fill width text = replicate (width - length text) fill ++ text

-- a space and a number at the end of its column, or a question mark if it isn't known
abbrev pub number_column : ℕ → Option ℕ → List ℕ
number_column width None = codes " " ++ padded 32 width (codes "?")
number_column width (Some number) = codes " " ++ padded 32 width (decimal number)
