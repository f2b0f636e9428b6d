-- The values that words give to options.
use Rattle.std.specs.Prelude.{◌≡◌, ℕ, ◌<◌, ◌^◌, Bool, nat_lt, List, [], map, is_some, Option, Some, None, unwrap_or, SomeIff}
use Rattle.std.specs.Borrow.{Bor}
use Rattle.std.specs.Str.Parse.{IsNumeral, digits_value, without_leading_plus}
use Rattle.clap.specs.Words.{Row, Text, all_of, count_of, first_of}

-- whether an option of one word was named
abbrev pub is_named : List Row → Text → Bool
is_named rows id = nat_lt 0 (count_of id rows)

-- whether an option has a value
abbrev pub has_value : List Row → Text → Bool
has_value rows id = is_some (first_of id rows)

-- the values of an option
abbrev pub values_in : List Row → Text → List Text
values_in rows id = unwrap_or (all_of id rows) []

-- the texts of words
abbrev pub texts_of : List (Bor Text) → List Text
texts_of = map (λ it. it.now)

-- The number of a text, if it has one of 64 bits.
abbrev pub IsNumberOf : Option Text → Option ℕ → Type 0
IsNumberOf None number = number ≡ None
IsNumberOf (Some text) number =
    SomeIff number (IsNumeral 10 (without_leading_plus text) × (digits_value 10 (without_leading_plus text) < 2 ^ 64)) (digits_value 10 (without_leading_plus text))
