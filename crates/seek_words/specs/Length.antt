-- Lengths of time, in nanoseconds.
use Rattle.std.specs.Prelude.{ℕ, zero, suc, ◌+◌, ◌*◌, ◌^◌, ◌==◌, Bool, ◌||◌, nat_lt, List, [], ◌∷◌, length, take, drop, bytes_eq, codes, Option, None, Some, if◌then◌else◌}
use Rattle.std.specs.Char.{is_ascii_alphabetic, is_ascii_whitespace}
use Rattle.std.specs.List.{prefix_len}
use Rattle.std.specs.Option.{option_or}
use Rattle.seek_words.specs.Size.{digit_count, in_64_bits, number_of}

-- a number, if it has at most 128 bits
abbrev pub in_128_bits : ℕ → Option ℕ
in_128_bits number = if nat_lt number (2 ^ 128) then Some number else None

-- the number of letters that a text begins with
abbrev pub letter_count : List ℕ → ℕ
letter_count = prefix_len is_ascii_alphabetic

-- the number of bytes of white space that a text begins with
abbrev pub space_count : List ℕ → ℕ
space_count = prefix_len is_ascii_whitespace

-- a text without the white space that it begins with
abbrev pub trimmed : List ℕ → List ℕ
trimmed text = drop (space_count text) text

-- whether a unit has one of three names
abbrev pub is_called : List ℕ → List ℕ → List ℕ → List ℕ → Bool
is_called unit long middle short = bytes_eq unit long || (bytes_eq unit middle || bytes_eq unit short)

-- the nanoseconds of a unit of at most a second
abbrev pub short_unit : List ℕ → Option ℕ
short_unit unit =
    if is_called unit (codes "nanos") (codes "nsec") (codes "ns") then Some 1
    else if is_called unit (codes "usec") (codes "usec") (codes "us") then Some 1_000
    else if is_called unit (codes "millis") (codes "msec") (codes "ms") then Some 1_000_000
    else if is_called unit (codes "seconds") (codes "secs") (codes "s") then Some 1_000_000_000
    else if is_called unit (codes "second") (codes "sec") (codes "s") then Some 1_000_000_000
    else None

-- the nanoseconds of a unit of minutes or hours
abbrev pub clock_unit : List ℕ → Option ℕ
clock_unit unit =
    if is_called unit (codes "minutes") (codes "mins") (codes "m") then Some 60_000_000_000
    else if is_called unit (codes "minute") (codes "min") (codes "m") then Some 60_000_000_000
    else if is_called unit (codes "hours") (codes "hrs") (codes "h") then Some 3_600_000_000_000
    else if is_called unit (codes "hour") (codes "hr") (codes "h") then Some 3_600_000_000_000
    else None

-- the nanoseconds of a unit of days or more; a month has 30.44 days, and a year 365.25
abbrev pub long_unit : List ℕ → Option ℕ
long_unit unit =
    if is_called unit (codes "days") (codes "day") (codes "d") then Some 86_400_000_000_000
    else if is_called unit (codes "weeks") (codes "week") (codes "w") then Some 604_800_000_000_000
    else if is_called unit (codes "months") (codes "month") (codes "M") then Some 2_630_016_000_000_000
    else if is_called unit (codes "years") (codes "year") (codes "y") then Some 31_557_600_000_000_000
    else None

-- the nanoseconds of a unit
abbrev pub unit_in : List ℕ → Option ℕ
unit_in unit = option_or (option_or (short_unit unit) (clock_unit unit)) (long_unit unit)

-- the number that a text begins with
abbrev pub number_in : List ℕ → Option ℕ
number_in text = if digit_count text == 0 then None else in_64_bits (number_of (take (digit_count text) text))

-- a text from the unit behind its number on
abbrev pub from_unit : List ℕ → List ℕ
from_unit text = trimmed (drop (digit_count text) text)

-- a number of units, if both are known
abbrev pub product : Option ℕ → Option ℕ → Option ℕ
product (Some number) (Some unit) = in_128_bits (number * unit)
product _ _ = None

-- the length that a text begins with: a number and a unit, with white space between them or none
abbrev pub first_length : List ℕ → Option ℕ
first_length text = product (number_in text) (unit_in (take (letter_count (from_unit text)) (from_unit text)))

-- what follows that length and white space
abbrev pub after_length : List ℕ → List ℕ
after_length text = trimmed (drop (letter_count (from_unit text)) (from_unit text))

-- two lengths together, if both are known
abbrev pub together : Option ℕ → Option ℕ → Option ℕ
together (Some length) (Some more) = in_128_bits (length + more)
together _ _ = None

-- the sum of the lengths of a text, up to a greatest number of these
unfoldable pub lengths_in : ℕ → List ℕ → Option ℕ
lengths_in zero text = None
lengths_in (suc most) text =
    together (first_length text) (if length (after_length text) == 0 then Some 0 else lengths_in most (after_length text))

-- the sum of at most a hundred lengths
abbrev pub length_in : List ℕ → Option ℕ
length_in text = lengths_in 100 (trimmed text)
