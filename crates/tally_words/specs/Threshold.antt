-- Which sizes are written.
use Rattle.std.specs.Prelude.{ℕ, ◌+◌, ◌-◌, ◌*◌, ◌^◌, ◌==◌, Bool, ◌||◌, nat_lt, nat_le, List, [], ◌∷◌, length, take, drop, bytes_eq, codes, Option, None, Some, if◌then◌else◌}
use Rattle.std.specs.Char.{is_ascii_digit}
use Rattle.std.specs.List.{fold, prefix_len}
use Rattle.std.specs.Option.{option_map}
use Rattle.tally_words.specs.declared.threshold.Threshold.{Threshold}
use Rattle.tally_words.specs.declared.threshold.Threshold.TheVariants.{AtLeast, AtMost}

-- the number of digits that a text begins with
abbrev pub digit_count : List ℕ → ℕ
digit_count = prefix_len is_ascii_digit

-- a number with one more digit
abbrev pub with_digit : ℕ → ℕ → ℕ
with_digit number digit = number * 10 + (digit - 48)

-- the number of some digits
abbrev pub number_of : List ℕ → ℕ
number_of = fold with_digit 0

-- a number, if it has at most 64 bits
abbrev pub in_64_bits : ℕ → Option ℕ
in_64_bits number = if nat_lt number (2 ^ 64) then Some number else None

-- whether a letter is one of two
abbrev pub is_either : ℕ → ℕ → ℕ → Bool
is_either letter one other = (letter == one) || (letter == other)

-- the bytes of a unit of base two, by its letter: k or K, m or M, G, T, P and E
abbrev pub bytes_of_two : ℕ → Option ℕ
bytes_of_two letter =
    if is_either letter 107 75 then Some (2 ^ 10) else if is_either letter 109 77 then Some (2 ^ 20) else if letter == 71 then Some (2 ^ 30)
    else if letter == 84 then Some (2 ^ 40) else if letter == 80 then Some (2 ^ 50) else if letter == 69 then Some (2 ^ 60) else None

-- those of a unit of base ten
abbrev pub bytes_of_ten : ℕ → Option ℕ
bytes_of_ten letter =
    if is_either letter 107 75 then Some (10 ^ 3) else if is_either letter 109 77 then Some (10 ^ 6) else if letter == 71 then Some (10 ^ 9)
    else if letter == 84 then Some (10 ^ 12) else if letter == 80 then Some (10 ^ 15) else if letter == 69 then Some (10 ^ 18) else None

-- the bytes of a unit by its letter and what is behind that: nothing or iB for base two, B for base ten
abbrev pub bytes_by : ℕ → List ℕ → Option ℕ
bytes_by letter rest =
    if (length rest == 0) || bytes_eq rest (codes "iB") then bytes_of_two letter else if bytes_eq rest (codes "B") then bytes_of_ten letter else None

-- the bytes of a unit: one without a unit
abbrev pub bytes_of : List ℕ → Option ℕ
bytes_of [] = Some 1
bytes_of (letter ∷ rest) = bytes_by letter rest

-- a number of units in bytes, if both are known
abbrev pub in_bytes : Option ℕ → Option ℕ → Option ℕ
in_bytes (Some number) (Some unit) = in_64_bits (number * unit)
in_bytes _ _ = None

-- the bytes of a text, which is a number and a unit behind it
abbrev pub bytes_in : List ℕ → Option ℕ
bytes_in text =
    if digit_count text == 0 then None else in_bytes (in_64_bits (number_of (take (digit_count text) text))) (bytes_of (drop (digit_count text) text))

-- the greatest size, which isn't 0
abbrev pub most_of : ℕ → Option Threshold
most_of most = if most == 0 then None else Some (AtMost most)

abbrev pub most_in : Option ℕ → Option Threshold
most_in None = None
most_in (Some most) = most_of most

-- which sizes a text means: at most this many bytes after a `-`, and else at least this many
abbrev pub threshold_in : List ℕ → Option Threshold
threshold_in [] = None
threshold_in (c ∷ cs) = if c == 45 then most_in (bytes_in cs) else option_map AtLeast (bytes_in (c ∷ cs))

-- whether a size is written
abbrev pub is_within : Threshold → ℕ → Bool
is_within (AtLeast least) bytes = nat_le least bytes
is_within (AtMost most) bytes = nat_le bytes most
