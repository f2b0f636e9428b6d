-- Whether the case of letters counts.
use Rattle.std.specs.Prelude.{ℕ, ◌+◌, ◌-◌, ◌*◌, ◌%◌, nat_le, nat_lt, Bool, true, false, not, ◌&&◌, ◌||◌, ◌==◌, List, [], ◌∷◌, if◌then◌else◌}
use Rattle.std.specs.Char.{digit_value}
use Rattle.std.specs.Char.Unicode.Uppercase.{is_uppercase}
use Rattle.std.specs.List.{fold, list_any}
use Rattle.std.specs.Str.{chars}
use Rattle.seek_words.specs.declared.case.Case.{Case}
use Rattle.seek_words.specs.declared.case.Case.TheVariants.{Ignored, Kept}
use Rattle.seek_words.specs.declared.case.Place.{Place}
use Rattle.seek_words.specs.declared.case.Place.TheVariants.{Plain, Escape, Code, Digits, Braced, Group, Head, Class}
use Rattle.seek_words.specs.declared.case.Read.{Read}

-- the number of a hexadecimal digit, and 0 for any other character
abbrev pub hex_of : ℕ → ℕ
hex_of c = if nat_lt (digit_value c) 16 then digit_value c else 0

-- a number with one more hexadecimal digit; only the last eight count
abbrev pub with_hex : ℕ → ℕ → ℕ
with_hex number c = number % 268_435_456 * 16 + hex_of c

-- whether a number is the code of a character
abbrev pub is_code : ℕ → Bool
is_code number = nat_lt number 55_296 || (nat_le 57_344 number && nat_lt number 1_114_112)

-- whether a number is the code of an upper-case letter
abbrev pub is_upper_code : ℕ → Bool
is_upper_code number = is_code number && is_uppercase number

-- the character of `[:upper:]` at this place, and the last one behind it
abbrev pub class_mark : ℕ → ℕ
class_mark at =
    if (at == 1) || (at == 7) then 58
    else if at == 2 then 117
    else if (at == 3) || (at == 4) then 112
    else if at == 5 then 101
    else if at == 6 then 114
    else 93

-- the place behind a character that means itself, if it begins nothing else
abbrev pub plain_after : Read → ℕ → Place
plain_after read c =
    if read.escapes && (c == 92) then Escape
    else if read.escapes && (c == 40) then Group
    else if read.classes && (c == 91) then Class 1
    else Plain

-- the place behind a backslash and a character
abbrev pub escape_after : ℕ → Place
escape_after c = if c == 120 then Code 2 else if c == 117 then Code 4 else if c == 85 then Code 8 else Plain

-- the place behind a digit of a code, by how many were left
abbrev pub digits_after : ℕ → ℕ → ℕ → Place
digits_after left number c = if nat_lt 1 left then Digits (left - 1) (with_hex number c) else Plain

-- the place behind a character
abbrev pub place_after : Read → ℕ → Place → Place
place_after read c Plain = plain_after read c
place_after read c Escape = escape_after c
place_after read c (Code left) = if c == 123 then Braced 0 else digits_after left 0 c
place_after read c (Digits left number) = digits_after left number c
place_after read c (Braced number) = if c == 125 then Plain else Braced (with_hex number c)
place_after read c Group = if c == 63 then Head else plain_after read c
place_after read c Head = if (c == 58) || ((c == 41) || (c == 62)) then Plain else Head
place_after read c (Class at) = if c == class_mark at then (if nat_lt at 8 then Class (at + 1) else Plain) else plain_after read c

-- whether a digit, by how many were left, ends the code of an upper-case letter
abbrev pub ends_upper : ℕ → ℕ → ℕ → Bool
ends_upper left number c = nat_le left 1 && is_upper_code (with_hex number c)

-- whether a character is an upper-case letter, or ends what stands for one
abbrev pub completes : ℕ → Place → Bool
completes c Plain = is_uppercase c
completes c Escape = false
completes c (Code left) = not (c == 123) && ends_upper left 0 c
completes c (Digits left number) = ends_upper left number c
completes c (Braced number) = (c == 125) && is_upper_code number
completes c Group = not (c == 63) && is_uppercase c
completes c Head = false
completes c (Class at) = if c == class_mark at then nat_le 8 at else is_uppercase c

-- the facts of a pattern after one more character
abbrev pub then_read : Read → ℕ → Read
then_read read c = record read { place = place_after read c read.place; upper = read.upper || completes c read.place }

-- the facts of no characters
abbrev pub none_read : Bool → Bool → Read
none_read glob fixed = record { escapes = not (glob || fixed); classes = not fixed; place = Plain; upper = false }

-- the facts of a pattern
abbrev pub all_read : Bool → Bool → List ℕ → Read
all_read glob fixed pattern = fold then_read (none_read glob fixed) (chars pattern)

-- whether a pattern has an upper-case letter, as a glob, a text, or else a regular expression
abbrev pub has_upper_case : Bool → Bool → List ℕ → Bool
has_upper_case glob fixed pattern = (all_read glob fixed pattern).upper

-- the case of letters counts if one of these patterns has an upper-case letter
abbrev pub smart_case : Bool → Bool → List (List ℕ) → Case
smart_case glob fixed patterns = if list_any (has_upper_case glob fixed) patterns then Kept else Ignored

-- whether the case of letters is ignored
abbrev pub is_ignored : Case → Bool
is_ignored Ignored = true
is_ignored Kept = false
