-- Sizes of files.
use Rattle.std.specs.Prelude.{ℕ, ◌+◌, ◌-◌, ◌*◌, ◌^◌, ◌==◌, Bool, false, ◌&&◌, ◌||◌, nat_lt, nat_le, List, [], ◌∷◌, length, take, drop, map, bytes_eq, codes, Option, None, Some, if◌then◌else◌}
use Rattle.std.specs.Char.{is_ascii_digit, to_ascii_lowercase}
use Rattle.std.specs.List.{fold, list_all, prefix_len}
use Rattle.std.specs.Option.{option_map, option_or}
use Rattle.jwalk_model.specs.FileType.{is_file}
use Rattle.jwalk_model.specs.Metadata.{len_of}
use Rattle.jwalk_model.specs.declared.file_type.FileType.{FileType}
use Rattle.jwalk_model.specs.declared.metadata.Metadata.{Metadata}
use Rattle.seek_words.specs.declared.size.Size.{Size}
use Rattle.seek_words.specs.declared.size.Size.TheVariants.{AtLeast, AtMost, Exactly}

-- the number of digits that a text begins with
abbrev pub digit_count : List ℕ → ℕ
digit_count = prefix_len is_ascii_digit

-- a number with one more digit
abbrev pub with_digit : ℕ → ℕ → ℕ
with_digit number digit = number * 10 + (digit - 48)

-- the number of some digits
abbrev pub number_of : List ℕ → ℕ
number_of = fold with_digit 0

-- a number, if it has at most 64 bits
abbrev pub in_64_bits : ℕ → Option ℕ
in_64_bits number = if nat_lt number (2 ^ 64) then Some number else None

-- whether a unit has one of two names, in either case of the ASCII letters
abbrev pub is_unit : List ℕ → List ℕ → List ℕ → Bool
is_unit unit short long =
    bytes_eq (map to_ascii_lowercase unit) (map to_ascii_lowercase short) || bytes_eq (map to_ascii_lowercase unit) (map to_ascii_lowercase long)

-- the bytes of a unit of base ten
abbrev pub bytes_of_ten : List ℕ → Option ℕ
bytes_of_ten unit =
    if is_unit unit (codes "k") (codes "kb") then Some 1000
    else if is_unit unit (codes "m") (codes "mb") then Some 1000000
    else if is_unit unit (codes "g") (codes "gb") then Some 1000000000
    else if is_unit unit (codes "t") (codes "tb") then Some 1000000000000
    else None

-- the bytes of a unit of base two
abbrev pub bytes_of_two : List ℕ → Option ℕ
bytes_of_two unit =
    if is_unit unit (codes "ki") (codes "kib") then Some 1024
    else if is_unit unit (codes "mi") (codes "mib") then Some 1048576
    else if is_unit unit (codes "gi") (codes "gib") then Some 1073741824
    else if is_unit unit (codes "ti") (codes "tib") then Some 1099511627776
    else None

-- the bytes of a unit
abbrev pub bytes_of : List ℕ → Option ℕ
bytes_of unit = if is_unit unit (codes "b") (codes "b") then Some 1 else option_or (bytes_of_ten unit) (bytes_of_two unit)

-- a number of units in bytes, if both are known
abbrev pub in_bytes : Option ℕ → Option ℕ → Option ℕ
in_bytes (Some number) (Some unit) = in_64_bits (number * unit)
in_bytes _ _ = None

-- the bytes of a text, which is a number followed by a unit
abbrev pub bytes_in : List ℕ → Option ℕ
bytes_in text =
    if digit_count text == 0 then None else in_bytes (in_64_bits (number_of (take (digit_count text) text))) (bytes_of (drop (digit_count text) text))

-- the number of a text of digits alone
abbrev pub digits_number : List ℕ → Option ℕ
digits_number text = if (length text == 0) || nat_lt (digit_count text) (length text) then None else in_64_bits (number_of text)

-- the sizes of a text: at least a number of bytes after a `+`, at most it after a `-`, and else exactly it
abbrev pub size_in : List ℕ → Option Size
size_in [] = None
size_in (c ∷ cs) =
    if c == 43 then option_map AtLeast (bytes_in cs) else if c == 45 then option_map AtMost (bytes_in cs) else option_map Exactly (bytes_in (c ∷ cs))

-- whether a number of bytes is one of these sizes
abbrev pub is_size : ℕ → Size → Bool
is_size bytes (AtLeast least) = nat_le least bytes
is_size bytes (AtMost most) = nat_le bytes most
is_size bytes (Exactly exact) = bytes == exact

-- whether the metadata is known, and its length has each of these sizes
abbrev pub has_sizes : List Size → Option Metadata → Bool
has_sizes sizes None = false
has_sizes sizes (Some m) = list_all (is_size (len_of m)) sizes

-- whether an entry is a regular file of each of these sizes, or there are none
abbrev pub is_sized : List Size → FileType → Option Metadata → Bool
is_sized sizes type seen = (length sizes == 0) || (is_file type && has_sizes sizes seen)
