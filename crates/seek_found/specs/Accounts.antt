-- Users and groups by name, as in `/etc/passwd` and `/etc/group`.
use Rattle.std.specs.Prelude.{ℕ, ◌^◌, nat_lt, List, [], ◌∷◌, bytes_eq, option_and_then, Option, None, Some, if◌then◌else◌}
use Rattle.std.specs.List.{after_first, before_first, filter_map}
use Rattle.jwalk_ignore_rules.specs.Pattern.Pieces.{is_byte, pieces}
use Rattle.seek_words.specs.Size.{digits_number}

-- a number, if it has at most 32 bits
abbrev pub in_32_bits : ℕ → Option ℕ
in_32_bits number = if nat_lt number (2 ^ 32) then Some number else None

-- the third field of a line whose fields are parted by colons: the number
abbrev pub id_field : List ℕ → List ℕ
id_field line = before_first (is_byte 58) (after_first (is_byte 58) (after_first (is_byte 58) line))

-- the number of a line, if its first field is this name
abbrev pub id_in_line : List ℕ → List ℕ → Option ℕ
id_in_line name line = if bytes_eq (before_first (is_byte 58) line) name then option_and_then in_32_bits (digits_number (id_field line)) else None

-- the first of numbers, if there is one
abbrev pub first_id : List ℕ → Option ℕ
first_id [] = None
first_id (id ∷ ids) = Some id

-- the number of a name: that of the first line of the name that has one
abbrev pub id_named : List ℕ → List ℕ → Option ℕ
id_named accounts name = first_id (filter_map (id_in_line name) (pieces 10 accounts))
