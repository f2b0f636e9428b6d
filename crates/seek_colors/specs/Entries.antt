-- The entries of `LS_COLORS`.
use Rattle.std.specs.Prelude.{ℕ, ◌==◌, Bool, ◌&&◌, ◌||◌, nat_lt, List, length, Option, Some, None, if◌then◌else◌}
use Rattle.std.specs.Char.{is_ascii_digit}
use Rattle.std.specs.List.{after_first, before_first, filter_map, list_all, position_or_len, slice_split}

-- whether a colour may have this byte: a digit or a `;`
abbrev pub is_color_byte : ℕ → Bool
is_color_byte byte = is_ascii_digit byte || byte == 59

abbrev is_equals : ℕ → Bool
is_equals byte = byte == 61

-- whether there is a `=`, and a colour after the first
abbrev pub is_entry : List ℕ → Bool
is_entry text = nat_lt (position_or_len is_equals text) (length text) && list_all is_color_byte (after_first is_equals text)

-- the key before the first `=` and the colour after it, if a text is an entry
abbrev pub entry_in : List ℕ → Option (List ℕ × List ℕ)
entry_in text = if is_entry text then Some (before_first is_equals text, after_first is_equals text) else None

-- what is between the colons of a text
abbrev pub parts_in : List ℕ → List (List ℕ)
parts_in = slice_split (λ byte. byte == 58)

-- the entries among some texts
abbrev pub entries_among : List (List ℕ) → List (List ℕ × List ℕ)
entries_among = filter_map entry_in

-- the entries of a text
abbrev pub entries_in : List ℕ → List (List ℕ × List ℕ)
entries_in text = entries_among (parts_in text)
