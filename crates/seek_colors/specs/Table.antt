-- Keys with their colours.
use Rattle.std.specs.Prelude.{ℕ, ◌-◌, Bool, List, length, drop, map, reverse, find, bytes_eq, string_bytes, Option}
use Rattle.std.specs.Char.{to_ascii_lowercase}
use Rattle.std.specs.Option.{option_map}
use Rattle.seek_colors.specs.declared.table.Entry.{Entry}
use Rattle.seek_colors.specs.declared.table.Table.{Table}

abbrev pub entry_of : Entry → List ℕ × List ℕ
entry_of entry = (string_bytes entry.key, string_bytes entry.color)

-- the keys with their colours, the newest last
abbrev pub entries_of : Table → List (List ℕ × List ℕ)
entries_of table = map entry_of table.entries.items

-- whether two texts are the same, whatever the case of ASCII's letters
abbrev pub are_folded_same : List ℕ → List ℕ → Bool
are_folded_same text other = bytes_eq (map to_ascii_lowercase text) (map to_ascii_lowercase other)

-- whether a name ends with a text, whatever the case of ASCII's letters
abbrev pub has_suffix : List ℕ → List ℕ → Bool
has_suffix name suffix = are_folded_same (drop (length name - length suffix) name) suffix

-- the colour of the last entry whose key passes a test
abbrev pub last_color : (List ℕ → Bool) → List (List ℕ × List ℕ) → Option (List ℕ)
last_color test entries = option_map (λ entry. entry.1) (find (λ entry. test entry.0) (reverse entries))

-- the last colour of a key
abbrev pub key_color : List (List ℕ × List ℕ) → List ℕ → Option (List ℕ)
key_color entries key = last_color (λ it. bytes_eq it key) entries

-- the last colour of the end of a name
abbrev pub suffix_color : List (List ℕ × List ℕ) → List ℕ → Option (List ℕ)
suffix_color entries name = last_color (has_suffix name) entries
