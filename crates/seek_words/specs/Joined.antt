-- Words of a call, where a size that begins with a hyphen belongs to the word in front of it.
use Rattle.std.specs.Prelude.{ℕ, ◌-◌, ◌==◌, Bool, false, ◌&&◌, ◌||◌, List, [], ◌∷◌, ◌++◌, length, take, drop, bytes_eq, codes, if◌then◌else◌}
use Rattle.std.specs.Char.{is_ascii_digit}
use Rattle.std.specs.List.{list_all, list_any}
use Rattle.std.proofs.Math.ListN.{get_or}

-- whether a letter is that of an option without a value
abbrev pub is_flag : ℕ → Bool
is_flag letter = list_any (λ flag. flag == letter) (codes "gFpisHIuLql01a")

-- whether letters are those of options without a value, and then an `S`
abbrev pub end_with_size : List ℕ → Bool
end_with_size letters =
    let flags = length letters - 1 in get_or letters flags 0 == 83 && list_all is_flag (take flags letters)

-- whether a word is the option for sizes without its value: the long one, or the last of short ones
abbrev pub takes_size : List ℕ → Bool
takes_size word = bytes_eq word (codes "--size") || (bytes_eq (take 1 word) (codes "-") && end_with_size (drop 1 word))

-- whether a word begins with a hyphen and a digit
abbrev pub is_negative : List ℕ → Bool
is_negative (c ∷ d ∷ cs) = c == 45 && is_ascii_digit d
is_negative _ = false

-- words, where an option for sizes and a value behind it that begins with a hyphen are one word, up to a `--`
abbrev pub joined_options : List (List ℕ) → List (List ℕ)
joined_options [] = []
joined_options (word ∷ []) = word ∷ []
joined_options (word ∷ next ∷ words) =
    if bytes_eq word (codes "--") then word ∷ next ∷ words
    else if takes_size word && is_negative next then (word ++ codes "=" ++ next) ∷ joined_options words
    else word ∷ joined_options (next ∷ words)

-- the words of a call, of which the first is the program's name
abbrev pub joined : List (List ℕ) → List (List ℕ)
joined [] = []
joined (name ∷ words) = name ∷ joined_options words
