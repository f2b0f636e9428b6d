-- The text of help, as it is printed.
use Rattle.std.specs.Prelude.{ℕ, ◌+◌, ◌-◌, suc, ◌==◌, nat_lt, Bool, not, ◌&&◌, ◌||◌, List, [], ◌∷◌, ◌++◌, replicate, Option, None, Some, if◌then◌else◌}
use Rattle.std.specs.List.{prefix_len}

-- whether bytes are three dots behind one that isn't a `]`
abbrev pub are_dots : ℕ → ℕ → ℕ → ℕ → Bool
are_dots last a b c = not (last == 93) && (a == 46 && (b == 46 && c == 46))

-- a text in which three spaces replace three dots, unless a `]` is in front of these; `last` is the byte in front
abbrev pub undotted_behind : ℕ → List ℕ → List ℕ
undotted_behind last (a ∷ b ∷ c ∷ cs) =
    if are_dots last a b c then 32 ∷ 32 ∷ 32 ∷ undotted_behind 32 cs
    else a ∷ undotted_behind a (b ∷ c ∷ cs)
undotted_behind last cs = cs

abbrev pub undotted : List ℕ → List ℕ
undotted = undotted_behind 0

-- whether a byte is of a word: neither a space nor a line feed
abbrev pub is_of_word : ℕ → Bool
is_of_word c = not (c == 32 || c == 10)

-- the length of the word that a text begins with
abbrev pub word_len : List ℕ → ℕ
word_len = prefix_len is_of_word

-- the column behind the last two spaces of a line, from a column on, or the one found before
abbrev pub indent_from : ℕ → ℕ → List ℕ → ℕ
indent_from column found (c ∷ d ∷ cs) =
    if c == 10 then found else indent_from (suc column) (if c == 32 && d == 32 then column + 2 else found) (d ∷ cs)
indent_from column found cs = found

-- the column at which the explanations of a line begin, or 0
abbrev pub indent_of : List ℕ → ℕ
indent_of = indent_from 0 0

-- the next column; that of the greatest number stays
abbrev pub next_column : ℕ → ℕ
next_column column = if nat_lt column 18446744073709551615 then suc column else column

-- whether a space is in explanations, and the word behind it isn't in this width any more
abbrev pub is_break : ℕ → ℕ → ℕ → List ℕ → Bool
is_break width indent column behind = nat_lt indent column && nat_lt (width - column) (suc (word_len behind))

-- a text from a column on, where lines are broken at spaces in their explanations, so that each has at most this width, or
-- one word
abbrev pub broken_from : ℕ → ℕ → ℕ → List ℕ → List ℕ
broken_from width indent column [] = []
broken_from width indent column (c ∷ cs) =
    if c == 10 then 10 ∷ broken_from width (indent_of cs) 0 cs
    else if c == 32 && is_break width indent column cs then 10 ∷ replicate indent 32 ++ broken_from width indent indent cs
    else c ∷ broken_from width indent (next_column column) cs

abbrev pub broken : ℕ → List ℕ → List ℕ
broken width text = broken_from width (indent_of text) 0 text

-- a text of help: options without a value have no dots behind them, and lines have at most this width, if it is known
abbrev pub help_text : Option ℕ → List ℕ → List ℕ
help_text None text = undotted text
help_text (Some width) text = broken width (undotted text)
