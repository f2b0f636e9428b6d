-- Texts without control characters.
use Rattle.std.specs.Prelude.{ℕ, List, [], ◌∷◌, ◌++◌, encode_utf8, if◌then◌else◌}
use Rattle.std.specs.Char.{is_control}
use Rattle.std.specs.Str.{chars}

-- the printed form of a character: a question mark for a control character
abbrev pub shown_char : ℕ → ℕ
shown_char c = if is_control c then 63 else c

-- the printed form of characters, in UTF-8
abbrev pub shown_chars : List ℕ → List ℕ
shown_chars [] = []
shown_chars (c ∷ cs) = encode_utf8 (shown_char c) ++ shown_chars cs

-- a text with a question mark for each control character
abbrev pub masked : List ℕ → List ℕ
masked text = shown_chars (chars text)
