-- The lines of an ignore file.
use Rattle.std.specs.Prelude.{ℕ, ◌-◌, ◌==◌, ◌&&◌, Bool, false, not, List, [], ◌∷◌, length, get_or, take, drop, bytes_eq, Option, if◌then◌else◌}
use Rattle.std.specs.List.{before_first, filter_map, list_all}
use Rattle.jwalk_ignore_rules.specs.Pattern.Pieces.{is_byte, pieces}
use Rattle.jwalk_ignore_rules.specs.Pattern.{Pattern, pattern_in}

-- whether a byte is a space
abbrev pub is_space : ℕ → Bool
is_space byte = byte == 32

-- the lines of a text: what is between line feeds
abbrev pub lines_of : List ℕ → List (List ℕ)
lines_of text = pieces 10 text

-- a line without a carriage return at its end
abbrev pub without_return : List ℕ → List ℕ
without_return line = if get_or line (length line - 1) 0 == 13 then take (length line - 1) line else line

-- a text without the spaces at its end; one behind a backslash is kept
abbrev pub trimmed : Bool → List ℕ → List ℕ
trimmed escaped [] = []
trimmed escaped (c ∷ cs) = if not escaped && list_all is_space (c ∷ cs) then [] else c ∷ trimmed (not escaped && c == 92) cs

-- the text of a line: up to the first zero byte, without the spaces at its end
abbrev pub text_of : List ℕ → List ℕ
text_of line = trimmed false (before_first (is_byte 0) (without_return line))

-- a file without the byte order mark that it begins with
abbrev pub without_mark : List ℕ → List ℕ
without_mark bytes = if bytes_eq (take 3 bytes) (239 ∷ 187 ∷ 191 ∷ []) then drop 3 bytes else bytes

-- the pattern of a line, if it has one
abbrev pub pattern_of_line : List ℕ → Option Pattern
pattern_of_line line = pattern_in (text_of line)

-- the patterns of a file, in order
abbrev pub patterns_of : List ℕ → List Pattern
patterns_of bytes = filter_map pattern_of_line (lines_of (without_mark bytes))
