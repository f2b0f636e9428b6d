-- The text that a pattern is compared with.
use Rattle.std.specs.Prelude.{ℕ, List, string_bytes}
use Rattle.seek_words.specs.declared.subject.AbsolutePath.{AbsolutePath}

-- the text in front of a relative path
abbrev pub front_of : AbsolutePath → List ℕ
front_of it = string_bytes it.front

-- the path itself, as it was last made
abbrev pub text_of : AbsolutePath → List ℕ
text_of it = string_bytes it.text
