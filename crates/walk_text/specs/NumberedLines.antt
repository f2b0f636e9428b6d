-- Numbered lines as an iterator.
use Rattle.std.specs.Prelude.{ℕ, ◌+◌, List}
use Rattle.std.specs.Borrow.{Bor}
use Rattle.walk_text.specs.declared.lines.NumberedLines.{NumberedLines}
use Rattle.walk_text.specs.TextLines.{numbered_from}

-- the lines that are still to come
abbrev pub lines_left : NumberedLines → List (ℕ × List ℕ)
lines_left s = numbered_from (s.passed + 1) s.left.now

-- a line and its number
abbrev pub numbered : ℕ × Bor (List ℕ) → ℕ × List ℕ
numbered item = (item.0, item.1.now)
