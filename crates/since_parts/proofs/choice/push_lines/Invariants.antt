use Rattle.std.proofs.Common.{◌≡◌, ◌++◌, map, string_bytes, take}
use Rattle.since_parts.specs.Choice.{line_word}
use Rattle.since_parts.proofs.choice.push_lines.Given as goal

abbrev pub invariant-loop-line : goal.invariant-loop-line
invariant-loop-line l = map string_bytes l.words.items ≡ map string_bytes l.fn.words.items ++ map line_word (map string_bytes (take l.line-index l.lines))
