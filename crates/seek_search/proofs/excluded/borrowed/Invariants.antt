use Rattle.std.proofs.Common.{◌≡◌, map, string_bytes, take}
use Rattle.program_parts.specs.Values.{texts_of}
use Rattle.seek_search.proofs.excluded.borrowed.Given as goal

-- the texts of the lines so far
abbrev pub invariant-loop-line : goal.invariant-loop-line
invariant-loop-line l = texts_of l.texts.items ≡ map string_bytes (take l.line-index l.lines)
