use Rattle.std.proofs.Common.{length, ◌+◌, ◌≡◌}
use Rattle.program_parts.specs.Help.{indent_from, indent_of}
use Rattle.program_parts.proofs.help.broken.indent_of.Given as goal

-- the column by the bytes so far, and by those after them
abbrev pub invariant-loop-rest : goal.invariant-loop-rest
invariant-loop-rest l = (indent_from l.column l.found l.rest ≡ indent_of l.text) × (l.column + length l.rest ≡ length l.text)

abbrev pub decreases-loop-rest : goal.decreases-loop-rest
decreases-loop-rest l = length l.rest
