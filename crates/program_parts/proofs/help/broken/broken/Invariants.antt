use Rattle.std.proofs.Common.{◌≡◌, ◌++◌, length}
use Rattle.program_parts.specs.Help.{broken, broken_from}
use Rattle.program_parts.proofs.help.broken.broken.Given as goal

-- the text so far, and what is left
abbrev pub invariant-loop-next : goal.invariant-loop-next
invariant-loop-next l = l.shown.items ++ broken_from l.width l.next.0.indent l.next.0.column l.next.1.now ≡ broken l.width l.text

abbrev pub decreases-loop-next : goal.decreases-loop-next
decreases-loop-next l = length l.next.1.now
