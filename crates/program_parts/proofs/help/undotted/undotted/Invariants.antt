use Rattle.std.proofs.Common.{◌≡◌, ◌++◌, length}
use Rattle.program_parts.specs.Help.{undotted, undotted_behind}
use Rattle.program_parts.proofs.help.undotted.undotted.Given as goal

-- the text so far, and what is left
abbrev pub invariant-loop-next : goal.invariant-loop-next
invariant-loop-next l = l.shown.items ++ undotted_behind l.next.0 l.next.1.now ≡ undotted l.text

abbrev pub decreases-loop-next : goal.decreases-loop-next
decreases-loop-next l = length l.next.1.now
