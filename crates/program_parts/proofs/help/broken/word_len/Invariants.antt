use Rattle.std.proofs.Common.{length, ◌-◌, ◌≡◌, ◌≤◌, ◌+◌, drop}
use Rattle.program_parts.specs.Help.{word_len}
use Rattle.program_parts.proofs.help.broken.word_len.Given as goal

-- the bytes so far, and those of the word after them
abbrev pub invariant-loop-count : goal.invariant-loop-count
invariant-loop-count l = (l.count + word_len (drop l.count l.text) ≡ word_len l.text) × (l.count ≤ length l.text)

abbrev pub decreases-loop-count : goal.decreases-loop-count
decreases-loop-count l = length l.text - l.count
