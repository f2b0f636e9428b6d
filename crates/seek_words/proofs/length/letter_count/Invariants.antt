use Rattle.std.proofs.Common.{length, ◌-◌, ◌≡◌, ◌+◌, drop}
use Rattle.seek_words.specs.Length.{letter_count}
use Rattle.seek_words.proofs.length.letter_count.Given as goal

-- the letters so far, and those after them
abbrev pub invariant-loop-count : goal.invariant-loop-count
invariant-loop-count l = l.count + letter_count (drop l.count l.text) ≡ letter_count l.text

abbrev pub decreases-loop-count : goal.decreases-loop-count
decreases-loop-count l = length l.text - l.count
