use Rattle.std.proofs.Common.{length, ◌-◌, ◌≡◌, ◌+◌, drop}
use Rattle.seek_words.specs.Length.{space_count}
use Rattle.seek_words.proofs.length.space_count.Given as goal

-- the spaces so far, and those after them
abbrev pub invariant-loop-count : goal.invariant-loop-count
invariant-loop-count l = l.count + space_count (drop l.count l.text) ≡ space_count l.text

abbrev pub decreases-loop-count : goal.decreases-loop-count
decreases-loop-count l = length l.text - l.count
