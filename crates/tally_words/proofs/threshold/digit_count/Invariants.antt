use Rattle.std.proofs.Common.{length, ◌-◌, ◌≡◌, ◌+◌, drop}
use Rattle.tally_words.specs.Threshold.{digit_count}
use Rattle.tally_words.proofs.threshold.digit_count.Given as goal

-- the digits so far, and those after them
abbrev pub invariant-loop-count : goal.invariant-loop-count
invariant-loop-count l = l.count + digit_count (drop l.count l.text) ≡ digit_count l.text

abbrev pub decreases-loop-count : goal.decreases-loop-count
decreases-loop-count l = length l.text - l.count
