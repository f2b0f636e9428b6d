use Rattle.std.proofs.Common.{◌≡◌, Some, take}
use Rattle.tally_words.specs.Threshold.{in_64_bits, number_of}
use Rattle.tally_words.proofs.threshold.number_of.Given as goal

-- the number of the digits so far
abbrev pub invariant-loop-digit : goal.invariant-loop-digit
invariant-loop-digit l = in_64_bits (number_of (take l.digit-index l.digits)) ≡ Some l.number
