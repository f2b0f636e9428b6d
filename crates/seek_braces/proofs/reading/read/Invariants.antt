use Rattle.std.proofs.Common.{◌≤◌, drop, length}
use Rattle.seek_braces.specs.Expanded.{read_of}
use Rattle.seek_braces.specs.Reading.{Holds}
use Rattle.seek_braces.proofs.reading.read.Given as goal

-- what was read of the last items
abbrev pub invariant-loop-at : goal.invariant-loop-at
invariant-loop-at l = record {
  within : l.at ≤ length l.items;
  held : Holds (read_of (drop l.at l.items)) l.reading;
}

abbrev pub decreases-loop-at : goal.decreases-loop-at
decreases-loop-at l = l.at
