use Rattle.std.proofs.Common.{◌≡◌, ◌≤◌, ◌-◌, length}
use Rattle.seek_braces.specs.Reading.{bytes_of}
use Rattle.seek_braces.proofs.ListFacts.{pushed_to}
use Rattle.seek_braces.proofs.reading.push_each.Given as goal

-- the texts so far have the byte
abbrev pub invariant-loop-at : goal.invariant-loop-at
invariant-loop-at l = record {
  above : l.start ≤ l.at;
  same : bytes_of l.texts ≡ pushed_to l.start l.byte (bytes_of l.fn.texts) l.at;
}

abbrev pub decreases-loop-at : goal.decreases-loop-at
decreases-loop-at l = length l.texts - l.at
