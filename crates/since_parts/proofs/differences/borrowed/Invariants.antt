use Rattle.std.proofs.Common.{◌≡◌, map, take}
use Rattle.since_parts.specs.Differences.{kept_at}
use Rattle.since_parts.proofs.differences.borrowed.Given as goal

abbrev pub invariant-loop-entry : goal.invariant-loop-entry
invariant-loop-entry l = map kept_at l.all.items ≡ take l.entry-index l.entries
