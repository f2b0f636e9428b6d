use Rattle.std.proofs.Common.{drop}
use Rattle.since_parts.specs.Saved.{AreSame}
use Rattle.since_parts.proofs.saved.are_same.Given as goal

-- if what is left is the same, all is
abbrev pub invariant-loop-at : goal.invariant-loop-at
invariant-loop-at l = AreSame (drop l.at l.kept) (drop l.at l.found) → AreSame l.fn.kept l.fn.found
