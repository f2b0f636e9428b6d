use Rattle.std.specs.List.Sorted.{IsPermutation}
use Rattle.jwalk_snapshot.specs.Text.{content_of}
use Rattle.since_parts.specs.Held.{all_in, held_in, turns_left}
use Rattle.since_parts.proofs.held.all_held.Given as goal

abbrev pub invariant-loop-order : goal.invariant-loop-order
invariant-loop-order l = IsPermutation (held_in l.numbers (content_of l.snapshot).folders) (all_in l.order)

abbrev pub decreases-loop-order : goal.decreases-loop-order
decreases-loop-order l = turns_left l.order
