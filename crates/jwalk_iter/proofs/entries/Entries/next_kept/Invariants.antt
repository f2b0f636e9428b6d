use Rattle.jwalk_model.specs.Held.{pair_up, weight}
use Rattle.jwalk_iter.specs.Entries.{max_depth_of, items_of, unread_of}
use Rattle.jwalk_iter.proofs.PassFacts.{PassedOver}
use Rattle.jwalk_iter.proofs.entries.Entries.next_kept.Given as goal

-- what was passed over is left out
abbrev pub invariant-loop-passed : goal.invariant-loop-passed
invariant-loop-passed g l = PassedOver g.B.Readings l.fn.self l.self

abbrev pub decreases-loop-passed : goal.decreases-loop-passed
decreases-loop-passed g l = weight (max_depth_of g.B.Readings l.self) (pair_up (items_of l.self) (unread_of g.B.Readings l.self))
