use Rattle.std.proofs.Common.{length}
use Rattle.jwalk_iter.proofs.SkipFacts.{Dropped}
use Rattle.jwalk_iter.proofs.entries.Entries.drop_skipped.Given as goal

-- what was dropped so far is what comes first
abbrev pub invariant-loop : goal.invariant-loop
invariant-loop g l = Dropped g.B.Readings l.fn.self l.self

abbrev pub decreases-loop : goal.decreases-loop
decreases-loop g l = length l.self.items.items
