use Rattle.std.proofs.Common.{◌-◌}
use Rattle.jwalk_iter.proofs.FillFacts.{Filled}
use Rattle.jwalk_iter.proofs.entries.Entries.fill.Given as goal

-- what was filled in so far
abbrev pub invariant-loop-filled : goal.invariant-loop-filled
invariant-loop-filled g l =
    record {
      lawful : g.B.Readings.can_read (g.B.Readings.base l.self.reads);
      sofar : Filled g.B.Readings l.n l.fn.self l.fn.out.items l.filled l.out.items l.self;
    }

abbrev pub decreases-loop-filled : goal.decreases-loop-filled
decreases-loop-filled g l = l.n - l.filled
