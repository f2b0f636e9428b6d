use Rattle.std.proofs.Common.{◌≡◌}
use Rattle.jwalk.specs.DirEntryIter.{reads_of}
use Rattle.test_crews.proofs.acts.keeps.Given as goal

-- the walk keeps whatever says that it can be read
abbrev pub invariant-entries : goal.invariant-entries
invariant-entries g l = g.B.Readings.base (reads_of l.walk) ≡ g.B.Readings.base (reads_of l.fn.walk)
