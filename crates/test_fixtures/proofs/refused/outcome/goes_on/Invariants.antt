use Rattle.std.proofs.Common.{◌≡◌}
use Rattle.jwalk.specs.DirEntryIter.{reads_of}
use Rattle.test_fixtures.proofs.refused.outcome.goes_on.Given as goal

-- the walk keeps whatever says that it can be read
abbrev pub invariant-lines : goal.invariant-lines
invariant-lines g l = g.B.Readings.base (reads_of l.walk) ≡ g.B.Readings.base (reads_of l.fn.walk)
