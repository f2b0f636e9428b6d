use Rattle.std.proofs.Common.{◌≡◌}
use Rattle.jwalk.specs.DirEntryIter.{reads_of}
use Rattle.test_loops.proofs.skips.take_all.Given as goal

-- the walk keeps whatever says that it can be read
abbrev pub invariant-answers : goal.invariant-answers
invariant-answers g l = g.B.Readings.base (reads_of l.walk) ≡ g.B.Readings.base (reads_of l.fn.walk)
