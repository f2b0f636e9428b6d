use Rattle.std.proofs.Common.{◌≡◌, map, take}
use Rattle.seek_found.specs.NamePattern.{takes_name}
use Rattle.seek_found.specs.PatternTest.{takes_of}
use Rattle.seek_found.proofs.sought_test.tests_of.Given as goal

-- the tests of the patterns so far
abbrev pub invariant-loop-pattern : goal.invariant-loop-pattern
invariant-loop-pattern l = map takes_of l.tests.items ≡ map takes_name (take l.pattern-index l.patterns)
