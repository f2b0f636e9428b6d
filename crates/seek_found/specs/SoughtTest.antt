-- The test of all patterns.
use Rattle.std.specs.Prelude.{ℕ, Bool, List, map}
use Rattle.seek_found.specs.PatternTest.{takes_of as takes_one}
use Rattle.seek_found.specs.Sought.{takes_all}
use Rattle.seek_found.specs.declared.sought_test.SoughtTest.{SoughtTest}

-- whether a text passes each test
abbrev pub takes_of : SoughtTest → List ℕ → Bool → Bool
takes_of test = takes_all (takes_one test.first) (map takes_one test.others.items)
