use Rattle.std.proofs.Common.{◌≡◌, ◌-◌, true, length, map, take}
use Rattle.std.specs.List.{list_all}
use Rattle.seek_found.specs.PatternTest.{takes_of}
use Rattle.seek_found.proofs.pattern_test.all_pass.Given as goal

-- the text passed each test so far, and these take the same as before
abbrev pub invariant-loop-at : goal.invariant-loop-at
invariant-loop-at l = record {
  same : map takes_of l.tests ≡ map takes_of l.fn.tests;
  passed : list_all (λ takes. takes l.text l.is_dir) (take l.at (map takes_of l.fn.tests)) ≡ true;
}

abbrev pub decreases-loop-at : goal.decreases-loop-at
decreases-loop-at l = length l.tests - l.at
