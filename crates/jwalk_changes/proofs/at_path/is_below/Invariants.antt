use Rattle.std.proofs.Common.{◌≡◌, drop}
use Rattle.jwalk_changes.specs.AtPath.{whole}
use Rattle.jwalk_changes.proofs.TextFacts.{has_then_slash}
use Rattle.jwalk_changes.proofs.at_path.is_below.Given as goal

-- all bytes so far are the same
abbrev pub invariant-loop-at : goal.invariant-loop-at
invariant-loop-at g l = has_then_slash (whole l.place.0.now l.place.1.now) (whole l.found.0.now l.found.1.now) ≡ has_then_slash (drop l.at (whole l.place.0.now l.place.1.now)) (drop l.at (whole l.found.0.now l.found.1.now))
