use Rattle.std.proofs.Common.{◌≡◌, drop}
use Rattle.jwalk_changes.specs.AtPath.{whole, text_cmp}
use Rattle.jwalk_changes.proofs.at_path.compare_whole.Given as goal

-- all bytes so far are the same
abbrev pub invariant-loop-at : goal.invariant-loop-at
invariant-loop-at l = text_cmp (whole l.a.0.now l.a.1.now) (whole l.b.0.now l.b.1.now) ≡ text_cmp (drop l.at (whole l.a.0.now l.a.1.now)) (drop l.at (whole l.b.0.now l.b.1.now))
