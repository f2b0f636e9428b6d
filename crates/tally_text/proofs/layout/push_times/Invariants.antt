use Rattle.std.proofs.Common.{◌≡◌, ◌≤◌, ◌-◌, ◌++◌}
use Rattle.tally_text.specs.Layout.{repeated}
use Rattle.tally_text.proofs.layout.push_times.Given as goal

abbrev pub invariant-loop-done : goal.invariant-loop-done
invariant-loop-done l =
    (l.done ≤ l.fn.times) × (l.out.items ≡ l.fn.out.items ++ repeated l.done l.fn.text)

abbrev pub decreases-loop-done : goal.decreases-loop-done
decreases-loop-done l = l.fn.times - l.done
