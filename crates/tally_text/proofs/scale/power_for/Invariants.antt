use Rattle.std.proofs.Common.{◌≡◌, ℕ, ◌<◌, ◌≤◌, ◌-◌, ◌^◌, nat_lt, false}
use Rattle.std.specs.Int.{div_ceil}
use Rattle.tally_text.proofs.scale.power_for.Given as goal

abbrev pub invariant-loop-power : goal.invariant-loop-power
invariant-loop-power l =
    (1 ≤ l.power) × (l.power ≤ 10) × ((k : ℕ) → 1 ≤ k → k < l.power → nat_lt (div_ceil l.fn.bytes (l.fn.step ^ k)) l.fn.step ≡ false)

abbrev pub decreases-loop-power : goal.decreases-loop-power
decreases-loop-power l = 10 - l.power
