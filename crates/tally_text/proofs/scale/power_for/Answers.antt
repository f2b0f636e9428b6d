use Rattle.std.proofs.Common.{rules, ◌^◌, nat_lt}
use Rattle.std.specs.Int.{div_ceil}
use Rattle.tally_text.proofs.ScaleFacts.{first_in}
use Rattle.tally_text.proofs.scale.power_for.Goals as goal

pub returns-else-div_ceil-step-clause-power : goal.returns-else-div_ceil-step-clause-power
returns-else-div_ceil-step-clause-power c =
    let held = c.loop-power.invariant in
    first_in (λ k. nat_lt (div_ceil c.args.bytes (c.args.step ^ k)) c.args.step) 9 1 c.loop-power.power held.0 held.1 held.2 (λ below. search rules)

pub returns-after-loop-power-clause-power : goal.returns-after-loop-power-clause-power
returns-after-loop-power-clause-power c =
    let held = c.loop-power.invariant in
    first_in (λ k. nat_lt (div_ceil c.args.bytes (c.args.step ^ k)) c.args.step) 9 1 c.loop-power.power held.0 held.1 held.2 (λ below. search rules)
