use Rattle.std.proofs.Common.{◌-◌, ◌^◌, arith}
use Rattle.jwalk.proofs.WholeFacts.{whole_filled}
use Rattle.example_proofs.proofs.whole.walk_given.Goals as goal

-- a vector holds fewer than `usize::MAX`, so all that was to come is filled in
pub returns : goal.returns
returns g c = λ given steady none.
    let found = c.fill.new.out in
    let begun = c.into_iter.ensures in
    whole_filled _ _ _ _ _ given c.args.walk c.into_iter.result c.fill.new.self (2 ^ 64 - 1) c.in_ok-fill.field-0 c.new-found.result.items found.items begun.own begun.starts begun.holds steady
    c.in_ok-fill.ensures c.new-found.ensures.items (omega (arith, found.ok.0, found.ok.1, found.small)) none
