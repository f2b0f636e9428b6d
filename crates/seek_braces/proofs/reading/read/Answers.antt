use Rattle.std.proofs.Common.{◌≡◌, ◌<◌, ◌+◌, ◌-◌, arith, drop, length, subst}
use Rattle.std.proofs.lemmas.Bool.{MatchBool-at_false, MatchBool-at_true}
use Rattle.seek_braces.specs.Expanded.{Read, read_of}
use Rattle.seek_braces.specs.Reading.{Holds}
use Rattle.seek_braces.specs.declared.item.Item.TheVariants.{Byte}
use Rattle.seek_braces.proofs.SizeFacts.{next_read, too_many}
use Rattle.seek_braces.proofs.reading.read.Goals as goal

pub returns-then-not-branch : goal.returns-then-not-branch
returns-then-not-branch c =
    let items = c.args.items.now in
    let at = c.loop-at.at - 1 in
    let same : c.loop-at.at ≡ at + 1 = omega (arith, c.loop-at-test.true) in
    let below : at < length items = omega (arith, same, c.loop-at.invariant.within) in
    let held : Holds (read_of (drop (at + 1) items)) c.loop-at.reading = subst (λ n. Holds (read_of (drop n items)) c.loop-at.reading) same c.loop-at.invariant.held in
    too_many items at (Byte 0) below (MatchBool-at_false _ _ c.if-not-branch.true c.in_ok-add.ensures (read_of (drop (at + 1) items)) held)

pub loop-at-preserved : goal.loop-at-preserved
loop-at-preserved c =
    let items = c.args.items.now in
    let at = c.loop-at.at - 1 in
    let same : c.loop-at.at ≡ at + 1 = omega (arith, c.loop-at-test.true) in
    let below : at < length items = omega (arith, same, c.loop-at.invariant.within) in
    let held : Holds (read_of (drop (at + 1) items)) c.loop-at.reading = subst (λ n. Holds (read_of (drop n items)) c.loop-at.reading) same c.loop-at.invariant.held in
    record {
      within = omega (arith, below);
      held = subst (λ (r : Read). Holds r c.add.new.self) (next_read items at (Byte 0) below) (MatchBool-at_true _ _ c.if-not-branch.false c.in_ok-add.ensures (read_of (drop (at + 1) items)) held);
    }
