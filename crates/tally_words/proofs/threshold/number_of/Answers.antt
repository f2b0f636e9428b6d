use Rattle.std.proofs.Common.{◌≡◌, ◌∙◌, ap, arith, length, sym, take}
use Rattle.std.proofs.Math.Seq.{take-length}
use Rattle.tally_words.specs.Threshold.{in_64_bits, number_of}
use Rattle.tally_words.proofs.ThresholdFacts.{read_none, read_on}
use Rattle.tally_words.proofs.threshold.number_of.Goals as goal

pub loop-digit-preserved : goal.loop-digit-preserved
loop-digit-preserved c =
    sym (read_on c.args.digits.now c.loop-digit.digit-index _ c.loop-digit.number _ c.loop-digit-test.true c.loop-digit.invariant (sym c.in_ok-number.was ∙ c.with_digit.ensures))

pub returns-in_err-number : goal.returns-in_err-number
returns-in_err-number c =
    c.from_residual.ensures
    ∙ read_none c.args.digits.now c.loop-digit.digit-index _ c.loop-digit.number c.loop-digit-test.true c.loop-digit.invariant (sym c.in_err-number.was ∙ c.with_digit.ensures)

pub returns : goal.returns
returns c =
    let all : c.loop-digit.digit-index ≡ length c.args.digits.now = omega (arith, c.loop-digit-test.false, c.loop-digit.auto.digit-index-end) in
    sym c.loop-digit.invariant ∙ ap (λ l. in_64_bits (number_of l)) (ap (λ n. take n c.args.digits.now) all ∙ take-length c.args.digits.now)
