use Rattle.std.proofs.Common.{◌≡◌, rules, ap, ap₂, arith, ◌+◌, subst, sym, length, ◌∙◌, ◌≤◌}
use Rattle.std.specs.Prelude.{drop, IfErr}
use Rattle.std.proofs.lemmas.Result.{err_from_is_err_and}
use Rattle.jwalk_usage.specs.declared.report.UsageFault.TheVariants.{TooMany}
use Rattle.jwalk_subtotals.specs.Stack.{frames_of, open_total}
use Rattle.jwalk_subtotals.specs.Subtotal.{plus, IsTooGreat}
use Rattle.jwalk_subtotals.proofs.OpenFacts.{all_open, no_more_open, one_more, sum_open, too_much}
use Rattle.jwalk_subtotals.proofs.SumFacts.{nothing_plus}
use Rattle.jwalk_subtotals.proofs.stack.Stack.total.Goals as goal

pub loop-open-init : goal.loop-open-init
loop-open-init g c =
    ap₂ (λ t l. plus t (sum_open l)) c.nothing-total.ensures c.as_slice-open-items.ensures.value ∙ nothing_plus (sum_open c.args.self.now.«open».items)

pub returns-in_err-add-clause-too_many : goal.returns-in_err-add-clause-too_many
returns-in_err-add-clause-too_many g c =
    let great : IsTooGreat (open_total (frames_of c.args.self.now)) =
    too_much c.as_slice-open-items.result.now c.loop-open.open-index c.open-item.result c.loop-open.total _ c.loop-open-test.true c.open-item.is (c.loop-open.invariant ∙ all_open c.args.self.now.«open».items) c.in_err-add.ensures.too_many.1 in
    let p = err_from_is_err_and c.from_residual.result c.from_residual.ensures.1 in
    subst (λ r. IfErr r (λ fault. (fault ≡ TooMany) × IsTooGreat (open_total (frames_of c.args.self.now)))) (sym p.1) (search rules, great)

pub loop-open-preserved : goal.loop-open-preserved
loop-open-preserved g c =
    ap (λ t. plus t (sum_open (drop (c.loop-open.open-index + 1) c.as_slice-open-items.result.now))) c.in_ok-add.ensures.sums
    ∙ one_more c.as_slice-open-items.result.now c.loop-open.open-index c.open-item.result c.loop-open.total _ c.loop-open-test.true c.open-item.is c.loop-open.invariant

pub returns-clause-total : goal.returns-clause-total
returns-clause-total g c =
    let all : length c.as_slice-open-items.result.now ≤ c.loop-open.open-index = omega (arith, c.loop-open-test.false, c.loop-open.auto.open-index-end) in
    no_more_open c.as_slice-open-items.result.now c.loop-open.open-index c.loop-open.total _ all c.loop-open.invariant ∙ all_open c.args.self.now.«open».items
