use Rattle.std.proofs.Common.{sym, ap₂, ◌∙◌, arith}
use Rattle.std.specs.Option.{option_cmp}
use Rattle.std.specs.Ordering.{nat_cmp}
use Rattle.jwalk_changes.specs.AtPath.{whole}
use Rattle.jwalk_changes.proofs.TextFacts.{cmp_decided, cmp_on, cmp_longer, cmp_as_long}
use Rattle.jwalk_changes.proofs.at_path.compare_whole.Goals as goal

pub returns-then-is_ne : goal.returns-then-is_ne
returns-then-is_ne c =
    cmp_decided c.loop-at.at (whole c.args.a.0.now c.args.a.1.now) (whole c.args.b.0.now c.args.b.1.now) c.cmp-order.result c.loop-at.invariant
    (c.cmp-order.ensures ∙ ap₂ (option_cmp nat_cmp) c.rank_at.ensures c.rank_at-in-loop-at.ensures) (sym c.is_ne.ensures ∙ c.if-is_ne.true)

pub loop-at-preserved : goal.loop-at-preserved
loop-at-preserved c =
    cmp_on c.loop-at.at (whole c.args.a.0.now c.args.a.1.now) (whole c.args.b.0.now c.args.b.1.now) c.cmp-order.result c.loop-at.invariant
    (c.cmp-order.ensures ∙ ap₂ (option_cmp nat_cmp) c.rank_at.ensures c.rank_at-in-loop-at.ensures) (sym c.is_ne.ensures ∙ c.if-is_ne.false)

pub returns-then-len-whole_len : goal.returns-then-len-whole_len
returns-then-len-whole_len c = cmp_longer c.loop-at.at (whole c.args.a.0.now c.args.a.1.now) (whole c.args.b.0.now c.args.b.1.now) c.loop-at.invariant (omega arith) (omega arith)

pub returns-else-len-whole_len : goal.returns-else-len-whole_len
returns-else-len-whole_len c = cmp_as_long c.loop-at.at (whole c.args.a.0.now c.args.a.1.now) (whole c.args.b.0.now c.args.b.1.now) c.loop-at.invariant (omega arith) (omega arith)
