use Rattle.std.proofs.Common.{sym, subst, arith}
use Rattle.jwalk_iter.proofs.FillFacts.{Filled, none_filled, one_filled, fills_up, fills_in_part, fills_all}
use Rattle.jwalk_iter.proofs.entries.Entries.fill.Goals as goal

pub loop-filled-init : goal.loop-filled-init
loop-filled-init g c = record { lawful = c.requires; sofar = none_filled g.B.Readings c.args.n c.args.self.now c.args.out.now.items }

pub returns-in_err-reserve : goal.returns-in_err-reserve
returns-in_err-reserve g c =
    fills_in_part g.B.Readings c.args.n c.args.self.now c.args.out.now.items c.from_residual.result c.loop-filled.filled c.reserve.new.self.items c.loop-filled.self c.from_residual.ensures.0
    (subst (λ l. Filled g.B.Readings c.args.n c.args.self.now c.args.out.now.items c.loop-filled.filled l c.loop-filled.self) (sym c.in_err-reserve.ensures.items) c.loop-filled.invariant.sofar) c.loop-filled-test.true

pub returns-in_default : goal.returns-in_default
returns-in_default g c =
    fills_all g.B.Readings c.args.n c.args.self.now c.args.out.now.items c.loop-filled.filled c.reserve.new.self.items c.loop-filled.self c.next.new.self
    (subst (λ l. Filled g.B.Readings c.args.n c.args.self.now c.args.out.now.items c.loop-filled.filled l c.loop-filled.self) (sym c.in_ok-reserve.ensures.items) c.loop-filled.invariant.sofar) c.loop-filled-test.true c.in_default.ensures.steps

pub loop-filled-preserved : goal.loop-filled-preserved
loop-filled-preserved g c =
    record {
      lawful = rw c.in-Some.ensures.steps.base c.loop-filled.invariant.lawful;
      sofar = rw (c.push_reserved.ensures.items, c.in_ok-reserve.ensures.items)
          (one_filled g.B.Readings c.args.n c.args.self.now c.args.out.now.items c.loop-filled.filled c.loop-filled.out.items c.loop-filled.self c.next.new.self c.in-Some.answer c.loop-filled.invariant.sofar c.loop-filled-test.true c.in-Some.ensures.steps);
    }

pub returns : goal.returns
returns g c = fills_up g.B.Readings c.args.n c.args.self.now c.args.out.now.items c.loop-filled.filled c.loop-filled.out.items c.loop-filled.self c.loop-filled.invariant.sofar (omega (arith, c.loop-filled-test.false))
