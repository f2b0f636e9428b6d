use Rattle.std.proofs.Common.{refl, subst, sym}
use Rattle.std.specs.Iterator.{Yields}
use Rattle.example_proofs.proofs.SubtotalFacts.{one_called}
use Rattle.example_proofs.proofs.subtotals.take_all.Goals as goal

pub loop-yielded-init : goal.loop-yielded-init
loop-yielded-init g c = record {
  can = c.requires.can;
  ends = c.requires.ends;
  so_far = subst (λ xs. Yields g.I.Iterator.next_gives c.args.subtotals.now xs c.args.subtotals.now) (sym c.new-all.ensures.items) refl;
}

pub loop-yielded-preserved : goal.loop-yielded-preserved
loop-yielded-preserved g c =
    let held = c.loop-yielded.invariant in
    let on = c.in-Some.ensures.goes.on held.ends in
    record {
      can = on.0;
      ends = on.1;
      so_far = subst (λ xs. Yields g.I.Iterator.next_gives c.args.subtotals.now xs c.next.new.self) (sym c.in_ok-push.ensures.items)
          (one_called g.I.Iterator.next_gives c.loop-yielded.all.items c.in-Some.yielded c.args.subtotals.now c.loop-yielded.subtotals c.next.new.self held.so_far c.in-Some.ensures.steps);
    }

pub returns : goal.returns
returns g c = (c.loop-yielded.subtotals, c.loop-yielded.invariant.so_far, c.in_default.ensures.steps)
