use Rattle.std.proofs.Common.{refl, subst, sym}
use Rattle.std.specs.Iterator.{Yields}
use Rattle.example_contents_first.proofs.CallFacts.{one_called}
use Rattle.example_contents_first.proofs.take_all.Goals as goal

pub loop-answer-init : goal.loop-answer-init
loop-answer-init g c = record {
  can = c.requires.can;
  ends = c.requires.ends;
  so_far = subst (λ xs. Yields g.I.Iterator.next_gives c.args.answers.now xs c.args.answers.now) (sym c.new-all.ensures.items) refl;
}

pub loop-answer-preserved : goal.loop-answer-preserved
loop-answer-preserved g c =
    let held = c.loop-answer.invariant in
    let on = c.in-Some.ensures.goes.on held.ends in
    record {
      can = on.0;
      ends = on.1;
      so_far = subst (λ xs. Yields g.I.Iterator.next_gives c.args.answers.now xs c.next.new.self) (sym c.in_ok-push.ensures.items)
          (one_called g.I.Iterator.next_gives c.loop-answer.all.items c.in-Some.answer c.args.answers.now c.loop-answer.answers c.next.new.self held.so_far c.in-Some.ensures.steps);
    }

pub returns : goal.returns
returns g c = (c.loop-answer.answers, c.loop-answer.invariant.so_far, c.in_default.ensures.steps)
