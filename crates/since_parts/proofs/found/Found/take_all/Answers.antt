use Rattle.since_parts.proofs.FoundFacts.{all_taken, none_taken, one_taken}
use Rattle.since_parts.proofs.found.Found.take_all.Goals as goal

pub loop-answer-init : goal.loop-answer-init
loop-answer-init g c = record {
  can = c.requires.can;
  ends = c.requires.ends;
  so_far = none_taken g.I.Iterator.next_gives c.args.tree.now c.args.answers.now c.args.self.now c.requires.none;
}

pub loop-answer-preserved-in_ok-take_one : goal.loop-answer-preserved-in_ok-take_one
loop-answer-preserved-in_ok-take_one g c =
    let held = c.loop-answer.invariant in
    let on = c.in-Some.ensures.goes.on held.ends in
    record {
      can = on.0;
      ends = on.1;
      so_far = one_taken g.I.Iterator.next_gives c.args.tree.now c.args.answers.now
          c.loop-answer.answers c.next.new.self c.loop-answer.self c.take_one.new.self c.in-Some.answer held.so_far c.in-Some.ensures.steps c.in_ok-take_one.ensures;
    }

pub loop-answer-preserved : goal.loop-answer-preserved
loop-answer-preserved g c =
    let held = c.loop-answer.invariant in
    let on = c.in-Some.ensures.goes.on held.ends in
    record {
      can = on.0;
      ends = on.1;
      so_far = one_taken g.I.Iterator.next_gives c.args.tree.now c.args.answers.now
          c.loop-answer.answers c.next.new.self c.loop-answer.self c.take_one.new.self c.in-Some.answer held.so_far c.in-Some.ensures.steps c.in_ok-take_one.ensures;
    }

pub returns : goal.returns
returns g c =
    all_taken g.I.Iterator.next_gives c.args.tree.now c.args.answers.now
    c.loop-answer.answers c.next.new.self c.loop-answer.self c.loop-answer.invariant.so_far c.in_default.ensures.steps
