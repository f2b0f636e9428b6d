use Rattle.jwalk_usage.proofs.CountFacts.{nothing_counted, one_counted, stops, told_by}
use Rattle.jwalk_usage.proofs.usage_of_rest.Goals as goal

pub loop-answer-init : goal.loop-answer-init
loop-answer-init g c = record {
  can = c.requires.can;
  ends = c.requires.ends;
  so_far = nothing_counted _ _ _ _ c.nothing-usage.result c.nothing-usage.ensures;
}

pub loop-answer-preserved : goal.loop-answer-preserved
loop-answer-preserved g c =
    let on = c.in-Some.ensures.goes.on c.loop-answer.invariant.ends in
    let counted = c.in_ok-add.ensures in
    record {
      can = on.0;
      ends = on.1;
      so_far = one_counted _ _ _ _ c.loop-answer.answers c.next.new.self c.loop-answer.usage c.add.new.self c.in-Some.answer c.loop-answer.invariant.so_far c.in-Some.ensures.steps counted.told counted.types counted.counted counted.kept;
    }

pub returns-in_err-add-clause-faults : goal.returns-in_err-add-clause-faults
returns-in_err-add-clause-faults g c =
    let stopped = stops _ _ _ _ c.loop-answer.answers c.next.new.self c.loop-answer.usage c.in-Some.answer c.in_err-add.field-0.0 c.loop-answer.invariant.so_far c.in-Some.ensures.steps c.in_err-add.ensures.faults in
    told_by c.from_residual.result c.in_err-add.field-0.0 _ c.from_residual.ensures.1 stopped
