use Rattle.jwalk_usage.specs.Kept.{errors_kept, bytes_kept}
use Rattle.jwalk_usage.proofs.AddFacts.{nothing_added, one_added, stops_adding}
use Rattle.jwalk_usage.proofs.CountFacts.{told_by}
use Rattle.jwalk_usage.proofs.kept.usage_kept_of_rest.Goals as goal

pub loop-answer-init : goal.loop-answer-init
loop-answer-init g c = record {
  can = c.requires.can;
  ends = c.requires.ends;
  so_far = nothing_added errors_kept bytes_kept _ _ c.nothing-usage.result c.nothing-usage.ensures;
}

pub loop-answer-preserved : goal.loop-answer-preserved
loop-answer-preserved g c =
    let on = c.in-Some.ensures.goes.on c.loop-answer.invariant.ends in
    let counted = c.in_ok-add_kept.ensures in
    record {
      can = on.0;
      ends = on.1;
      so_far = one_added errors_kept bytes_kept _ _ c.loop-answer.answers c.next.new.self c.loop-answer.usage c.add_kept.new.self c.in-Some.answer c.loop-answer.invariant.so_far c.in-Some.ensures.steps counted.told counted.counted;
    }

pub returns-in_err-add_kept-clause-faults : goal.returns-in_err-add_kept-clause-faults
returns-in_err-add_kept-clause-faults g c =
    let stopped = stops_adding errors_kept bytes_kept _ _ c.loop-answer.answers c.next.new.self c.loop-answer.usage c.in-Some.answer c.in_err-add_kept.field-0.0 c.loop-answer.invariant.so_far c.in-Some.ensures.steps c.in_err-add_kept.ensures.faults in
    told_by c.from_residual.result c.in_err-add_kept.field-0.0 _ c.from_residual.ensures.1 stopped
