use Rattle.jwalk_subtotals.specs.Coming.{Gives}
use Rattle.tally_run.proofs.CountingFacts.{all_taken, none_taken, one_taken}
use Rattle.tally_run.proofs.counting.take_all.Goals as goal

pub loop-yielded-init : goal.loop-yielded-init
loop-yielded-init g c = record {
  can = c.requires;
  so_far = none_taken (Gives g.I.Iterator.next_gives) c.args.root.now c.args.shown c.args.subtotals.now c.args.results.now (g.W.Write.contents c.args.out.now);
}

pub loop-yielded-preserved : goal.loop-yielded-preserved
loop-yielded-preserved g c =
    let held = c.loop-yielded.invariant in
    let on = c.in-Some.ensures.goes.on tt in
    record {
      can = on.0;
      so_far = one_taken (Gives g.I.Iterator.next_gives) c.args.root.now c.args.shown c.args.subtotals.now c.args.results.now (g.W.Write.contents c.args.out.now)
          c.loop-yielded.subtotals c.next.new.self c.loop-yielded.results c.take_one.new.results
          (g.W.Write.contents c.loop-yielded.out) (g.W.Write.contents c.take_one.new.out) c.loop-yielded.clean c.in_ok-clean.field-0
          c.in-Some.yielded held.so_far c.in-Some.ensures.steps c.in_ok-clean.ensures.goes_on c.in_ok-clean.ensures.clean c.in_ok-clean.ensures.taken;
    }

pub returns : goal.returns
returns g c =
    all_taken (Gives g.I.Iterator.next_gives) c.args.root.now c.args.shown c.args.subtotals.now c.args.results.now (g.W.Write.contents c.args.out.now)
    c.loop-yielded.subtotals c.next.new.self c.loop-yielded.results (g.W.Write.contents c.loop-yielded.out) c.loop-yielded.clean
    c.loop-yielded.invariant.so_far c.in_default.ensures.steps
