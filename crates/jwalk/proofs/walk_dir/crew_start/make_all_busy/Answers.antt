use Rattle.std.proofs.Common.{length, map, ap, sym, ◌∙◌}
use Rattle.std.proofs.lemmas.List.{with_items_is}
use Rattle.jwalk_job.specs.Entry.{item}
use Rattle.jwalk_callbacks.proofs.SkipFacts.{changed_more, changed_all}
use Rattle.jwalk.specs.CrewStart.{busied}
use Rattle.jwalk.proofs.walk_dir.crew_start.make_all_busy.Goals as goal

pub loop-found-preserved : goal.loop-found-preserved
loop-found-preserved g c =
    let long = ap length c.deref_mut-found-items.ensures.value in
    changed_more item busied c.args.list.now.items
    c.loop-found.found-items c.loop-found.found-index c.make_busy.new.found c.found-item.result
    (c.loop-found.auto.found-items ∙ long) (rw long at c.loop-found-test.true) c.make_busy.ensures c.loop-found.invariant

pub returns : goal.returns
returns g c =
    let long = ap length c.deref_mut-found-items.ensures.value in
    ap (map item) (with_items_is c.args.list.now c.loop-found.found-items (c.loop-found.auto.found-items ∙ long ∙ sym c.args.list.now.ok.0))
    ∙ changed_all item busied c.args.list.now.items
    c.loop-found.found-items c.loop-found.found-index (rw long at c.loop-found-test.false) c.loop-found.invariant

pub loop-found-init : goal.loop-found-init
loop-found-init g c = ap (map item) c.deref_mut-found-items.ensures.value
