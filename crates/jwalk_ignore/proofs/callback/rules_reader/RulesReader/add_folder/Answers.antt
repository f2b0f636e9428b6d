use Rattle.std.proofs.Common.{map, ap, sym, subst}
use Rattle.jwalk.specs.jwalk_job.Entry.{item}
use Rattle.std.proofs.lemmas.Result.{on_ok_weaker}
use Rattle.jwalk.specs.jwalk_job.Given.{AddsErrors}
use Rattle.jwalk.proofs.GivenFacts.{adds_more}
use Rattle.jwalk_ignore.proofs.callback.rules_reader.RulesReader.add_folder.Goals as goal

pub returns-clause-depth : goal.returns-clause-depth
returns-clause-depth g c = λ depth before.
    c.add_above-4.ensures.depth depth (c.in_ok-add_above-3.ensures.depth depth
    (c.in_ok-add_above-2.ensures.depth depth (c.in_ok-add_above.ensures.depth depth (rw c.in_ok-enter.ensures.list before))))

pub returns-clause-errors : goal.returns-clause-errors
returns-clause-errors g c =
    let old = map item c.args.made.now.list.items in
    let one = subst (λ l. AddsErrors l (map item c.add_above.new.made.list.items)) (ap (λ l. map item l.items) c.in_ok-enter.ensures.list) c.in_ok-add_above.ensures.errors in
    let two = adds_more old _ (map item c.add_above-2.new.made.list.items) one c.in_ok-add_above-2.ensures.errors in
    let three = adds_more old _ (map item c.add_above-3.new.made.list.items) two c.in_ok-add_above-3.ensures.errors in
    on_ok_weaker c.add_above-4.result (adds_more old _ (map item c.add_above-4.new.made.list.items) three) c.add_above-4.ensures.errors
