use Rattle.std.proofs.Common.{map, ap, subst, sym}
use Rattle.jwalk.specs.jwalk_job.Entry.{item}
use Rattle.std.specs.Prelude.{OnOk}
use Rattle.jwalk.specs.jwalk_job.Given.{AddsErrors}
use Rattle.jwalk.proofs.GivenFacts.{adds_none}
use Rattle.jwalk_ignore.proofs.callback.rules_reader.RulesReader.add_root_item.Goals as goal

pub returns-in-Some-clause-depth : goal.returns-in-Some-clause-depth
returns-in-Some-clause-depth g c = λ depth one before. c.add_root.ensures.depth depth (c.in_ok-add_item.ensures.depth depth one before)

pub returns-in-Some-clause-errors : goal.returns-in-Some-clause-errors
returns-in-Some-clause-errors g c =
    let added = ap (λ m. m.list) c.in_ok-add_item.ensures.value in
    subst (λ l. OnOk c.add_root.result (AddsErrors l (map item c.add_root.new.made.list.items))) added c.add_root.ensures.errors

pub returns-in-None-clause-errors : goal.returns-in-None-clause-errors
returns-in-None-clause-errors g c = subst (λ l. AddsErrors l (map item c.add_item.new.self.list.items)) (ap (λ m. m.list) c.in_ok-add_item.ensures.value) (adds_none (map item c.add_item.new.self.list.items))
