use Rattle.std.proofs.Common.{◌∷◌, [], map, ap, sym, subst, ◌∙◌}
use Rattle.std.proofs.lemmas.List.{map-append, map-id}
use Rattle.std.proofs.lemmas.Iterator.Adapters.{YieldsList-from_vec}
use Rattle.std.proofs.lemmas.Iterator.Consumers.{YieldsList-end}
use Rattle.jwalk_fs.specs.Views.{listed, TakesAll}
use Rattle.jwalk_fs.proofs.SinkFacts.{takes_on}
use Rattle.jwalk_fs.proofs.file_system.FileSystem.read_dir_into.Goals as goal

pub loop-item-preserved : goal.loop-item-preserved
loop-item-preserved g c =
    let took = g.K.Sink.Took in
    let all = takes_on took (map listed c.loop-item.yielded) (listed c.in-Some.item ∷ []) c.args.sink.now c.loop-item.sink c.take_item.new.sink c.loop-item.invariant c.in_ok-take_item.ensures in
    subst (λ l. TakesAll took l c.args.sink.now c.take_item.new.sink) (sym (map-append listed c.loop-item.yielded (c.in-Some.item ∷ []))) all

pub returns-clause-taken : goal.returns-clause-taken
returns-clause-taken g c =
    let begins = c.into_iter-item-iterator.ensures.into_iter_gives in
    let items = c.in_ok-items.items in
    let all = YieldsList-end (YieldsList-from_vec {s = c.into_iter-item-iterator.result} items.items begins.0 (begins.1 ∙ items.ok.0)) c.loop-item.yielded c.loop-item.item-iterator c.loop-item.yielded_by c.next.result c.next.new.self c.in-None.is c.next.ensures.steps in
    let gone = ap (map listed) (sym (map-id c.loop-item.yielded) ∙ all.0) in (
      map listed items.items,
      subst (λ l. TakesAll g.K.Sink.Took l c.args.sink.now c.loop-item.sink) gone c.loop-item.invariant,
      λ fixed. c.in_ok-items.ensures.value fixed,
      c.in_ok-items.ensures.gives,
    )
