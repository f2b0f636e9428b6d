use Rattle.std.proofs.Common.{◌∷◌, [], ◌++◌, ◌&&◌, ◌∙◌, map, ap, sym, subst}
use Rattle.std.proofs.lemmas.List.{map-append}
use Rattle.jwalk_fs.specs.Views.{TakesAll}
use Rattle.jwalk_indexed_fs.specs.Item.{item_of}
use Rattle.jwalk_fs.proofs.SinkFacts.{takes_on}
use Rattle.jwalk_indexed_fs.specs.Taken.{is_seen, is_whole, seen_items}
use Rattle.jwalk_indexed_fs.proofs.TakenFacts.{seen_more, whole_more}
use Rattle.jwalk_indexed_fs.proofs.taken.give_all.Goals as goal

pub loop-item-preserved : goal.loop-item-preserved
loop-item-preserved g c =
    let took = g.K.Sink.Took in
    let so_far = c.loop-item.invariant in
    let items = map item_of c.loop-item.yielded in
    let item = item_of c.in-Some.item in
    let more = sym (map-append item_of c.loop-item.yielded (c.in-Some.item ∷ [])) in
    record {
      given = subst (λ l. TakesAll took l c.args.sink.now c.give.new.sink) more
          (takes_on took items (item ∷ []) c.args.sink.now c.loop-item.sink c.give.new.sink so_far.given c.in_ok-give.ensures.given);
      names = c.in_ok-give.ensures.names ∙ ap (λ l. l ++ seen_items (item ∷ [])) so_far.names ∙ sym (seen_more items item) ∙ ap seen_items more;
      whole = c.in_ok-give.ensures.whole ∙ ap (λ b. b && is_seen item) so_far.whole ∙ sym (whole_more items item) ∙ ap is_whole more;
    }
