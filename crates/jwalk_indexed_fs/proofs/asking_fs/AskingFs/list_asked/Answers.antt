use Rattle.std.proofs.Common.{◌≡◌, ◌++◌, ◌∷◌, [], ◌∙◌, List, Ok, map, ap, sym, append-nil, refl}
use Rattle.std.proofs.lemmas.List.{map-append, map-id}
use Rattle.std.proofs.lemmas.Iterator.Adapters.{YieldsList-from_vec}
use Rattle.std.proofs.lemmas.Iterator.Consumers.{YieldsList-end}
use Rattle.jwalk_model.specs.FileSystem.{Listed}
use Rattle.jwalk_fs.proofs.SinkFacts.{takes_none, takes_on}
use Rattle.jwalk_indexed_fs.specs.Asking.{asked_item, asked_items}
use Rattle.jwalk_indexed_fs.specs.Item.{item_of}
use Rattle.jwalk_indexed_fs.proofs.asking_fs.AskingFs.list_asked.Goals as goal

pub loop-item-init : goal.loop-item-init
loop-item-init g c = ([], takes_none g.K.Sink.Took c.args.sink.now, λ fixed. refl)

pub loop-item-preserved : goal.loop-item-preserved
loop-item-preserved g c =
    let so_far = c.loop-item.invariant in
    let asks = asked_item (g.S.FileSystem.functions c.args.self.now.fs) c.args.path.now in
    let given = item_of c.in_ok-asked.field-0 in (
      so_far.0 ++ given ∷ [],
      takes_on g.K.Sink.Took so_far.0 (given ∷ []) c.args.sink.now c.loop-item.sink c.give.new.sink so_far.1 c.in_ok-give.ensures,
      λ fixed. ap (λ (l : List Listed). l ++ given ∷ []) (so_far.2 fixed)
          ∙ ap (λ (x : Listed). map asks (map item_of c.loop-item.yielded) ++ x ∷ []) (c.in_ok-asked.ensures.asked fixed)
          ∙ sym (map-append asks (map item_of c.loop-item.yielded) (item_of c.in-Some.item ∷ []))
          ∙ sym (ap (map asks) (map-append item_of c.loop-item.yielded (c.in-Some.item ∷ []))),
    )

pub returns-clause-taken : goal.returns-clause-taken
returns-clause-taken g c =
    let lists = c.in_ok-read_dir_into.ensures.taken in
    let before = c.new-listed.result in
    let items = c.read_dir_into.new.sink.items in
    let fs = g.S.FileSystem.functions c.args.self.now.fs in
    let empty : map item_of before.items.items ≡ [] = ap (map item_of) c.new-listed.ensures in
    let took : map item_of items.items ≡ lists.0 = lists.1 before [] (sym (append-nil (map item_of before.items.items))) ∙ ap (λ l. l ++ lists.0) empty in
    let begins = c.into_iter-item-iterator.ensures.into_iter_gives in
    let all = YieldsList-end (YieldsList-from_vec {s = c.into_iter-item-iterator.result} items.items begins.0 (begins.1 ∙ items.ok.0)) c.loop-item.yielded c.loop-item.item-iterator c.loop-item.yielded_by c.next.result c.next.new.self c.in-None.is c.next.ensures.steps in
    let gone : map item_of c.loop-item.yielded ≡ map item_of items.items = ap (map item_of) (sym (map-id c.loop-item.yielded) ∙ all.0) in
    let so_far = c.loop-item.invariant in (
      so_far.0,
      so_far.1,
      λ fixed. ap (asked_items fs c.args.path.now) (lists.2 fixed) ∙ ap Ok (sym (so_far.2 fixed ∙ ap (map (asked_item fs c.args.path.now)) (gone ∙ took))),
    )
