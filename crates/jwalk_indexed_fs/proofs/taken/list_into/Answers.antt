use Rattle.std.proofs.Common.{◌≡◌, ◌++◌, [], ◌∙◌, List, Ok, map, ap, sym, append-nil}
use Rattle.jwalk_model.specs.FileSystem.{Listed}
use Rattle.jwalk_indexed_fs.specs.Item.{item_of}
use Rattle.jwalk_indexed_fs.specs.Listing.{in_order}
use Rattle.jwalk_indexed_fs.specs.Taken.{IsKeptOf}
use Rattle.jwalk_indexed_fs.proofs.TakenFacts.{if_some, is_record_of}
use Rattle.jwalk_indexed_fs.proofs.taken.list_into.Goals as goal

pub returns-clause-taken : goal.returns-clause-taken
returns-clause-taken g c =
    let lists = c.in_ok-read_dir_into.ensures.taken in
    let before = c.new-listing.result in
    let items : List Listed = map item_of c.read_dir_into.new.sink.items.items in
    let empty : map item_of before.items.items ≡ [] = ap (map item_of) c.new-listing.ensures in
    let took : items ≡ lists.0 = lists.1 before [] (sym (append-nil (map item_of before.items.items))) ∙ ap (λ l. l ++ lists.0) empty in (
      items,
      c.in_ok-names.ensures.given,
      record {
        names = c.in_ok-names-2.ensures ∙ ap in_order c.in_ok-names.ensures.names;
        whole = λ s has. sym c.in_ok-names.ensures.whole ∙ (if_some c.in_ok-names.field-0.is_whole c.in_ok-stamp.stamp s (sym c.stamp_of_whole.ensures ∙ has)).0;
        settled = λ s has. c.in_ok-stamp.ensures.settled s (if_some c.in_ok-names.field-0.is_whole c.in_ok-stamp.stamp s (sym c.stamp_of_whole.ensures ∙ has)).1;
      },
      λ fixed. lists.2 fixed ∙ ap Ok (sym took),
    )

pub returns-clause-is_of : goal.returns-clause-is_of
returns-clause-is_of g c = λ fixed.
    let taken = returns-clause-taken g c in
    is_record_of c.args.start (g.S.FileSystem.functions c.args.fs.now) c.args.path.now taken.0 (record { stamp = c.stamp_of_whole.result; names = c.in_ok-names-2.names }) taken.2 (taken.3 fixed)
    (λ s has. c.in_ok-stamp.ensures.is_there fixed s (if_some c.in_ok-names.field-0.is_whole c.in_ok-stamp.stamp s (sym c.stamp_of_whole.ensures ∙ has)).1)
