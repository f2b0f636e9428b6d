use Rattle.std.proofs.Common.{◌≡◌, ◌++◌, [], ◌∙◌, Ok, map, ap, sym, append-nil}
use Rattle.jwalk_indexed_fs.specs.Item.{item_of}
use Rattle.jwalk_indexed_fs.specs.Listing.{bare, in_order, typed_answer}
use Rattle.jwalk_indexed_fs.proofs.typed.list.Goals as goal

pub returns : goal.returns
returns g c = λ fixed.
    let taken = c.in_ok-read_dir_into.ensures.taken in
    let empty : map item_of c.new-typed.result.items.items ≡ [] = ap (map item_of) c.new-typed.ensures in
    let took : map item_of c.read_dir_into.new.sink.items.items ≡ map bare taken.0 =
    taken.1 c.new-typed.result [] (sym (append-nil (map item_of c.new-typed.result.items.items))) ∙ ap (λ l. l ++ map bare taken.0) empty in
    ap typed_answer (taken.2 fixed) ∙ ap Ok (sym (c.in_ok-sorted.ensures ∙ ap in_order took))
