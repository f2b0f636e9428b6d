use Rattle.std.proofs.Common.{◌≡◌, rules}
use Rattle.std.specs.Ordering.{is_lt}
use Rattle.std.proofs.lemmas.List.Sorted.{answers_always}
use Rattle.jwalk_indexed_fs.specs.Item.{item_of}
use Rattle.jwalk_indexed_fs.specs.Listing.{listed_before}
use Rattle.jwalk_indexed_fs.proofs.OrderFacts.{order-through, in_order-map}
use Rattle.jwalk_indexed_fs.proofs.typed.sorted.Goals as goal

pub returns : goal.returns
returns g c =
    let compares = answers_always _ (λ a r. is_lt r ≡ listed_before (item_of a.0.now) (item_of a.1.0.now)) _ (λ q a r q' k. search rules) in
    in_order-map item_of _ _
    (c.in_ok-sort_by.ensures.sorted _ (order-through item_of) compares)
    (c.in_ok-sort_by.ensures.stable _ (order-through item_of) compares)
