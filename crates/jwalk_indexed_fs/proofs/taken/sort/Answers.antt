use Rattle.std.proofs.Common.{◌≡◌, rules}
use Rattle.std.specs.Ordering.{is_lt}
use Rattle.std.proofs.lemmas.List.Sorted.{answers_always}
use Rattle.std.proofs.lemmas.Result.{on_ok_weaker}
use Rattle.jwalk_indexed_fs.specs.Listing.{listed_before}
use Rattle.jwalk_indexed_fs.specs.Taken.{item_typed}
use Rattle.jwalk_indexed_fs.proofs.OrderFacts.{order-through, in_order-map}
use Rattle.jwalk_indexed_fs.proofs.taken.sort.Goals as goal

pub returns : goal.returns
returns g c =
    let compares = answers_always _ (λ a r. is_lt r ≡ listed_before (item_typed a.0.now) (item_typed a.1.0.now)) _ (λ q a r q' k. search rules) in
    on_ok_weaker c.sort_by.result
    (λ up. in_order-map item_typed _ _ (up _ (order-through item_typed) compares) (c.sort_by.ensures.stable _ (order-through item_typed) compares))
    c.sort_by.ensures.sorted
