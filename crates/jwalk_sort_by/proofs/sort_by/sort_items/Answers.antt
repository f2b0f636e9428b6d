use Rattle.std.proofs.Common.{◌≡◌, rules}
use Rattle.std.specs.Ordering.{is_lt}
use Rattle.std.proofs.lemmas.Fn.{always_returns_same}
use Rattle.std.proofs.lemmas.Result.{on_ok_weaker}
use Rattle.jwalk_sort_by.specs.SortBy.{goes_before}
use Rattle.jwalk_sort_by.proofs.SortFacts.{gives_before, goes_before-order, ordered_unique}
use Rattle.jwalk_sort_by.proofs.sort_by.sort_items.Goals as goal

pub returns-clause-ordered : goal.returns-clause-ordered
returns-clause-ordered g c =
    on_ok_weaker c.sort_by.result
    (λ up less o by.
    let compares = always_returns_same _ (λ a r. is_lt r ≡ goes_before less a.0.now a.1.0.now) _ (λ a r q k. (gives_before _ less by _ _ r (search rules), search rules)) in
    ordered_unique less o _ _ (up _ (goes_before-order less o) compares) (c.sort_by.ensures.stable _ (goes_before-order less o) compares))
    c.sort_by.ensures.sorted
