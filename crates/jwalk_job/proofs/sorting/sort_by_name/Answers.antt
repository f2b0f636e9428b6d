use Rattle.std.proofs.Common.{◌≡◌, ◌∙◌, rules}
use Rattle.std.specs.Ordering.{is_lt}
use Rattle.std.proofs.lemmas.List.Sorted.{answers_always}
use Rattle.std.proofs.lemmas.Result.{on_ok_weaker}
use Rattle.jwalk_model.specs.Sorting.{stands_before}
use Rattle.jwalk_model.proofs.SortingFacts.{stands_before-through, arranged-map}
use Rattle.jwalk_job.specs.Entry.{item}
use Rattle.jwalk_job.proofs.sorting.sort_by_name.Goals as goal

pub returns : goal.returns
returns g c =
    let compares = answers_always _ (λ a r. is_lt r ≡ stands_before (item a.0.now) (item a.1.0.now)) _ (λ q a r q' k. search rules) in
    on_ok_weaker c.sort_by.result
    (λ up. arranged-map item _ _
    (up _ (stands_before-through item) compares)
    (λ x. c.sort_by.ensures.stable _ (stands_before-through item) compares x ∙ c.in_ok-sort_by_beginnings.ensures x))
    c.sort_by.ensures.sorted
