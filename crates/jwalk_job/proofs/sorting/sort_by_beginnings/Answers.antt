use Rattle.std.proofs.Common.{◌≡◌, rules}
use Rattle.std.proofs.lemmas.Fn.{always_returns_same}
use Rattle.std.proofs.lemmas.Result.{on_ok_weaker}
use Rattle.jwalk_job.specs.Entry.{item}
use Rattle.jwalk_job.specs.Sorting.{key_of}
use Rattle.jwalk_job.proofs.TieFacts.{ties_kept}
use Rattle.jwalk_job.proofs.sorting.sort_by_beginnings.Goals as goal

pub returns : goal.returns
returns g c =
    let from = c.shared_length-from.result in
    on_ok_weaker c.sort_by_cached_key.result
    (λ up. ties_kept from item _ _
    (c.sort_by_cached_key.ensures.stable (λ x. key_of from (item x)) (always_returns_same _ (λ a r. r ≡ key_of from (item a.0.now)) _ (λ a r q k. search rules))))
    c.sort_by_cached_key.ensures.sorted
