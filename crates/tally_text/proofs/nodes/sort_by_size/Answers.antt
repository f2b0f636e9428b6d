use Rattle.std.proofs.Common.{rules}
use Rattle.std.proofs.lemmas.Result.{on_ok_weaker}
use Rattle.std.proofs.lemmas.List.Sorted.{answers_always}
use Rattle.tally_text.specs.Nodes.{bytes_of}
use Rattle.tally_text.proofs.nodes.sort_by_size.Goals as goal

pub returns : goal.returns
returns c =
    on_ok_weaker c.sort_by_key.result
    (λ sorted. record {
      same = c.sort_by_key.ensures.permutation;
      sorted = sorted (λ node. record { 0 = bytes_of node }) (answers_always _ _ _ (λ f a r q k. search rules));
      stable = c.sort_by_key.ensures.stable (λ node. record { 0 = bytes_of node }) (answers_always _ _ _ (λ f a r q k. search rules));
    })
    c.sort_by_key.ensures.sorted
