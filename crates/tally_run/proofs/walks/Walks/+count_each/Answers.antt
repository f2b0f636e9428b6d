use Rattle.std.proofs.Common.{arith, length}
use Rattle.program_parts.specs.Values.{texts_of}
use Rattle.tally_run.proofs.RootFacts.{many_as, none_counted, ok_with, one_counted, one_text, others_counted, texts_few, texts_some, texts_then}
use Rattle.tally_run.proofs.walks.Walks.+count_each.Goals as goal

pub returns-in-empty : goal.returns-in-empty
returns-in-empty g t c = none_counted (texts_of c.args.roots.now) (texts_few c.args.roots.now c.in-empty.len_below) _ _ _

pub returns-in-len1 : goal.returns-in-len1
returns-in-len1 g t c =
    ok_with c.count_root.result
    (λ counted first counts. many_as (one_text c.args.roots.now _ c.in-len1.len_at_least c.in-len1.len_below)
    (one_counted _ _ _ _ _ _ counted (length c.args.known.now.counted.items) first counts))
    c.count_root.ensures.first c.count_root.ensures.counts

pub returns-in_ok-more-in_default : goal.returns-in_ok-more-in_default
returns-in_ok-more-in_default g t c =
    let parts = c.split_at.result in
    many_as (texts_then c.args.roots.now parts.0.now parts.1.now c.split_at.ensures.by_index.0)
    (others_counted (texts_of parts.0.now) (texts_of parts.1.now) _ _ _ _ _ _ _ _ _ _ _ (texts_some parts.0.now (omega (arith, c.in_default.len_at_least, c.split_at.ensures.front_len))) c.in_ok-counted-in_default.ensures c.in_ok-more-in_default.ensures)
