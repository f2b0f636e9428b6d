use Rattle.std.proofs.Common.{subst}
use Rattle.std.specs.Iterator.{Drains}
use Rattle.std.proofs.lemmas.Result.{IfOk-weaker}
use Rattle.jwalk_contents_first.proofs.WholeFacts.{all_yielded}
use Rattle.example_contents_first.proofs.removal_order.Goals as goal

pub returns : goal.returns
returns g c =
    let made = c.contents_first-behind.ensures in
    let next = g.I.Iterator.next_gives in
    IfOk-weaker c.take_all.result _ _
    (λ all calls none.
    let all_of = all_yielded next c.contents_first-behind.result c.take_all.new.answers all.items made.fresh calls none in
    (all_of.0, subst (λ i. Drains next i all_of.0) made.answers all_of.1, all_of.2))
    c.take_all.ensures
