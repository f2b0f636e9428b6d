use Rattle.std.proofs.Common.{◌≡◌, ◌∙◌, ◌∷◌, ◌+◌, List, drop, ap, sym}
use Rattle.std.proofs.lemmas.List.{drop_more}
use Rattle.tally_text.specs.declared.node.Node.{Node}
use Rattle.tally_text.proofs.TableFacts.{one_more}
use Rattle.tally_text.proofs.node.Node.+push_below.Goals as goal

pub loop-child-preserved : goal.loop-child-preserved
loop-child-preserved t c =
    let items : List Node = c.deref-child-items.result.now in
    let i = c.loop-child.child-index in
    let child = c.child-item.result in
    let step : drop i items ≡ child ∷ drop (i + 1) items = drop_more items i child c.loop-child-test.true ∙ ap (λ x. x ∷ drop (i + 1) items) (sym c.child-item.is) in
    one_more c.args.layout.now child (drop (i + 1) items) c.loop-child.out.items _ c.push_below.new.out.items _ c.in_ok-push_own.ensures c.in_ok-push_below.ensures
    (rw step at c.loop-child.invariant)
