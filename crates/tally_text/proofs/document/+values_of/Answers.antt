use Rattle.std.proofs.Common.{◌≡◌, ◌∙◌, ◌∷◌, ◌+◌, List, drop, map, ap, sym}
use Rattle.std.proofs.lemmas.List.{drop_more}
use Rattle.tally_text.specs.Document.{data_of}
use Rattle.tally_text.specs.declared.node.Node.{Node}
use Rattle.tally_text.proofs.DocumentFacts.{one_value}
use Rattle.tally_text.proofs.document.+values_of.Goals as goal

pub loop-node-preserved : goal.loop-node-preserved
loop-node-preserved t c =
    let items : List Node = c.args.nodes.now in
    let i = c.loop-node.node-index in
    let node = c.node-item.result in
    let step : drop i items ≡ node ∷ drop (i + 1) items = drop_more items i node c.loop-node-test.true ∙ ap (λ x. x ∷ drop (i + 1) items) (sym c.node-item.is) in
    one_value node (drop (i + 1) items) c.in_ok-value_of.field-0 c.loop-node.values.items c.push.new.list.items c.in_ok-children.children.items (map data_of items) c.in_ok-push.ensures.ok c.in_ok-value_of.ensures
    (c.in_ok-children.ensures ∙ ap (map data_of) c.as_slice.ensures.value) (rw step at c.loop-node.invariant)
