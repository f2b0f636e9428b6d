use Rattle.std.proofs.Common.{◌≡◌, ◌++◌, map, drop}
use Rattle.std.specs.List.{concat}
use Rattle.tally_text.specs.Table.{rows_of}
use Rattle.tally_text.specs.declared.node.Node.TheViews.{out-Node}
use Rattle.tally_text.proofs.node.Node.+push_below.Given as goal

abbrev pub invariant-loop-child : goal.invariant-loop-child
invariant-loop-child l =
    l.out.items ++ concat (map (rows_of l.layout) (drop l.child-index l.child-items)) ≡ l.fn.out.items ++ concat (map (rows_of l.layout) (out-Node l.self).children.items)
