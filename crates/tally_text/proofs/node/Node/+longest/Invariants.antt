use Rattle.std.proofs.Common.{◌≡◌, max, map, drop}
use Rattle.tally_text.specs.Table.{longest_of, most_of}
use Rattle.tally_text.proofs.node.Node.+longest.Given as goal

abbrev pub invariant-loop-child : goal.invariant-loop-child
invariant-loop-child l = max l.longest (most_of (map longest_of (drop l.child-index l.child-items))) ≡ longest_of l.self
