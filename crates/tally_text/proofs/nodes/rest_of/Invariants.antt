use Rattle.std.proofs.Common.{◌≡◌, ◌≤◌, ◌+◌, ◌-◌, ◌^◌, min, drop, sum_by}
use Rattle.tally_text.specs.Nodes.{bytes_of}
use Rattle.tally_text.proofs.nodes.rest_of.Given as goal

abbrev pub invariant-loop-node : goal.invariant-loop-node
invariant-loop-node l =
    (l.bytes ≤ 2 ^ 128 - 1) × (min (l.bytes + sum_by bytes_of (drop l.node-index l.nodes)) (2 ^ 128 - 1) ≡ min (sum_by bytes_of l.fn.nodes) (2 ^ 128 - 1))
