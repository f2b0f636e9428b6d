-- The sizes of nodes.
use Rattle.std.proofs.Common.{◌≡◌, ℕ, ◌+◌, ◌-◌, ◌^◌, ◌≤◌, List, length, min, drop, sum_by, ap, arith}
use Rattle.std.proofs.lemmas.List.{drop_all}
use Rattle.tally_text.specs.Nodes.{bytes_of}
use Rattle.tally_text.specs.declared.node.Node.{Node}

-- once no node is left, the sum is known
pub rest_known : (nodes : List Node) (i bytes : ℕ) → length nodes ≤ i → bytes ≤ 2 ^ 128 - 1 → min (bytes + sum_by bytes_of (drop i nodes)) (2 ^ 128 - 1) ≡ min (sum_by bytes_of nodes) (2 ^ 128 - 1)
    → bytes ≡ min (sum_by bytes_of nodes) (2 ^ 128 - 1)
rest_known nodes i bytes over most known =
    let none : sum_by bytes_of (drop i nodes) ≡ 0 = ap (sum_by bytes_of) (drop_all i nodes over) in
    omega (arith, none, known, most)
