use Rattle.std.proofs.Common.{◌<◌, ◌≤◌, length, drop}
use Rattle.std.specs.Prelude.{All}
use Rattle.tally_text.specs.Nodes.{depth_of}
use Rattle.tally_text.proofs.nodes.first_deeper.Given as goal

abbrev pub invariant-loop-first : goal.invariant-loop-first
invariant-loop-first l =
    (l.first ≤ length l.fn.trees) × All (λ tree. l.fn.depth < depth_of tree) (drop l.first l.fn.trees)

abbrev pub decreases-loop-first : goal.decreases-loop-first
decreases-loop-first l = l.first
