use Rattle.std.proofs.Common.{◌≡◌, ◌++◌, map, drop}
use Rattle.serde_json.specs.View.{view}
use Rattle.tally_text.specs.Document.{data_of}
use Rattle.tally_text.proofs.document.+values_of.Given as goal

abbrev pub invariant-loop-node : goal.invariant-loop-node
invariant-loop-node l = map view l.values.items ++ map data_of (drop l.node-index l.nodes) ≡ map data_of l.fn.nodes
