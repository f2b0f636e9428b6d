use Rattle.std.proofs.Common.{◌≡◌, ◌++◌, drop}
use Rattle.std.specs.Prelude.{flat_map}
use Rattle.tally_run.specs.Written.{table_of}
use Rattle.tally_run.proofs.run.tables_of.Given as goal

abbrev pub invariant-loop-root : goal.invariant-loop-root
invariant-loop-root l = l.text.items ++ flat_map (table_of l.asked l.screen) (drop l.root-index l.trees) ≡ flat_map (table_of l.fn.asked l.fn.screen) l.fn.trees
