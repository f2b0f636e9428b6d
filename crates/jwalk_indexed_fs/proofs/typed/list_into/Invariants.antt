use Rattle.std.proofs.Common.{map}
use Rattle.jwalk_fs.specs.Views.{TakesAll}
use Rattle.jwalk_indexed_fs.specs.Item.{item_of}
use Rattle.jwalk_indexed_fs.proofs.typed.list_into.Given as goal

-- the sink took the items that were gone over
abbrev pub invariant-loop-item : goal.invariant-loop-item
invariant-loop-item g l = TakesAll g.K.Sink.Took (map item_of l.yielded) l.initial.sink l.sink
