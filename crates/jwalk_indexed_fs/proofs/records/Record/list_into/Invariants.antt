use Rattle.jwalk_fs.specs.Views.{TakesAll}
use Rattle.jwalk_indexed_fs.proofs.RecordFacts.{given}
use Rattle.jwalk_indexed_fs.proofs.records.Record.list_into.Given as goal

-- the sink took the names that were gone over
abbrev pub invariant-loop-name : goal.invariant-loop-name
invariant-loop-name g l = TakesAll g.K.Sink.Took (given l.yielded) l.initial.sink l.sink
