use Rattle.std.proofs.Common.{◌≡◌, List, map}
use Rattle.jwalk_model.specs.FileSystem.{Listed}
use Rattle.jwalk_fs.specs.Views.{TakesAll}
use Rattle.jwalk_indexed_fs.specs.Asking.{asked_item}
use Rattle.jwalk_indexed_fs.specs.Item.{item_of}
use Rattle.jwalk_indexed_fs.proofs.asking_fs.AskingFs.list_asked.Given as goal

-- the sink took the items that were gone over, with what asking for their names returned
abbrev pub invariant-loop-item : goal.invariant-loop-item
invariant-loop-item g l =
    (items : List Listed) × TakesAll g.K.Sink.Took items l.initial.sink l.sink
    × (g.S.FileSystem.IsFixed l.self.fs → items ≡ map (asked_item (g.S.FileSystem.functions l.self.fs) l.path) (map item_of l.yielded))
