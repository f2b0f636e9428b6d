use Rattle.std.proofs.Common.{◌≡◌, ◌++◌, List}
use Rattle.jwalk_model.specs.FileSystem.{Listed}
use Rattle.jwalk_fs.specs.Views.{TakesAll}
use Rattle.jwalk_memory_fs.specs.Branch.{listing_of}
use Rattle.jwalk_memory_fs.proofs.DirectoryLemmas.{named}
use Rattle.jwalk_memory_fs.proofs.directory.Directory.list_into.Given as goal

-- the sink took the children that were gone over
abbrev pub invariant-loop-name : goal.invariant-loop-name
invariant-loop-name g l =
    (given : List Listed) × TakesAll g.K.Sink.Took given l.initial.sink l.sink × (given ++ listing_of (named l.name-iterator) ≡ listing_of (named l.self.children.entries))
