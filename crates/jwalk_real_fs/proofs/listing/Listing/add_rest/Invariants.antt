use Rattle.std.proofs.Common.{List}
use Rattle.jwalk_model.specs.FileSystem.{Listed}
use Rattle.jwalk_real_fs.specs.Listing.{IsAsked, TakesEach}
use Rattle.jwalk_real_fs.proofs.ReadFacts.{SoFar}
use Rattle.jwalk_real_fs.proofs.listing.Listing.add_rest.Given as goal

-- the sink took the items of what was read
abbrev pub invariant-loop : goal.invariant-loop
invariant-loop g l = (items : List Listed) × SoFar (g.R.Dir.Read.remaining l.initial.names) (g.R.Dir.Read.remaining l.names) items × TakesEach (IsAsked g.R.DiskCalls l.rt l.dir) g.K.Sink.Took items l.initial.sink l.sink
