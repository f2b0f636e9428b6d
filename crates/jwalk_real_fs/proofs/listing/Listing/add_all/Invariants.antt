use Rattle.std.proofs.Common.{◌≡◌, ◌++◌, ℕ, List, length}
use Rattle.jwalk_real_fs.specs.Texts.{children}
use Rattle.jwalk_real_fs.specs.Listing.{Adds, IsAsked}
use Rattle.jwalk_real_fs.proofs.listing.Listing.add_all.Given as goal

-- the items so far are those of the names that were gone over
abbrev pub invariant-loop-left : goal.invariant-loop-left
invariant-loop-left g l =
    (gone : List (List ℕ)) × (Adds (IsAsked g.R.DiskCalls l.rt l.dir) g.K.Sink.Took gone l.initial.sink l.sink × (children l.names ≡ gone ++ children l.left))

abbrev pub decreases-loop-left : goal.decreases-loop-left
decreases-loop-left g l = length l.left
