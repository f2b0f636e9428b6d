use Rattle.std.proofs.Common.{◌≡◌, length}
use Rattle.std.specs.Path.{components_remaining}
use Rattle.jwalk_fs.specs.Place.{IsCountable, left_of}
use Rattle.jwalk_fs.proofs.place.Rest.take_last.Given as goal

-- the same is left as at first, of fewer components
abbrev pub invariant-loop-last : goal.invariant-loop-last
invariant-loop-last l = IsCountable l.self × (left_of l.self ≡ left_of l.fn.self)

abbrev pub decreases-loop-last : goal.decreases-loop-last
decreases-loop-last l = length (components_remaining l.self.front)
