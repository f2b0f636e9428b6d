use Rattle.std.proofs.Common.{◌≡◌, ◌++◌, map, length}
use Rattle.jwalk_model.specs.Paths.{normalised}
use Rattle.jwalk_model.specs.PathTexts.{component_seen}
use Rattle.jwalk_fs.specs.Place.{IsCountable, left_of}
use Rattle.jwalk_fs.proofs.place.Place.new.Given as goal

-- what was taken off, and what is left, is the whole path
abbrev pub invariant-loop-last : goal.invariant-loop-last
invariant-loop-last g l = IsCountable l.rest × (map component_seen l.components.items ++ left_of l.rest ≡ normalised l.path)

abbrev pub decreases-loop-last : goal.decreases-loop-last
decreases-loop-last g l = length (left_of l.rest)
