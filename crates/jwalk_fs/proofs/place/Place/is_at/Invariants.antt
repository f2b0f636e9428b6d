use Rattle.std.proofs.Common.{◌≡◌, map, drop}
use Rattle.jwalk_model.specs.Paths.{components_eq, normalised}
use Rattle.jwalk_model.specs.PathTexts.{component_seen}
use Rattle.jwalk_fs.specs.Place.{IsCountable, left_of, place_seen}
use Rattle.jwalk_fs.proofs.place.Place.is_at.Given as goal

-- what is left of both is the same exactly if the two are
abbrev pub invariant-loop-component : goal.invariant-loop-component
invariant-loop-component g l =
    IsCountable l.rest × (components_eq (map component_seen (drop l.component-index l.component-items)) (left_of l.rest) ≡ components_eq (place_seen l.self) (normalised l.path))
