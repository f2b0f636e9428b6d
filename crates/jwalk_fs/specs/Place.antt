-- What a normalised path and what is left of one are as components, the last first.
use Rattle.std.specs.Prelude.{◌<◌, ◌+◌, ◌^◌, List, [], map, length, fold}
use Rattle.std.specs.Fn.{iterate}
use Rattle.std.specs.Path.{components_remaining}
use Rattle.jwalk_model.specs.Paths.{Component, after_one, after_up}
use Rattle.jwalk_model.specs.PathTexts.{component_seen, components_left}
use Rattle.jwalk_fs.specs.declared.place.Place.{Place}
use Rattle.jwalk_fs.specs.declared.place.Rest.{Rest}

-- the components
abbrev pub place_seen : {A : Type 0} → Place A → List Component
place_seen place = map component_seen place.components.items

-- what is left: the front, normalised, and the `..`s after it
abbrev pub left_of : Rest → List Component
left_of rest = iterate after_up rest.ups (fold after_one [] (components_left rest.front))

-- No count of `..`s is too large for a `usize`.
abbrev pub IsCountable : Rest → Type 0
IsCountable rest = rest.ups + length (components_remaining rest.front) < 2 ^ 64
