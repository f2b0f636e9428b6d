-- The readings of specifications and of all that is below them, parents first.
use Rattle.std.specs.Prelude.{ℕ, zero, suc, ◌-◌, List, [], ◌∷◌, flat_map}
use Rattle.jwalk_model.specs.ReadDir.{Spec, Outcome, children_of}

module _ {R E : Type 0} (reading : Spec R → Outcome R E) where
  -- the reading of a specification, followed by those of its children, for n levels below it
  unfoldable pub readings : ℕ → Spec R → List (Outcome R E)
  readings zero spec = reading spec ∷ []
  readings (suc levels) spec = reading spec ∷ flat_map (readings levels) (children_of (reading spec))

  -- the readings of these specifications, each before those of its children
  abbrev pub preorder : ℕ → List (Spec R) → List (Outcome R E)
  preorder max_depth = flat_map (λ spec. readings (max_depth - spec.depth) spec)
