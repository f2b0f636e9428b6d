-- Values that may be unknown.
use Rattle.std.specs.Prelude.{Bool, false, not, Option, Some}

-- whether both are known and differ
abbrev pub differ : {X : Type 0} → (X → X → Bool) → Option X → Option X → Bool
differ same (Some a) (Some b) = not (same a b)
differ same _ _ = false
