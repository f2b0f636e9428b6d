-- What a function makes of a list, empty or not.
use Rattle.std.proofs.Common.{◌≡◌, ◌≢◌, List, [], ◌∷◌, ◌==◌, true, false, length, map, refl, arith}
use Rattle.std.proofs.lemmas.Bool.{eqb-true}

pub map-none : {X Y : Type 0} (f : X → Y) (xs : List X) → (length xs == 0) ≡ true → map f xs ≡ []
map-none f [] none = refl
map-none f (x ∷ xs) none = absurd (omega (arith, eqb-true (length (x ∷ xs)) 0 none))

pub map-some : {X Y : Type 0} (f : X → Y) (xs : List X) → (length xs == 0) ≡ false → map f xs ≢ []
map-some f [] some = λ _. cc
map-some f (x ∷ xs) some = λ e. cc
