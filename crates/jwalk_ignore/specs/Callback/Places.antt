-- The places of a directory's entries.
use Rattle.std.specs.Prelude.{◌≡◌, ℕ, List, [], ◌∷◌, ◌++◌, take, length}
use Rattle.jwalk_ignore.specs.declared.callback.places.Places.{Places}

-- The buffer begins with the place of the directory and a slash.
abbrev pub IsPlaced : {A : Type 0} → List ℕ → Places A → Type 0
IsPlaced place places = (take places.len places.bytes.items ≡ place ++ 47 ∷ []) × (places.len ≡ length (place ++ 47 ∷ []))

-- It is at the place of a name in that directory.
abbrev pub IsAt : {A : Type 0} → List ℕ → List ℕ → Places A → Type 0
IsAt place name places = places.bytes.items ≡ place ++ 47 ∷ name
