-- The names of paths, row by row.
use Rattle.std.specs.Prelude.{◌≡◌, [], ◌∷◌, codes, refl}
use Rattle.jwalk_ignore_rules.specs.Pattern.Names.{names_of}

row_empty : names_of [] ≡ []
row_empty = refl

row_one : names_of (codes "a") ≡ codes "a" ∷ []
row_one = refl

row_three : names_of (codes "a/bc/d") ≡ codes "a" ∷ codes "bc" ∷ codes "d" ∷ []
row_three = refl

row_slashes : names_of (codes "//a//b/") ≡ codes "a" ∷ codes "b" ∷ []
row_slashes = refl
