-- The ends of texts.
use Rattle.std.proofs.Common.{◌≡◌, ℕ, Bool, true, false, ◌↔◌, IsTrue, List, [], ◌∷◌, ◌||◌, map, bytes_eq, sym, ap, refl}
use Rattle.std.specs.Bool.{Decides}
use Rattle.std.specs.List.{list_any}
use Rattle.std.specs.Char.{to_ascii_lowercase}
use Rattle.std.proofs.lemmas.Slice.Eq.{bytes_eq-Decides}

same_test : (a b : Bool) (P : Type 0) → Decides b P → IsTrue a ↔ P → a ≡ b
same_test true true P decides is = refl
same_test false false P decides is = refl
same_test true false P decides is = sym (decides.1 (is.0 refl))
same_test false true P decides is = is.1 (decides.0 refl)

-- whether two texts are equal but for the case of letters
pub same_folded : (cs ds : List ℕ) (b : Bool) → IsTrue b ↔ (map to_ascii_lowercase cs ≡ map to_ascii_lowercase ds) → b ≡ bytes_eq (map to_ascii_lowercase cs) (map to_ascii_lowercase ds)
same_folded cs ds b test = same_test b _ _ (bytes_eq-Decides (map to_ascii_lowercase cs) (map to_ascii_lowercase ds)) test

-- a test of mapped elements
pub list_any-map : {X Y : Type 0} (f : X → Y) (p : Y → Bool) (xs : List X) → list_any p (map f xs) ≡ list_any (λ x. p (f x)) xs
list_any-map f p [] = refl
list_any-map f p (x ∷ xs) = ap (λ b. p (f x) || b) (list_any-map f p xs)
