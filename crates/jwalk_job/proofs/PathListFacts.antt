-- Lists of texts are compared by their bytes.
use Rattle.std.proofs.Common.{◌≡◌, ℕ, List, [], ◌∷◌, Bool, ◌&&◌, map, nat_eq, refl, ap, ◌∙◌}
use Rattle.std.specs.Bool.{Decides}
use Rattle.std.specs.Cmp.Lexicographic.{pointwise}
use Rattle.std.proofs.lemmas.Bool.Decides.{Decides-eqb}
use Rattle.std.proofs.lemmas.Slice.Eq.{slice_eq-Decides}

module _ {X : Type 0} (f : X → List ℕ) where
  bytes_pointwise : (l m : List X) → pointwise (λ x y. pointwise nat_eq (f x) (f y)) l m ≡ pointwise (pointwise nat_eq) (map f l) (map f m)
  bytes_pointwise [] [] = refl
  bytes_pointwise [] (y ∷ ys) = refl
  bytes_pointwise (x ∷ xs) [] = refl
  bytes_pointwise (x ∷ xs) (y ∷ ys) = ap (λ t. pointwise nat_eq (f x) (f y) && t) (bytes_pointwise xs ys)

  -- they are the same exactly if the comparison says so
  pub same_texts : (l m : List X) (a b : List (List ℕ)) (r : Bool) → r ≡ pointwise (λ x y. pointwise nat_eq (f x) (f y)) l m → map f l ≡ a → map f m ≡ b → Decides r (a ≡ b)
  same_texts l m a b r e p q =
      rw (← p, ← q) (slice_eq-Decides (λ x y. slice_eq-Decides Decides-eqb x y _ refl) (map f l) (map f m) r (e ∙ bytes_pointwise l m))
