-- Specifications and their clones.
use Rattle.std.proofs.Common.{◌≡◌, ℕ, suc, List, [], ◌∷◌, ◌++◌, map, length, refl, ap, ◌∙◌}
use Rattle.jwalk_model.specs.ReadDir.{Spec, IsClone, AreClones}
use Rattle.jwalk_model.specs.Counted.{spec_by}

abbrev pub depths : {R : Type 0} → List (Spec R) → List ℕ
depths = map (λ s. s.depth)

module _ {R : Type 0} (is_clone : R → R → Type 0) where
  -- clones are as deep
  pub same_depths : (specs clones rest : List (Spec R)) → AreClones is_clone specs clones → depths (clones ++ rest) ≡ depths (specs ++ rest)
  same_depths [] [] rest h = refl
  same_depths [] (c ∷ clones) rest h = absurd h
  same_depths (s ∷ specs) [] rest h = absurd h
  same_depths (s ∷ specs) (c ∷ clones) rest h = rw h.0.0 (ap (λ l. s.depth ∷ l) (same_depths specs clones rest h.1))

  -- and as many
  pub same_length : (specs clones : List (Spec R)) → AreClones is_clone specs clones → length clones ≡ length specs
  same_length [] [] h = refl
  same_length [] (c ∷ clones) h = absurd h
  same_length (s ∷ specs) [] h = absurd h
  same_length (s ∷ specs) (c ∷ clones) h = ap suc (same_length specs clones h.1)

  module _ {V : Type 0} (view : R → V) (kept : (x y : R) → is_clone x y → view y ≡ view x) where
    one_counted : (s c : Spec R) → IsClone is_clone s c → spec_by view c ≡ spec_by view s
    one_counted s c h = rw (h.0, kept s.state c.state h.1) refl

    -- where a view of a state is that of its clones, clones count as their originals
    pub counted_clones : (specs clones : List (Spec R)) → AreClones is_clone specs clones → map (spec_by view) clones ≡ map (spec_by view) specs
    counted_clones [] [] h = refl
    counted_clones [] (c ∷ clones) h = absurd h
    counted_clones (s ∷ specs) [] h = absurd h
    counted_clones (s ∷ specs) (c ∷ clones) h = ap (λ x. x ∷ map (spec_by view) clones) (one_counted s c h.0) ∙ ap (λ l. spec_by view s ∷ l) (counted_clones specs clones h.1)
