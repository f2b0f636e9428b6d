-- Texts that are no line of a tree.
use Rattle.std.proofs.Common.{◌≡◌, ◌≢◌, ℕ, List, [], ◌∷◌, ◌++◌, inl, inr, drop, codes, sym, ap, subst, ◌∙◌, arith}
use Rattle.walk_text.specs.TreeLine.{HasSizedPath, HasLinkedPath, IsTreeLine}

-- a text begins with only one letter
one_letter : (text : List ℕ) (a b : ℕ) (xs ys : List ℕ) → text ≡ a ∷ xs → text ≡ b ∷ ys → a ≡ b
one_letter text a b xs ys first second = cc

module _ (text rest : List ℕ) where
  pub no_dir : text ≡ codes "d " ++ rest → rest ≡ [] → ¬ (IsTreeLine text)
  no_dir is empty (inl (path, (begins, some))) = some (ap (drop 2) (sym begins ∙ is) ∙ empty)
  no_dir is empty (inr (inl (r, begins, has))) = absurd (omega (arith, one_letter text 100 102 _ _ is begins))
  no_dir is empty (inr (inr (inl (r, begins, has)))) = absurd (omega (arith, one_letter text 100 108 _ _ is begins))
  no_dir is empty (inr (inr (inr (path, (begins, some))))) = absurd (omega (arith, one_letter text 100 120 _ _ is begins))

  pub no_deny : text ≡ codes "x " ++ rest → rest ≡ [] → ¬ (IsTreeLine text)
  no_deny is empty (inl (path, (begins, some))) = absurd (omega (arith, one_letter text 120 100 _ _ is begins))
  no_deny is empty (inr (inl (r, begins, has))) = absurd (omega (arith, one_letter text 120 102 _ _ is begins))
  no_deny is empty (inr (inr (inl (r, begins, has)))) = absurd (omega (arith, one_letter text 120 108 _ _ is begins))
  no_deny is empty (inr (inr (inr (path, (begins, some))))) = some (ap (drop 2) (sym begins ∙ is) ∙ empty)

  pub no_link : text ≡ codes "l " ++ rest → ¬ (HasLinkedPath rest) → ¬ (IsTreeLine text)
  no_link is none (inl (path, (begins, some))) = absurd (omega (arith, one_letter text 108 100 _ _ is begins))
  no_link is none (inr (inl (r, begins, has))) = absurd (omega (arith, one_letter text 108 102 _ _ is begins))
  no_link is none (inr (inr (inl (r, begins, has)))) = none (subst HasLinkedPath (ap (drop 2) (sym begins ∙ is)) has)
  no_link is none (inr (inr (inr (path, (begins, some))))) = absurd (omega (arith, one_letter text 108 120 _ _ is begins))

  pub no_file : text ≡ codes "f " ++ rest → ¬ (HasSizedPath rest) → ¬ (IsTreeLine text)
  no_file is none (inl (path, (begins, some))) = absurd (omega (arith, one_letter text 102 100 _ _ is begins))
  no_file is none (inr (inl (r, begins, has))) = none (subst HasSizedPath (ap (drop 2) (sym begins ∙ is)) has)
  no_file is none (inr (inr (inl (r, begins, has)))) = absurd (omega (arith, one_letter text 102 108 _ _ is begins))
  no_file is none (inr (inr (inr (path, (begins, some))))) = absurd (omega (arith, one_letter text 102 120 _ _ is begins))

-- a text with none of the four beginnings
pub no_beginning : (text : List ℕ) → ((rest : List ℕ) → text ≢ codes "d " ++ rest) → ((rest : List ℕ) → text ≢ codes "x " ++ rest) → ((rest : List ℕ) → text ≢ codes "l " ++ rest) → ((rest : List ℕ) → text ≢ codes "f " ++ rest) → ¬ (IsTreeLine text)
no_beginning text no_d no_x no_l no_f (inl (path, (begins, some))) = no_d path begins
no_beginning text no_d no_x no_l no_f (inr (inl (rest, begins, has))) = no_f rest begins
no_beginning text no_d no_x no_l no_f (inr (inr (inl (rest, begins, has)))) = no_l rest begins
no_beginning text no_d no_x no_l no_f (inr (inr (inr (path, (begins, some))))) = no_x path begins
