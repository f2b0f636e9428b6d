-- Where a slash is put at the end of a path.
use Rattle.std.proofs.Common.{◌≡◌, ◌≢◌, ℕ, suc, ◌-◌, ◌<◌, List, [], ◌∷◌, ◌++◌, length, get_or, refl, sym, ap, ◌∙◌, arith, ne_eqb, eq-eqb}
use Rattle.std.proofs.lemmas.Bool.{cond-true, cond-false}
use Rattle.jwalk_model.specs.Paths.{slash, with_slash}

last_of_longer : (c d : ℕ) (cs : List ℕ) → get_or (c ∷ d ∷ cs) (length (c ∷ d ∷ cs) - 1) 0 ≡ get_or (d ∷ cs) (length (d ∷ cs) - 1) 0
last_of_longer c d cs = ap (λ k. get_or (c ∷ d ∷ cs) k 0) {x = length (c ∷ d ∷ cs) - 1} {y = suc (length (d ∷ cs) - 1)} (omega arith)

pub with_slash_kept : (text : List ℕ) → get_or text (length text - 1) 0 ≡ slash → text ++ [] ≡ with_slash text
with_slash_kept [] e = refl
with_slash_kept (c ∷ []) e = sym (cond-true _ _ _ (eq-eqb c slash e))
with_slash_kept (c ∷ d ∷ cs) e = ap (λ l. c ∷ l) (with_slash_kept (d ∷ cs) (sym (last_of_longer c d cs) ∙ e))

pub with_slash_added : (text : List ℕ) → 0 < length text → get_or text (length text - 1) 0 ≢ slash → text ++ slash ∷ [] ≡ with_slash text
with_slash_added [] some h = absurd (omega arith)
with_slash_added (c ∷ []) some h = sym (cond-false _ _ _ (ne_eqb c slash h))
with_slash_added (c ∷ d ∷ cs) some h = ap (λ l. c ∷ l) (with_slash_added (d ∷ cs) (omega arith) (λ e. h (last_of_longer c d cs ∙ e)))
