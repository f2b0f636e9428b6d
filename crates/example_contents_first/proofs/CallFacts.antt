-- One call more.
use Rattle.std.proofs.Common.{List, [], ◌∷◌, ◌++◌, Option, Some, refl, subst, sym}
use Rattle.std.specs.Iterator.{Yields}

pub one_called : {S X : Type 0} (steps : S → Option X → S → Type 0) (xs : List X) (x : X) (s t u : S) → Yields steps s xs t → steps t (Some x) u → Yields steps s (xs ++ x ∷ []) u
one_called steps [] x s t u same last = (u, subst (λ k. steps k (Some x) u) (sym same) last, refl)
one_called steps (y ∷ xs) x s t u (j, first, more) last = (j, first, one_called steps xs x j t u more last)
