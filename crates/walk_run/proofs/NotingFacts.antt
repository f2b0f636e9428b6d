-- What an iterator that notes errors passes on.
use Rattle.std.proofs.Common.{◌≡◌, ◌∙◌, Bool, true, false, ◌&&◌, List, [], ◌∷◌, Option, None, Result, is_ok, refl, sym, ap}
use Rattle.std.specs.Iterator.{Yields, YieldsThen, Drains}
use Rattle.std.specs.List.{list_all}
use Rattle.walk_run.specs.declared.noting.Noting.{Noting}
use Rattle.walk_run.specs.Noting.{source_of, is_clean, PassesOn}

and_true : (b : Bool) → (b && true) ≡ b
and_true true = refl
and_true false = refl

and_and : (a b c : Bool) → ((a && b) && c) ≡ (a && (b && c))
and_and true b c = refl
and_and false b c = refl

module _ {I T E : Type 0} (next : I → Option (Result T E) → I → Type 0) where
  -- calls yield what the other iterator does, and each error is noted
  passed_on : (xs : List (Result T E)) (old new : Noting I) → Yields (PassesOn next) old xs new → Yields next (source_of old) xs (source_of new) × (is_clean new ≡ (is_clean old && list_all is_ok xs))
  passed_on [] old new same = (ap source_of same, ap is_clean (sym same) ∙ sym (and_true (is_clean old)))
  passed_on (x ∷ xs) old new (mid, step, rest) =
      let more = passed_on xs mid new rest in
      ((source_of mid, step.passed, more.0), more.1 ∙ ap (λ b. b && list_all is_ok xs) step.noted ∙ and_and (is_clean old) (is_ok x) (list_all is_ok xs))

  -- the same up to the end
  pub all_passed_on : (xs : List (Result T E)) (old new : Noting I) → YieldsThen (PassesOn next) old xs None new → Drains next (source_of old) xs × (is_clean new ≡ (is_clean old && list_all is_ok xs))
  all_passed_on xs old new (mid, calls, step) =
      let more = passed_on xs old mid calls in
      ((source_of new, (source_of mid, more.0, step.passed)), step.noted ∙ and_true (is_clean mid) ∙ more.1)
