-- What is yielded of a walk's subtotals, one after another.
use Rattle.std.proofs.Common.{◌≡◌, ◌∙◌, ℕ, Bool, true, false, ◌&&◌, ◌||◌, List, [], ◌∷◌, ◌++◌, append-nil, Option, None, Some, Result, Ok, Err, is_ok, map, refl, sym, ap, ap₂, subst}
use Rattle.std.specs.Prelude.{flat_map}
use Rattle.std.specs.Iterator.{Yields}
use Rattle.std.specs.List.{list_all, list_any}
use Rattle.std.proofs.lemmas.Grind.{flat_map-append}
use Rattle.jwalk.specs.jwalk_model.declared.metadata.Identity.{Identity}
use Rattle.jwalk.specs.jwalk_job.declared.dir_entry.DirEntry.{DirEntry}
use Rattle.jwalk.specs.jwalk_job.declared.error.Error.{Error}
use Rattle.jwalk.specs.jwalk_job.Entry.{item}
use Rattle.jwalk_subtotals.specs.Coming.{ends_with, value}
use Rattle.jwalk_subtotals.specs.Subtotals.{Yielded, subtotals_beside}
use Rattle.jwalk_subtotals.specs.declared.options.SubtotalOptions.{SubtotalOptions}
use Rattle.jwalk_subtotals.specs.declared.error.SubtotalError.{SubtotalError}
use Rattle.jwalk_subtotals.specs.declared.error.SubtotalError.TheVariants.{Walk, TooMany, Memory}
use Rattle.jwalk_subtotals.specs.declared.stack.WithSubtotal.{WithSubtotal}
use Rattle.tally_run.specs.Counting.{TakesAll, is_clean}
use Rattle.tally_run.specs.OneDevice.{on_devices}
use Rattle.tally_run.specs.Results.{Row, Takes, row_of, rows_of}
use Rattle.tally_run.specs.declared.results.Results.{Results}
use Rattle.tally_run.specs.declared.shown.Shown.{Shown}
use Rattle.jwalk_subtotals.proofs.ErrorFacts.{entries_alone}
use Rattle.tally_run.proofs.DeviceFacts.{devices_ok}
use Rattle.tally_run.proofs.ResultFacts.{takes_none, takes_then}

and_and : (a b c : Bool) → ((a && b) && c) ≡ (a && (b && c))
and_and true b c = refl
and_and false b c = refl

-- a test of lists, one behind the other
pub all_seam : {X : Type 0} (test : X → Bool) (xs ys : List X) → list_all test (xs ++ ys) ≡ (list_all test xs && list_all test ys)
all_seam test [] ys = refl
all_seam test (x ∷ xs) ys = ap (λ b. test x && b) (all_seam test xs ys) ∙ sym (and_and (test x) (list_all test xs) (list_all test ys))

right_true : (a b : Bool) → (a && b) ≡ true → b ≡ true
right_true true b is = is
right_true false b is = absurd (cc is)

or_false : (b : Bool) → (b || false) ≡ b
or_false true = refl
or_false false = refl

none_more : {X : Type 0} (test : X → Bool) (xs : List X) (x : X) → list_any test xs ≡ false → test x ≡ false → list_any test (xs ++ x ∷ []) ≡ false
none_more test [] x none not = or_false (test x) ∙ not
none_more test (y ∷ xs) x none not = any_more (test y) (list_any test xs) (list_any test (xs ++ x ∷ [])) none (λ rest. none_more test xs x rest not) where
  any_more : (b c d : Bool) → (b || c) ≡ false → (c ≡ false → d ≡ false) → (b || d) ≡ false
  any_more true c d none more = none
  any_more false c d none more = more none

one_called : {S X : Type 0} (steps : S → Option X → S → Type 0) (xs : List X) (x : X) (s t u : S) → Yields steps s xs t → steps t (Some x) u → Yields steps s (xs ++ x ∷ []) u
one_called steps [] x s t u same last = (u, subst (λ k. steps k (Some x) u) (sym same) last, refl)
one_called steps (y ∷ xs) x s t u (j, first, more) last = (j, first, one_called steps xs x j t u more last)

module _ {S C A R E : Type 0} (next : S → Option (Result (WithSubtotal C A R E) (SubtotalError A)) → S → Type 0) (root : List ℕ) (shown : Shown) (start : S) (old : Results) (before : Option (List ℕ)) where
  -- Calls yielded these so far, what is written of them is taken, and it is known whether all are clean.
  pub record TakenSoFar (now : S) (new : Results) (after : Option (List ℕ)) (clean : Bool) : Type 0 where
    pub yielded : List (Result (WithSubtotal C A R E) (SubtotalError A))
    pub calls : Yields next start yielded now
    pub goes_on : list_any ends_with yielded ≡ false
    pub tells : clean ≡ list_all is_clean (flat_map value yielded)
    pub taken : Takes (rows_of root shown (flat_map value yielded)) old before new after

  -- nothing was yielded yet
  pub none_taken : TakenSoFar start old before true
  none_taken = record { yielded = []; calls = refl; goes_on = refl; tells = refl; taken = takes_none old before }

  values_more : (xs : List (Result (WithSubtotal C A R E) (SubtotalError A))) (x : Result (WithSubtotal C A R E) (SubtotalError A)) → flat_map value (xs ++ x ∷ []) ≡ flat_map value xs ++ value x
  values_more xs x = flat_map-append value xs (x ∷ []) ∙ ap (λ l. flat_map value xs ++ l) (append-nil (value x))

  -- one more call
  pub one_taken : (now then : S) (mid new : Results) (during after : Option (List ℕ)) (clean one : Bool) (x : Result (WithSubtotal C A R E) (SubtotalError A)) → TakenSoFar now mid during clean → next now (Some x) then
      → ends_with x ≡ false → one ≡ list_all is_clean (value x) → Takes (rows_of root shown (value x)) mid during new after → TakenSoFar then new after (clean && one)
  one_taken now then mid new during after clean one x so_far step goes_on is taken =
      let xs = so_far.yielded in
      record {
        yielded = xs ++ x ∷ [];
        calls = one_called next xs x start now then so_far.calls step;
        goes_on = none_more ends_with xs x so_far.goes_on goes_on;
        tells = ap₂ (λ a b. a && b) so_far.tells is ∙ sym (all_seam is_clean (flat_map value xs) (value x)) ∙ ap (list_all is_clean) (sym (values_more xs x));
        taken = subst (λ l. Takes l old before new after)
            (sym (flat_map-append (row_of root shown) (flat_map value xs) (value x)) ∙ ap (rows_of root shown) (sym (values_more xs x)))
            (takes_then (rows_of root shown (flat_map value xs)) (rows_of root shown (value x)) old mid new before during after so_far.taken taken);
      }

  -- the last call
  pub all_taken : (now end : S) (new : Results) (after : Option (List ℕ)) (clean : Bool) → TakenSoFar now new after clean → next now None end → TakesAll next root shown start end old before new after clean
  all_taken now end new after clean so_far step = record {
    yielded = so_far.yielded;
    calls = (now, so_far.calls, step);
    goes_on = so_far.goes_on;
    tells = so_far.tells;
    taken = so_far.taken;
  }

error_rows : (C A R E : Type 0) (root : List ℕ) (shown : Shown) (e : SubtotalError A) → rows_of root shown (value {C = C} {A = A} {R = R} {E = E} (Err e)) ≡ []
error_rows C A R E root shown (Walk e) = refl
error_rows C A R E root shown TooMany = refl
error_rows C A R E root shown Memory = refl

-- of an error nothing is taken
pub error_taken : {C A R E : Type 0} (root : List ℕ) (shown : Shown) (x : Result (WithSubtotal C A R E) (SubtotalError A)) (e : SubtotalError A) → x ≡ Err e → (results : Results) (written : Option (List ℕ)) → Takes (rows_of root shown (value x)) results written results written
error_taken {C} {A} {R} {E} root shown x e is results written =
    subst (λ (rows : List Row). Takes rows results written results written) (sym (ap (λ y. rows_of root shown (value y)) is ∙ error_rows C A R E root shown e)) (takes_none results written)

clean_ok : {R E : Type 0} (ys : List (Yielded R E)) → list_all is_clean ys ≡ true → list_all is_ok ys ≡ true
clean_ok [] clean = refl
clean_ok (Ok y ∷ ys) clean = clean_ok ys (right_true (is_clean (Ok y)) (list_all is_clean ys) clean)
clean_ok (Err f ∷ ys) clean = absurd (cc clean)

items_ok : {C A R E : Type 0} (xs : List (Result (DirEntry C A R E) (Error A))) → list_all is_ok (map item xs) ≡ true → list_all is_ok xs ≡ true
items_ok [] all = refl
items_ok (Ok e ∷ xs) all = items_ok xs all
items_ok (Err f ∷ xs) all = absurd (cc all)

-- answers are entries, if the subtotals of those that are left are clean
pub answers_ok : {C A R E : Type 0} (o : SubtotalOptions) (known : List Identity) (one : Bool) (xs : List (Result (DirEntry C A R E) (Error A))) → list_all is_clean (subtotals_beside o known (on_devices one (map item xs))) ≡ true → list_all is_ok xs ≡ true
answers_ok o known one xs clean =
    items_ok xs (devices_ok one (map item xs) (entries_alone o known (on_devices one (map item xs)) (clean_ok (subtotals_beside o known (on_devices one (map item xs))) clean)))
