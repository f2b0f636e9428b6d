-- Answers counted one call after another.
use Rattle.std.proofs.Common.{◌≡◌, Bool, true, false, ◌&&◌, List, [], ◌∷◌, ◌++◌, Option, Some, Result, Ok, Err, IfErr, map, refl, sym, ap, subst, ◌∙◌}
use Rattle.std.specs.Prelude.{IsErrAnd}
use Rattle.std.specs.List.{list_all}
use Rattle.std.specs.Iterator.{Yields}
use Rattle.std.proofs.lemmas.List.{map-append}
use Rattle.std.proofs.lemmas.List.Folds.{list_all-append}
use Rattle.jwalk.specs.jwalk_model.FileSystem.{Functions}
use Rattle.jwalk.specs.jwalk_job.declared.dir_entry.DirEntry.{DirEntry}
use Rattle.jwalk.specs.jwalk_job.declared.error.Error.{Error}
use Rattle.jwalk.specs.jwalk_job.Entry.{item}
use Rattle.jwalk.specs.DirEntryIter.{TellsMemory, NoneRefused}
use Rattle.jwalk_usage.specs.declared.report.Usage.{Usage}
use Rattle.jwalk_usage.specs.declared.report.UsageFault.{UsageFault}
use Rattle.jwalk_usage.specs.declared.report.UsageFault.TheVariants.{TooMany, Memory}
use Rattle.jwalk_usage.specs.Totals.{errors_of, bytes_of, totals}
use Rattle.jwalk_usage.specs.Counts.{nothing, with_one, IsTooGreat, CountsType, CountsTypes, CannotCount, TellsOfLast, Counts, StopsCountingRest}
use Rattle.jwalk_usage.specs.Kept.{is_known, errors_kept, bytes_kept, kept_totals, with_kept}
use Rattle.jwalk_usage.proofs.TotalFacts.{totals_push, types_push}

-- calls and one more
pub yields_push : {I X : Type 0} (next : I → Option X → I → Type 0) (xs : List X) (x : X) (start now then : I) → Yields next start xs now → next now (Some x) then → Yields next start (xs ++ x ∷ []) then
yields_push next [] x start now then same step = (then, subst (λ s. next s (Some x) then) (sym same) step, refl)
yields_push next (y ∷ xs) x start now then (mid, first, rest) step = (mid, first, yields_push next xs x mid now then rest step)

both_true : (a b : Bool) → (a && (b && true)) ≡ true → (a ≡ true) × (b ≡ true)
both_true true true is = (refl, refl)
both_true true false is = absurd cc
both_true false b is = absurd cc

-- what holds of all with one more holds of all before, and of the one
pub all_before : {X : Type 0} (p : X → Bool) (l : List X) (x : X) → list_all p (l ++ x ∷ []) ≡ true → (list_all p l ≡ true) × (p x ≡ true)
all_before p l x all = both_true (list_all p l) (p x) (sym (list_all-append p l (x ∷ [])) ∙ all)

-- what holds of an error holds of the one that was returned
pub told_by : {X Y : Type 0} (r : Result X Y) (e : Y) (P : Y → Type 0) → IsErrAnd r (λ y. y ≡ e) → P e → IfErr r P
told_by (Ok x) e P is holds = tt
told_by (Err y) e P is holds = subst P (sym is) holds

module _ {C A R E : Type 0} where
  -- one more answer that doesn't report that memory ran out
  pub none_push : (xs : List (Result (DirEntry C A R E) (Error A))) (x : Result (DirEntry C A R E) (Error A)) → NoneRefused xs → ¬ TellsMemory (item x) → NoneRefused (xs ++ x ∷ [])
  none_push [] x none not = (not, tt)
  none_push (y ∷ xs) x none not = (none.0, none_push xs x none.1 not)

module _ {I C A R E : Type 0} (next : I → Option (Result (DirEntry C A R E) (Error A)) → I → Type 0) (fixed : Type 0) (fs : Functions) (start : I) where
  -- Calls from the start yielded answers, and the usage is what they come to.
  pub record CountedSoFar (now : I) (usage : Usage) : Type 0 where
    pub answered : List (Result (DirEntry C A R E) (Error A))
    pub calls : Yields next start answered now
    pub counts : Counts fixed fs answered usage

  pub nothing_counted : (usage : Usage) → usage ≡ nothing → CountedSoFar start usage
  nothing_counted usage is = subst (CountedSoFar start) (sym is) (record {
    answered = [];
    calls = refl;
    counts = record { none_refused = tt; types = record { files = refl; dirs = refl; links = refl; others = refl }; totals = λ _. refl; kept = λ _. refl };
  })

  -- one more answer
  pub one_counted : (now then : I) (old new : Usage) (x : Result (DirEntry C A R E) (Error A)) → CountedSoFar now old → next now (Some x) then → ¬ TellsMemory (item x) → CountsType (item x) old new → (fixed → new ≡ with_one fs (item x) old) → (is_known (item x) ≡ true → new ≡ with_kept (item x) old) → CountedSoFar then new
  one_counted now then old new x so_far step not type all known = record {
    answered = so_far.answered ++ x ∷ [];
    calls = yields_push next so_far.answered x start now then so_far.calls step;
    counts = record {
      none_refused = none_push so_far.answered x so_far.counts.none_refused not;
      types = subst (λ l. CountsTypes l new) (sym (map-append item so_far.answered (x ∷ []))) (types_push (map item so_far.answered) (item x) old new so_far.counts.types type);
      totals = λ is. all is ∙ ap (with_one fs (item x)) (so_far.counts.totals is) ∙ sym (totals_push (errors_of fs) (bytes_of fs) (map item so_far.answered) (item x)) ∙ ap (totals fs) (sym (map-append item so_far.answered (x ∷ [])));
      kept = λ is.
          let before = all_before is_known (map item so_far.answered) (item x) (subst (λ l. list_all is_known l ≡ true) (map-append item so_far.answered (x ∷ [])) is) in
          known before.1 ∙ ap (with_kept (item x)) (so_far.counts.kept before.0) ∙ sym (totals_push errors_kept bytes_kept (map item so_far.answered) (item x)) ∙ ap kept_totals (sym (map-append item so_far.answered (x ∷ [])));
    };
  }

  -- why the last answer can't be counted, by the totals of all
  tells_of : (now : I) (u : Usage) (x : Result (DirEntry C A R E) (Error A)) (fault : UsageFault) (so_far : CountedSoFar now u) → CannotCount fixed fs (item x) u fault → TellsOfLast fixed fs (map item so_far.answered) (item x) fault
  tells_of now u x TooMany so_far cannot = (
    λ is. subst IsTooGreat (ap (with_one fs (item x)) (so_far.counts.totals is) ∙ sym (totals_push (errors_of fs) (bytes_of fs) (map item so_far.answered) (item x))) (cannot.0 is),
    λ is.
        let before = all_before is_known (map item so_far.answered) (item x) is in
        subst IsTooGreat (ap (with_kept (item x)) (so_far.counts.kept before.0) ∙ sym (totals_push errors_kept bytes_kept (map item so_far.answered) (item x))) (cannot.1 before.1),
  )
  tells_of now u x Memory so_far cannot = cannot

  -- an answer that can't be counted
  pub stops : (now then : I) (u : Usage) (x : Result (DirEntry C A R E) (Error A)) (fault : UsageFault) → CountedSoFar now u → next now (Some x) then → CannotCount fixed fs (item x) u fault → StopsCountingRest next fixed fs start then fault
  stops now then u x fault so_far step cannot = record {
    answered = so_far.answered;
    last = x;
    calls = (now, so_far.calls, step);
    tells = tells_of now u x fault so_far cannot;
  }
