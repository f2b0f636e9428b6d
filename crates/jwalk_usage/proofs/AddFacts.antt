-- Answers counted by what they hold, one call after another.
use Rattle.std.proofs.Common.{◌≡◌, ℕ, List, [], ◌∷◌, ◌++◌, Option, Some, Result, map, refl, sym, ap, subst, ◌∙◌}
use Rattle.std.specs.Iterator.{Yields}
use Rattle.std.proofs.lemmas.List.{map-append}
use Rattle.jwalk.specs.jwalk_model.Entry.{Item}
use Rattle.jwalk.specs.jwalk_job.declared.dir_entry.DirEntry.{DirEntry}
use Rattle.jwalk.specs.jwalk_job.declared.error.Error.{Error}
use Rattle.jwalk.specs.jwalk_job.Entry.{item}
use Rattle.jwalk.specs.DirEntryIter.{TellsMemory}
use Rattle.jwalk_usage.specs.declared.report.Usage.{Usage}
use Rattle.jwalk_usage.specs.declared.report.UsageFault.{UsageFault}
use Rattle.jwalk_usage.specs.Totals.{totals_by, with_answer}
use Rattle.jwalk_usage.specs.ByAnswers.{CannotAdd, AddsUp, StopsAddingRest}
use Rattle.jwalk_usage.proofs.CountFacts.{yields_push, none_push}
use Rattle.jwalk_usage.proofs.TotalFacts.{totals_push}

module _ {I C A R E : Type 0} (errors bytes : Item R E → ℕ) (next : I → Option (Result (DirEntry C A R E) (Error A)) → I → Type 0) (start : I) where
  -- Calls from the start yielded answers, and the usage is what they come to.
  pub record AddedSoFar (now : I) (usage : Usage) : Type 0 where
    pub answered : List (Result (DirEntry C A R E) (Error A))
    pub calls : Yields next start answered now
    pub adds : AddsUp (totals_by errors bytes) answered usage

  pub nothing_added : (usage : Usage) → usage ≡ totals_by errors bytes [] → AddedSoFar start usage
  nothing_added usage is = record { answered = []; calls = refl; adds = record { none_refused = tt; totals = is } }

  -- one more answer
  pub one_added : (now then : I) (old new : Usage) (x : Result (DirEntry C A R E) (Error A)) → AddedSoFar now old → next now (Some x) then → ¬ TellsMemory (item x) → new ≡ with_answer errors bytes (item x) old → AddedSoFar then new
  one_added now then old new x so_far step not counted = record {
    answered = so_far.answered ++ x ∷ [];
    calls = yields_push next so_far.answered x start now then so_far.calls step;
    adds = record {
      none_refused = none_push so_far.answered x so_far.adds.none_refused not;
      totals = counted ∙ ap (with_answer errors bytes (item x)) so_far.adds.totals ∙ sym (totals_push errors bytes (map item so_far.answered) (item x)) ∙ ap (totals_by errors bytes) (sym (map-append item so_far.answered (x ∷ [])));
    };
  }

  -- an answer that can't be counted
  pub stops_adding : (now then : I) (u : Usage) (x : Result (DirEntry C A R E) (Error A)) (fault : UsageFault) → AddedSoFar now u → next now (Some x) then → CannotAdd (with_answer errors bytes (item x) u) (item x) fault → StopsAddingRest (totals_by errors bytes) next start then fault
  stops_adding now then u x fault so_far step cannot = record {
    answered = so_far.answered;
    last = x;
    calls = (now, so_far.calls, step);
    tells = subst (λ all. CannotAdd all (item x) fault) (ap (with_answer errors bytes (item x)) so_far.adds.totals ∙ sym (totals_push errors bytes (map item so_far.answered) (item x))) cannot;
  }
