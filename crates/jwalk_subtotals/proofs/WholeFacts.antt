-- What an iterator over subtotals yields from its beginning on.
use Rattle.std.proofs.Common.{◌≡◌, ◌⊎◌, Bool, true, false, ◌||◌, List, [], ◌∷◌, ◌++◌, map, Option, Result, inl, inr, refl, sym, ap, ap₂, ◌∙◌, subst}
use Rattle.std.specs.Prelude.{flat_map}
use Rattle.std.specs.List.{list_any}
use Rattle.std.specs.Iterator.{Yields}
use Rattle.std.proofs.lemmas.List.{append-nil}
use Rattle.jwalk.specs.jwalk_model.declared.metadata.Identity.{Identity}
use Rattle.jwalk.specs.jwalk_model.Entry.{Item}
use Rattle.jwalk.specs.jwalk_job.declared.dir_entry.DirEntry.{DirEntry}
use Rattle.jwalk.specs.jwalk_job.declared.error.Error.{Error}
use Rattle.jwalk.specs.jwalk_job.Entry.{item}
use Rattle.jwalk_subtotals.specs.declared.iter.Ahead.{Ahead}
use Rattle.jwalk_subtotals.specs.declared.iter.Ahead.TheVariants.{Unasked, Taken, Over}
use Rattle.jwalk_subtotals.specs.declared.iter.Subtotals.{Subtotals}
use Rattle.jwalk_subtotals.specs.declared.options.SubtotalOptions.{SubtotalOptions}
use Rattle.jwalk_subtotals.specs.declared.stack.WithSubtotal.{WithSubtotal}
use Rattle.jwalk_subtotals.specs.declared.error.SubtotalError.{SubtotalError}
use Rattle.jwalk_subtotals.specs.Counted.{files_after, is_among}
use Rattle.jwalk_subtotals.specs.Subtotals.{Yielded, subtotals_beside}
use Rattle.jwalk_subtotals.specs.Coming.{Held, coming, counted_behind, answers_of, options_of, held, is_over, is_over_in, is_stopped, value, waiting_in, ends_with, GoesOver, Gives, IsFreshBeside, Takes}
use Rattle.jwalk_subtotals.specs.Whole.{AllAreYielded, AllAreYieldedBeside, FirstAreYielded}
use Rattle.jwalk_subtotals.proofs.RunFacts.{stays, goes_on, takes_to_end}

or_left : (a b : Bool) → (a || b) ≡ false → a ≡ false
or_left true b not = absurd (cc not)
or_left false b not = refl

or_right : (a b : Bool) → (a || b) ≡ false → b ≡ false
or_right true b not = absurd (cc not)
or_right false b not = not

both_false : (a b : Bool) → a ≡ false → b ≡ false → (a || b) ≡ false
both_false a b p q = ap₂ (λ x y. x || y) p q

module _ {C A I R E : Type 0} (next : I → Option (Result (DirEntry C A R E) (Error A)) → I → Type 0) where
  -- What calls yielded, and that more may come.
  pub record Runs (start : Subtotals C A I R E) (yielded : List (Yielded R E)) (now : Subtotals C A I R E) : Type 0 where
    pub goes : GoesOver next start yielded now
    pub runs : is_stopped now ≡ false

  pub runs_over : (xs : List (Result (WithSubtotal C A R E) (SubtotalError A))) (start end : Subtotals C A I R E) → is_stopped start ≡ false → Yields (Gives next) start xs end → list_any ends_with xs ≡ false → Runs start (flat_map value xs) end
  runs_over [] start end runs same none = subst (Runs start []) same (record { goes = stays next start; runs = runs })
  runs_over (x ∷ xs) start end runs (mid, gives, rest) none =
      let ongoing : is_stopped mid ≡ false = gives.stops ∙ both_false (is_stopped start) (ends_with x) runs (or_left (ends_with x) (list_any ends_with xs) none) in
      let more = runs_over xs mid end ongoing rest (or_right (ends_with x) (list_any ends_with xs) none) in
      record { goes = goes_on next start mid end (value x) (flat_map value xs) (λ _. ongoing) gives.goes more.goes; runs = more.runs }

  -- from the beginning on, the subtotals of all answers are to come
  fresh_coming : (files : List Identity) (start : Subtotals C A I R E) → IsFreshBeside files start → (l : List (Item R E)) → coming (options_of start) (held start) l ≡ subtotals_beside (options_of start) files l
  fresh_coming files start fresh l = ap (λ (h : Held R E). coming (options_of start) h l) fresh.held

  pub first_yielded : FirstAreYielded {C = C} {A = A} {I = I} {R = R} {E = E} next
  first_yielded start end xs fresh calls none =
      let run = runs_over xs start end fresh.runs calls none in (
        run.goes.taken,
        subst (λ b. Takes next b (is_over end) (answers_of start) run.goes.taken (answers_of end)) fresh.goes_on run.goes.takes,
        λ later over. (coming (options_of end) (held end) later, sym (fresh_coming [] start fresh (map item run.goes.taken ++ later)) ∙ run.goes.first run.runs later over),
      )

  at_end : (s o : Bool) (P : Type 0) → s ≡ false → (s ≡ true) ⊎ ((o ≡ true) × P) → (o ≡ true) × P
  at_end s o P not (inl is) = absurd (cc (not, is))
  at_end s o P not (inr h) = h

  -- nothing waits where the walk has ended
  none_waits : (a : Ahead C A R E) → is_over_in a ≡ true → waiting_in a ≡ []
  none_waits Unasked over = absurd (cc over)
  none_waits (Taken x) over = absurd (cc over)
  none_waits Over over = refl

  -- so the files that are held are all that are counted
  files_at_end : (o : SubtotalOptions) (end : Subtotals C A I R E) → is_over end ≡ true → (i : Identity) → is_among (counted_behind o (held end) []) i ≡ is_among (held end).files i
  files_at_end o end over i = ap (λ (ws : List (Item R E)). is_among (files_after o (held end).files (ws ++ [])) i) (none_waits end.ahead over)

  pub all_yielded_beside : AllAreYieldedBeside {C = C} {A = A} {I = I} {R = R} {E = E} next
  all_yielded_beside files start end xs fresh (now, calls, last) none =
      let o = options_of start in
      let run = runs_over xs start now fresh.runs calls none in
      let ongoing : is_stopped end ≡ false = last.stops ∙ both_false (is_stopped now) false run.runs refl in
      let ended = at_end (is_stopped end) (is_over end) (coming (options_of end) (held end) [] ≡ []) ongoing last.ends in
      let goes = goes_on next start now end (flat_map value xs) [] (λ _. run.runs) run.goes last.goes in
      let all : map item goes.taken ++ [] ≡ map item goes.taken = append-nil (map item goes.taken) in (
        goes.taken,
        (answers_of end, takes_to_end next (is_over start) (is_over end) goes.taken (answers_of start) (answers_of end) fresh.goes_on ended.0 goes.takes),
        ap (subtotals_beside o files) (sym all)
            ∙ sym (fresh_coming files start fresh (map item goes.taken ++ []))
            ∙ goes.first ongoing [] (λ _. refl)
            ∙ ap (λ m. (flat_map value xs ++ []) ++ m) ended.1
            ∙ append-nil (flat_map value xs ++ [])
            ∙ append-nil (flat_map value xs),
        λ i.
            sym (files_at_end (options_of end) end ended.0 i)
            ∙ goes.counted ongoing [] i
            ∙ ap (λ (h : Held R E). is_among (counted_behind o h (map item goes.taken ++ [])) i) fresh.held
            ∙ ap (λ (m : List (Item R E)). is_among (files_after o files m) i) all,
      )

  pub all_yielded : AllAreYielded {C = C} {A = A} {I = I} {R = R} {E = E} next
  all_yielded start end xs fresh calls none =
      let all = all_yielded_beside [] start end xs fresh calls none in (all.0, all.1, all.2)
