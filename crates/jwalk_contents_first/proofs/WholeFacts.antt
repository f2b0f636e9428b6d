-- What an iterator that yields contents first yields from its beginning on.
use Rattle.std.proofs.Common.{◌≡◌, ◌⊎◌, Bool, true, false, ◌||◌, List, [], ◌∷◌, ◌++◌, map, Option, Result, inl, inr, refl, sym, ap, ap₂, ◌∙◌, subst}
use Rattle.std.specs.List.{list_any}
use Rattle.std.specs.Iterator.{Yields}
use Rattle.std.proofs.lemmas.List.{append-nil}
use Rattle.jwalk_model.specs.Entry.{Item}
use Rattle.jwalk_job.specs.declared.dir_entry.DirEntry.{DirEntry}
use Rattle.jwalk_job.specs.declared.error.Error.{Error}
use Rattle.jwalk_job.specs.Entry.{item}
use Rattle.jwalk_contents_first.specs.declared.iter.ContentsFirst.{ContentsFirst}
use Rattle.jwalk_contents_first.specs.ContentsFirst.{contents_first}
use Rattle.jwalk_contents_first.specs.Coming.{Held, Ascends, coming, answers_of, held, is_over, is_stopped, ends_with, GoesOver, Gives, IsFresh, Takes}
use Rattle.jwalk_contents_first.specs.Whole.{AllAreYielded, FirstAreYielded, NothingComesBehind, OneForEachDepth}
use Rattle.jwalk_contents_first.proofs.RunFacts.{stays, goes_on, takes_to_end}

or_left : (a b : Bool) → (a || b) ≡ false → a ≡ false
or_left true b not = absurd (cc not)
or_left false b not = refl

or_right : (a b : Bool) → (a || b) ≡ false → b ≡ false
or_right true b not = absurd (cc not)
or_right false b not = not

both_false : (a b : Bool) → a ≡ false → b ≡ false → (a || b) ≡ false
both_false a b p q = ap₂ (λ x y. x || y) p q

or_true : (a b : Bool) → b ≡ true → (a || b) ≡ true
or_true true b is = refl
or_true false b is = is

module _ {C A I R E : Type 0} (next : I → Option (Result (DirEntry C A R E) (Error A)) → I → Type 0) where
  -- What calls yielded, and that more may come.
  record Runs (start : ContentsFirst C A I R E) (yielded : List (Item R E)) (now : ContentsFirst C A I R E) : Type 0 where
    goes : GoesOver next start yielded now
    runs : is_stopped now ≡ false

  runs_over : (xs : List (Result (DirEntry C A R E) (Error A))) (start end : ContentsFirst C A I R E) → is_stopped start ≡ false → Yields (Gives next) start xs end → list_any ends_with xs ≡ false → Runs start (map item xs) end
  runs_over [] start end runs same none = subst (Runs start []) same (record { goes = stays next start; runs = runs })
  runs_over (x ∷ xs) start end runs (mid, gives, rest) none =
      let ongoing : is_stopped mid ≡ false = gives.stops ∙ both_false (is_stopped start) (ends_with x) runs (or_left (ends_with x) (list_any ends_with xs) none) in
      let more = runs_over xs mid end ongoing rest (or_right (ends_with x) (list_any ends_with xs) none) in
      record { goes = goes_on next start mid end (item x ∷ []) (map item xs) (λ _. ongoing) gives.goes more.goes; runs = more.runs }

  -- from the beginning on, all answers are to come, contents first
  fresh_coming : (start : ContentsFirst C A I R E) → IsFresh start → (l : List (Item R E)) → coming (held start) l ≡ contents_first l
  fresh_coming start fresh l = ap (λ (h : Held R E). coming h l) fresh.held

  pub first_yielded : FirstAreYielded {C = C} {A = A} {I = I} {R = R} {E = E} next
  first_yielded start end xs fresh calls none =
      let run = runs_over xs start end fresh.runs calls none in (
        run.goes.taken,
        subst (λ b. Takes next b (is_over end) (answers_of start) run.goes.taken (answers_of end)) fresh.goes_on run.goes.takes,
        λ later over. (coming (held end) later, sym (fresh_coming start fresh (map item run.goes.taken ++ later)) ∙ run.goes.first run.runs later over),
      )

  at_end : (s o : Bool) (P : Type 0) → s ≡ false → (s ≡ true) ⊎ ((o ≡ true) × P) → (o ≡ true) × P
  at_end s o P not (inl is) = absurd (cc (not, is))
  at_end s o P not (inr h) = h

  pub all_yielded : AllAreYielded {C = C} {A = A} {I = I} {R = R} {E = E} next
  all_yielded start end xs fresh (now, calls, last) none =
      let run = runs_over xs start now fresh.runs calls none in
      let ongoing : is_stopped end ≡ false = last.stops ∙ both_false (is_stopped now) false run.runs refl in
      let ended = at_end (is_stopped end) (is_over end) (coming (held end) [] ≡ []) ongoing last.ends in
      let goes = goes_on next start now end (map item xs) [] (λ _. run.runs) run.goes last.goes in
      let all : map item goes.taken ++ [] ≡ map item goes.taken = append-nil (map item goes.taken) in (
        goes.taken,
        (answers_of end, takes_to_end next (is_over start) (is_over end) goes.taken (answers_of start) (answers_of end) fresh.goes_on ended.0 goes.takes),
        ap contents_first (sym all)
            ∙ sym (fresh_coming start fresh (map item goes.taken ++ []))
            ∙ goes.first ongoing [] (λ _. refl)
            ∙ ap (λ m. (map item xs ++ []) ++ m) ended.1
            ∙ append-nil (map item xs ++ [])
            ∙ append-nil (map item xs),
      )

  pub nothing_behind : NothingComesBehind {C = C} {A = A} {I = I} {R = R} {E = E} next
  nothing_behind old mid new last result ends gives more = more.silent (gives.stops ∙ or_true (is_stopped old) (ends_with last) ends)

  still_ascends : (xs : List (Result (DirEntry C A R E) (Error A))) (start end : ContentsFirst C A I R E) → Yields (Gives next) start xs end → Ascends (held start).entries → Ascends (held end).entries
  still_ascends [] start end same h = subst (λ (s : ContentsFirst C A I R E). Ascends (held s).entries) same h
  still_ascends (x ∷ xs) start end (mid, gives, rest) h = still_ascends xs mid end rest (gives.goes.ascends h)

  pub each_depth : OneForEachDepth {C = C} {A = A} {I = I} {R = R} {E = E} next
  each_depth start end xs fresh calls = still_ascends xs start end calls (subst (λ (h : Held R E). Ascends h.entries) (sym fresh.held) tt)
