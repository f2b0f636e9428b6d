-- What calls of the `next` of a walk over any readings return, one after another.
use Rattle.std.proofs.Common.{◌≡◌, ◌≢◌, ◌≤◌, ◌<◌, ◌⊎◌, ◌∙◌, true, false, ℕ, ◌+◌, List, [], ◌∷◌, ◌++◌, map, length, append-nil, append_assoc, Option, Some, None, Result, Ok, Err, inl, inr, refl, sym, ap, subst, arith}
use lib.ListN.{length-append}
use Rattle.std.specs.Prelude.{IsErr}
use Rattle.std.specs.Iterator.{Yields, Drains}
use Rattle.std.specs.declared.alloc.AllocError.{AllocError}
use Rattle.jwalk_model.specs.Error.{memory}
use Rattle.jwalk_model.specs.Entry.{Item, AllBetween}
use Rattle.jwalk_model.specs.Listing.{Pair}
use Rattle.jwalk_model.specs.Held as value
use Rattle.jwalk_model.specs.Held.{AnswersPlainly}
use Rattle.jwalk_job.specs.declared.error.Error.{Error}
use Rattle.jwalk_job.specs.declared.dir_entry.DirEntry.{DirEntry}
use Rattle.jwalk_job.specs.Entry.{item}
use Rattle.jwalk_job.specs.Given.{Given, counted_item}
use Rattle.jwalk_readings.specs.declared.readings.Readings as Readings
use Rattle.jwalk_iter.specs.declared.entries.Entries.{Entries}
use Rattle.jwalk_iter.specs.Entries.{unread_of, source_of, min_depth_of, max_depth_of, held, weight_of, to_come, IsWithin, IsSourced, Stops, IsSteadyWalk, Answers, ComesFirst, EndsEarly, FillCalls, Fills}
use Rattle.jwalk_iter.proofs.AnswerFacts.{held_by_nothing}

-- where nothing is held, nothing is yielded
nothing_answered : {R E : Type 0} (min_depth : ℕ) (old : List (Pair R E)) (x : Item R E) (new : List (Pair R E)) → old ≡ [] → AnswersPlainly min_depth old (Some x) new → ⊥
nothing_answered min_depth old x new none plain = let no = rw none at plain in absurd (let is : Some x ≡ None = no.0 in cc)

module _ {C A B R E : Type 0} (readings : Readings.Ghosts B C A R E) where
  abbrev Steps : Entries C A B R E → Option (Result (DirEntry C A R E) (Error A)) → Entries C A B R E → Type 0
  Steps = Answers readings

  -- calls change no source
  pub same_base : (xs : List (Result (DirEntry C A R E) (Error A))) (s t : Entries C A B R E) → Yields Steps s xs t → readings.base t.reads ≡ readings.base s.reads
  same_base [] s t same = ap (λ k. readings.base k.reads) (sym same)
  same_base (x ∷ xs) s t (j, step, rest) = same_base xs j t rest ∙ step.base

  -- nor may more readings be ahead then
  fewer_ahead : (xs : List (Result (DirEntry C A R E) (Error A))) (s t : Entries C A B R E) → Yields Steps s xs t → readings.most t.reads ≤ readings.most s.reads
  fewer_ahead [] s t same = omega (arith, ap (λ k. readings.most k.reads) same)
  fewer_ahead (x ∷ xs) s t (j, step, rest) = omega (arith, step.most, fewer_ahead xs j t rest)

  -- every answer is between the least and the greatest depth
  within : (xs : List (Result (DirEntry C A R E) (Error A))) (s t : Entries C A B R E) → Yields Steps s xs t → IsWithin readings s → AllBetween (min_depth_of readings s) (max_depth_of readings s) (map item xs) × IsWithin readings t
  within [] s t same h = (tt, subst (IsWithin readings) same h)
  within (x ∷ xs) s t (j, step, rest) h =
      let first = step.depths h in
      let more = within xs j t rest first.1 in
      ((first.0, subst (λ b. AllBetween (readings.source b).options.min_depth (readings.source b).options.max_depth (map item xs)) step.base more.0), more.1)

  -- each directory keeps its source
  sourced : (xs : List (Result (DirEntry C A R E) (Error A))) (s t : Entries C A B R E) → Yields Steps s xs t → IsSourced readings s → IsSourced readings t
  sourced [] s t same h = subst (IsSourced readings) same h
  sourced (x ∷ xs) s t (j, step, rest) h = sourced xs j t rest (step.sourced h)

  -- a steady walk stays so
  pub stays_steady : (given : Given R E) (xs : List (Result (DirEntry C A R E) (Error A))) (s t : Entries C A B R E) → Yields Steps s xs t → IsSteadyWalk readings s given → IsSteadyWalk readings t given
  stays_steady given [] s t same steady = subst (λ k. IsSteadyWalk readings k given) same steady
  stays_steady given (x ∷ xs) s t (j, step, rest) steady = stays_steady given xs j t rest (step.steady given steady)

  -- each answer makes the walk lighter
  lighter : (xs : List (Result (DirEntry C A R E) (Error A))) (s t : Entries C A B R E) → Yields Steps s xs t → weight_of readings t + length xs ≤ weight_of readings s
  lighter [] s t same = omega (arith, ap (weight_of readings) same)
  lighter (x ∷ xs) s t (j, step, rest) = omega (arith, step.lighter, lighter xs j t rest)

  -- where nothing is held, no call yields an item
  none_after : (xs : List (Result (DirEntry C A R E) (Error A))) (s t : Entries C A B R E) → held readings s ≡ [] → Yields Steps s xs t → (xs ≡ []) × (s ≡ t)
  none_after [] s t none same = (refl, same)
  none_after (x ∷ xs) s t none (j, step, rest) = absurd (nothing_answered (min_depth_of readings s) (held readings s) (item x) (held readings j) none step.plain)

  stopped : (given : Given R E) (x : Result (DirEntry C A R E) (Error A)) (xs : List (Result (DirEntry C A R E) (Error A))) (s j t : Entries C A B R E) → Stops readings (λ f. f ≡ memory) (item x) j → Yields Steps j xs t → EndsEarly readings given s (map item (x ∷ xs)) t
  stopped given x xs s j t stops rest =
      let no_more = none_after xs j t stops.nothing_held rest in
      record {
        before = [];
        missed = to_come readings given s;
        beginning = refl;
        told = rw (no_more.0, stops.told, stops.tells) refl;
        nothing_held = subst (λ k. held readings k ≡ []) no_more.1 stops.nothing_held;
      }

  one_more : (given : Given R E) (x : Item R E) (answered : List (Item R E)) (s j t : Entries C A B R E) → ComesFirst readings given s (x ∷ []) j → ComesFirst readings given j answered t ⊎ EndsEarly readings given j answered t → ComesFirst readings given s (x ∷ answered) t ⊎ EndsEarly readings given s (x ∷ answered) t
  one_more given x answered s j t first more = elim more [
    | inl comes ↦ inl (first ∙ ap (λ l. counted_item given x ∷ l) comes)
    | inr ends ↦ inr (record {
      before = x ∷ ends.before;
      missed = ends.missed;
      beginning = first ∙ ap (λ l. counted_item given x ∷ l) ends.beginning;
      told = ap (λ l. x ∷ l) ends.told;
      nothing_held = ends.nothing_held;
    })
  ]

  -- what calls yield is the first of what was to come, or a beginning of it, followed by the error that says that memory ran out
  pub come : (given : Given R E) (xs : List (Result (DirEntry C A R E) (Error A))) (s t : Entries C A B R E) → IsSteadyWalk readings s given → Yields Steps s xs t → ComesFirst readings given s (map item xs) t ⊎ EndsEarly readings given s (map item xs) t
  come given [] s t steady same = inl (ap (to_come readings given) same)
  come given (x ∷ xs) s t steady (j, step, rest) =
      elim (step.coming given steady) [
        | inl stops ↦ inr (stopped given x xs s j t stops rest)
        | inr first ↦ one_more given (item x) (map item xs) s j t first (come given xs j t (step.steady given steady) rest)
      ]

-- calls after calls
pub calls_on : {S X : Type 0} (steps : S → Option X → S → Type 0) (xs ys : List X) (s t u : S) → Yields steps s xs t → Yields steps t ys u → Yields steps s (xs ++ ys) u
calls_on steps [] ys s t u same rest = subst (λ k. Yields steps k ys u) (sym same) rest
calls_on steps (x ∷ xs) ys s t u (j, first, more) rest = (j, first, calls_on steps xs ys j t u more rest)

module _ {C A B R E : Type 0} (readings : Readings.Ghosts B C A R E) (n told : ℕ) (start old new : Entries C A B R E) (earlier answered : List (Result (DirEntry C A R E) (Error A))) where
  -- calls of `next`, and then a call of `fill` that returns all it was asked for, are calls of `next`, one after another
  pub filled_on : Yields (Answers readings) start earlier old → FillCalls readings n old answered (Ok told) new → told ≡ n → Yields (Answers readings) start (earlier ++ answered) new
  filled_on before calls all =
      calls_on (Answers readings) earlier answered start old new before
      (elim calls [ inl full ↦ full.1 | inr ended ↦ absurd (omega (arith, ended.0, all)) ])

  -- if it returns fewer, they are all calls up to the one that returns `None`
  pub filled_to_end : Yields (Answers readings) start earlier old → FillCalls readings n old answered (Ok told) new → told ≢ n → Drains (Answers readings) start (earlier ++ answered)
  filled_to_end before calls fewer = elim calls [
    | inl full ↦ absurd (fewer full.0)
    | inr ended ↦
        let last = ended.1.0 in
        (new, (last, calls_on (Answers readings) earlier answered start old last before ended.1.1, ended.1.2))
  ]

module _ {C A B R E : Type 0} (readings : Readings.Ghosts B C A R E) (n : ℕ) (old : Entries C A B R E) (before : List (Result (DirEntry C A R E) (Error A))) where
  -- What was filled in so far: as many answers as are counted, at most n, each from a call of `next`.
  pub record Filled (filled : ℕ) (now : List (Result (DirEntry C A R E) (Error A))) (new : Entries C A B R E) : Type 0 where
    pub answered : List (Result (DirEntry C A R E) (Error A))
    pub appended : now ≡ before ++ answered
    pub number : filled ≡ length answered
    pub few : filled ≤ n
    pub calls : Yields (Answers readings) old answered new

  pub none_filled : Filled 0 before old
  none_filled = record { answered = []; appended = sym (append-nil before); number = refl; few = omega arith; calls = refl }

  pub one_filled : (filled : ℕ) (now : List (Result (DirEntry C A R E) (Error A))) (mid new : Entries C A B R E) (x : Result (DirEntry C A R E) (Error A)) → Filled filled now mid → filled < n → Answers readings mid (Some x) new → Filled (filled + 1) (now ++ x ∷ []) new
  one_filled filled now mid new x sofar less step = record {
    answered = sofar.answered ++ x ∷ [];
    appended = ap (λ l. l ++ x ∷ []) sofar.appended ∙ append_assoc before sofar.answered (x ∷ []);
    number = rw sofar.number (sym (length-append sofar.answered (x ∷ [])));
    few = omega (arith, less);
    calls = calls_on (Answers readings) sofar.answered (x ∷ []) old mid new sofar.calls (new, step, refl);
  }

  -- all that were asked for
  pub fills_up : (filled : ℕ) (now : List (Result (DirEntry C A R E) (Error A))) (new : Entries C A B R E) → Filled filled now new → n ≤ filled → Fills readings n old before (Ok filled) now new
  fills_up filled now new sofar no_more = record {
    answered = sofar.answered;
    appended = sofar.appended;
    number = (sofar.number, sofar.few);
    all = inl (omega (arith, no_more, sofar.few));
    fewer = tt;
    calls = inl (omega (arith, no_more, sofar.few), sofar.calls);
    base = same_base readings sofar.answered old new sofar.calls;
    most = fewer_ahead readings sofar.answered old new sofar.calls;
    depths = within readings sofar.answered old new sofar.calls;
    sourced = sourced readings sofar.answered old new sofar.calls;
    lighter = lighter readings sofar.answered old new sofar.calls;
    steady = λ given. stays_steady readings given sofar.answered old new sofar.calls;
    coming = λ given steady. come readings given sofar.answered old new steady sofar.calls;
  }

  -- memory for one more ran out
  pub fills_in_part : (told : Result ℕ AllocError) (filled : ℕ) (now : List (Result (DirEntry C A R E) (Error A))) (new : Entries C A B R E) → IsErr told → Filled filled now new → filled < n → Fills readings n old before told now new
  fills_in_part (Ok k) filled now new failed sofar less = let no : false ≡ true = failed in absurd cc
  fills_in_part (Err error) filled now new failed sofar less = record {
    answered = sofar.answered;
    appended = sofar.appended;
    number = tt;
    all = tt;
    fewer = omega (arith, less, sofar.number);
    calls = sofar.calls;
    base = same_base readings sofar.answered old new sofar.calls;
    most = fewer_ahead readings sofar.answered old new sofar.calls;
    depths = within readings sofar.answered old new sofar.calls;
    sourced = sourced readings sofar.answered old new sofar.calls;
    lighter = lighter readings sofar.answered old new sofar.calls;
    steady = λ given. stays_steady readings given sofar.answered old new sofar.calls;
    coming = λ given steady. come readings given sofar.answered old new steady sofar.calls;
  }

  -- the call after some answers ends them
  at_end : (given : Given R E) (answered : List (Item R E)) (mid new : Entries C A B R E) → to_come readings given mid ≡ [] → held readings new ≡ [] → ComesFirst readings given old answered mid ⊎ EndsEarly readings given old answered mid → ComesFirst readings given old answered new ⊎ EndsEarly readings given old answered new
  at_end given answered mid new none over sofar = elim sofar [
    | inl comes ↦ inl (comes ∙ ap (λ l. map (counted_item given) answered ++ l) (none ∙ sym (ap (value.to_come ((source_of readings new).reading given) (min_depth_of readings new) (max_depth_of readings new)) (held_by_nothing given (unread_of readings new) new over))))
    | inr ends ↦ inr (record { before = ends.before; missed = ends.missed; beginning = ends.beginning; told = ends.told; nothing_held = over })
  ]

  -- the walk ended
  pub fills_all : (filled : ℕ) (now : List (Result (DirEntry C A R E) (Error A))) (mid new : Entries C A B R E) → Filled filled now mid → filled < n → Answers readings mid None new → Fills readings n old before (Ok filled) now new
  fills_all filled now mid new sofar less last =
      record {
        answered = sofar.answered;
        appended = sofar.appended;
        number = (sofar.number, sofar.few);
        all = inr last.ended;
        fewer = tt;
        calls = inr (less, (mid, sofar.calls, last));
        base = last.base ∙ same_base readings sofar.answered old mid sofar.calls;
        most = omega (arith, last.most, fewer_ahead readings sofar.answered old mid sofar.calls);
        depths = λ h. let more = within readings sofar.answered old mid sofar.calls h in (more.0, (last.depths more.1).1);
        sourced = λ h. last.sourced (sourced readings sofar.answered old mid sofar.calls h);
        lighter = let nothing : weight_of readings new ≡ 0 = ap (value.weight (max_depth_of readings new)) last.ended in omega (arith, nothing, lighter readings sofar.answered old mid sofar.calls);
        steady = λ given steady. last.steady given (stays_steady readings given sofar.answered old mid sofar.calls steady);
        coming = λ given steady.
            at_end given (map item sofar.answered) mid new
            (last.coming given (stays_steady readings given sofar.answered old mid sofar.calls steady))
            last.ended
            (come readings given sofar.answered old mid steady sofar.calls);
      }
