-- One call of the `next` of a walk over any readings, case by case.
use Rattle.std.proofs.Common.{◌≡◌, ◌∙◌, ◌<◌, ℕ, Bool, true, false, List, [], ◌∷◌, ◌++◌, map, length, Option, Some, None, Result, Err, subst, inl, inr, refl, sym, ap, arith}
use Rattle.std.specs.Prelude.{option_map, IfSome}
use Rattle.jwalk_model.specs.Error.{memory}
use Rattle.jwalk_model.specs.Entry.{Item, NoDeeper}
use Rattle.jwalk_model.specs.ReadDir.{Spec, Outcome}
use Rattle.jwalk_model.specs.Counted.{Worth}
use Rattle.jwalk_model.specs.Listing.{Pair, nothing, answers, listing}
use Rattle.jwalk_model.specs.Held as value
use Rattle.jwalk_model.specs.Held.{pair_up, weight, AnswersPlainly}
use Rattle.jwalk_model.proofs.CountedFacts.{counted-is_answered}
use Rattle.jwalk_model.proofs.HeldFacts.{directories, sourced, sourced_count, alone, heavy}
use Rattle.jwalk_model.proofs.WithinFacts.{is_between}
use Rattle.jwalk_job.specs.declared.error.Error.{Error}
use Rattle.jwalk_job.specs.declared.dir_entry.DirEntry.{DirEntry}
use Rattle.jwalk_job.specs.Error.{failure}
use Rattle.jwalk_job.specs.Entry.{item}
use Rattle.jwalk_job.specs.Given.{Given, counted_item, counted_spec, counted_outcome}
use Rattle.jwalk_iter.specs.Step.{IsAtDirectory, ReadsUpTo, StopsAtDirectory}
use Rattle.jwalk_readings.specs.ReadAhead.{nothing_ahead}
use Rattle.jwalk_readings.specs.Source.{Source}
use Rattle.jwalk_readings.specs.SourceFacts.{found_there}
use Rattle.jwalk_readings.specs.CrewReads.{IsBelow}
use Rattle.jwalk_readings.specs.declared.readings.Readings as Readings
use Rattle.jwalk_iter.specs.declared.entries.Entries.{Entries}
use Rattle.jwalk_iter.specs.declared.skip.Skip.{Skip}
use Rattle.jwalk_iter.specs.declared.skip.Skip.TheVariants.{Nothing}
use Rattle.jwalk_iter.specs.Skip.{behind_error, skip_behind}
use Rattle.jwalk_iter.specs.Entries.{refusal, items_of, held_with, counted_with, AreAllSourced, source_of, unread_of, max_depth_of, held, held_by, to_come, IsSourced, Stops, ArePlaced, IsSteadyWalk, Known, Stays, StaysSteady, GrowsAhead, Answers}
use Rattle.jwalk_iter.proofs.PlacedFacts.{answered_placed, unread_placed}
use Rattle.jwalk_iter.proofs.StepFacts.{next_within, next_lighter, next_count, next_plain, next_listed, left_within, left_lighter, left_count, left_plain, left_to_come}

-- at a directory, the answer depends only on its reading
plainly_any : {R E : Type 0} (min_depth : ℕ) (items : List (Item R E)) (specs : List (Spec R)) (answer : Option (Item R E)) (new : List (Pair R E)) → IsAtDirectory items specs → AnswersPlainly min_depth (pair_up items specs) answer new
plainly_any min_depth [] specs answer new h = absurd h
plainly_any min_depth (x ∷ items) [] answer new h = absurd (h.1 refl)
plainly_any min_depth (x ∷ items) (s ∷ specs) answer new h = rw h.0 tt

-- what is held at a directory isn't nothing
heavy_at : {R E : Type 0} (max_depth : ℕ) (items : List (Item R E)) (specs : List (Spec R)) → IsAtDirectory items specs → 0 < weight max_depth (pair_up items specs)
heavy_at max_depth [] specs h = absurd h
heavy_at max_depth (x ∷ items) specs h = heavy max_depth x items specs

nothing_by : {R E : Type 0} (given : Given R E) (b : Bool) (items : List (Item R E)) (specs : List (Spec R)) → ◌≡◌ {A = List (Pair R E)} (refusal b ++ pair_up items specs) [] → ◌≡◌ {A = List (Pair Worth Worth)} (refusal b ++ pair_up (map (counted_item given) items) (map (counted_spec given) specs)) []
nothing_by given true items specs h = absurd cc
nothing_by given false [] specs h = refl
nothing_by given false (x ∷ items) specs h = absurd cc

module _ {C A B R E : Type 0} where
  held_with_rest : (unread : List (Spec R)) (it : Entries C A B R E) → it.refused ≡ false → held_with unread it ≡ pair_up (items_of it) unread
  held_with_rest unread it started = rw started refl

  pub held_refused : (unread : List (Spec R)) (it : Entries C A B R E) → it.refused ≡ true → held_with unread it ≡ record { item = Err memory; source = nothing } ∷ pair_up (items_of it) unread
  held_refused unread it refused = rw refused refl

  pub held_by_with : (given : Given R E) (unread : List (Spec R)) (it : Entries C A B R E) → it.refused ≡ false → counted_with given unread it ≡ pair_up (map (counted_item given) (items_of it)) (map (counted_spec given) unread)
  held_by_with given unread it started = rw started refl

  held_by_refused : (given : Given R E) (unread : List (Spec R)) (it : Entries C A B R E) → it.refused ≡ true → counted_with given unread it ≡ record { item = Err memory; source = nothing } ∷ pair_up (map (counted_item given) (items_of it)) (map (counted_spec given) unread)
  held_by_refused given unread it refused = rw refused refl

  -- where nothing is held, nothing counts
  pub held_by_nothing : (given : Given R E) (unread : List (Spec R)) (it : Entries C A B R E) → held_with unread it ≡ [] → counted_with given unread it ≡ []
  held_by_nothing given unread it none = nothing_by given it.refused (items_of it) unread none

  pub with_sourced : (unread : List (Spec R)) (it : Entries C A B R E) → it.refused ≡ false → length unread ≡ directories (items_of it) → AreAllSourced (held_with unread it) unread
  with_sourced unread it started count =
      let both = sourced (items_of it) unread count in
      record { each = rw (held_with_rest unread it started) both.0; unread = rw (held_with_rest unread it started) both.1 }

module _ {C A B R E : Type 0} (readings : Readings.Ghosts B C A R E) where
  pub held_rest : (it : Entries C A B R E) → it.refused ≡ false → held readings it ≡ pair_up (items_of it) (unread_of readings it)
  held_rest it started = held_with_rest (unread_of readings it) it started

  held_nothing : (it : Entries C A B R E) → it.refused ≡ false → items_of it ≡ [] → held readings it ≡ []
  held_nothing it started none = held_rest it started ∙ ap (λ l. pair_up l (unread_of readings it)) none

  pub held_by_rest : (given : Given R E) (it : Entries C A B R E) → it.refused ≡ false → held_by readings given it ≡ pair_up (map (counted_item given) (items_of it)) (map (counted_spec given) (unread_of readings it))
  held_by_rest given it started = held_by_with given (unread_of readings it) it started

  pub sourced_rest : (it : Entries C A B R E) → it.refused ≡ false → IsSourced readings it → length (unread_of readings it) ≡ directories (items_of it)
  sourced_rest it started is = sourced_count (items_of it) (unread_of readings it) (rw (held_rest it started) at is.each) (rw (held_rest it started) at is.unread)

  pub rest_sourced : (it : Entries C A B R E) → it.refused ≡ false → length (unread_of readings it) ≡ directories (items_of it) → IsSourced readings it
  rest_sourced it started count = with_sourced (unread_of readings it) it started count

  -- what is known of a reading over what it is steady over
  knows_value : (it : Entries C A B R E) (given : Given R E) → readings.steady it.reads given → (x : Item R E) (s : Spec R) (o : Outcome R E) → Known readings it x s o → counted_outcome given o ≡ (source_of readings it).reading given (counted_spec given s)
  knows_value it given steady x s o known = known.1.0.value given steady

  module _ (old mid : Entries C A B R E) (skip : Skip) (began : old.refused ≡ false) where
    -- the walk, once a skip goes by what was yielded
    abbrev new : Entries C A B R E
    new = record mid { skip = skip }

    abbrev from : Source R E
    from = source_of readings old

    abbrev Listing : Given R E → List (Item R E) → List (Spec R) → List (Item Worth Worth)
    Listing given items specs = listing (from.reading given) from.options.max_depth (pair_up (map (counted_item given) items) (map (counted_spec given) specs))

    come_old : (given : Given R E) → to_come readings given old ≡ answers from.options.min_depth (Listing given (items_of old) (unread_of readings old))
    come_old given = ap (value.to_come (from.reading given) from.options.min_depth from.options.max_depth) (held_by_rest given old began)

    come_new : (given : Given R E) → new.refused ≡ false → readings.base new.reads ≡ readings.base old.reads → to_come readings given new ≡ answers from.options.min_depth (Listing given (items_of new) (unread_of readings new))
    come_new given started base =
        ap (λ b. value.to_come ((readings.source b).reading given) (readings.source b).options.min_depth (readings.source b).options.max_depth (held_by readings given new)) base
        ∙ ap (value.to_come (from.reading given) from.options.min_depth from.options.max_depth) (held_by_rest given new started)

    module _ (stays : Stays readings old mid) where
      started : new.refused ≡ false
      started = stays.refused ∙ began

      -- a walk stays steady where its readings do, and its directories stay below their items
      stays_steady : (ArePlaced from.below (items_of old) (unread_of readings old) → ArePlaced from.below (items_of new) (unread_of readings new)) → StaysSteady readings old new
      stays_steady placed = λ given steady. record { reads = stays.steady given steady.reads; placed = subst (λ b. ArePlaced (readings.source b).below (items_of new) (unread_of readings new)) (sym stays.base) (placed steady.placed) }

      same_weight : (l : List (Pair R E)) → weight (max_depth_of readings new) l ≡ weight from.options.max_depth l
      same_weight l = ap (λ b. weight (readings.source b).options.max_depth l) stays.base

      -- what is read ahead doesn't go by what a skip drops
      grows_as : (answer : Option (Item R E)) → GrowsAhead readings old answer mid → GrowsAhead readings old answer new
      grows_as answer grown = record { left_out = grown.left_out; too_high = grown.too_high; entered = grown.entered; passes = grown.passes; ahead = grown.ahead }

      answers_some : (x : Result (DirEntry C A R E) (Error A)) → skip ≡ skip_behind (item x) → ReadsUpTo from.copies (Known readings old) from.options (items_of old) (unread_of readings old) (Some (item x)) (items_of mid) (unread_of readings mid) → GrowsAhead readings old (Some (item x)) mid → Answers readings old (Some x) new
      answers_some x behind reads grown =
          let copies = from.copies in
          let Knows = Known readings old in
          let o = from.options in
          let left = reads.2 in
          let next = reads.3.0 in
          let kept = reads.3.1 in
          let before = held_rest old began in
          let after = held_rest new started in
          record {
            base = stays.base;
            depths = λ within.
                let parts = next_within copies Knows o next (left_within copies Knows o (items_of old) (unread_of readings old) left within) in
                (is_between o.min_depth o.max_depth (item x) kept parts.0, subst (λ b. NoDeeper (readings.source b).options.max_depth (items_of new)) (sym stays.base) parts.1);
            sourced = λ is. rest_sourced new started (next_count copies Knows o next (left_count copies Knows o (items_of old) (unread_of readings old) left (sourced_rest old began is)));
            plain = rw (before, after) (left_plain copies Knows o (items_of old) (unread_of readings old) left (Some (item x)) (pair_up (items_of new) (unread_of readings new)) (next_plain copies Knows o o.min_depth next kept));
            ended = tt;
            lighter = omega (arith, same_weight (held readings new), ap (weight o.max_depth) before, ap (weight o.max_depth) after, left_lighter copies Knows o (items_of old) (unread_of readings old) left, next_lighter copies Knows o next);
            reads = rw began (inr reads);
            most = stays.most;
            placed = answered_placed from.copies IsBelow (found_there from.copies) Knows o (items_of old) (unread_of readings old) (Some (item x)) (items_of new) (unread_of readings new) reads;
            steady = stays_steady (answered_placed from.copies from.below (readings.sound (readings.base old.reads)).found_below Knows o (items_of old) (unread_of readings old) (Some (item x)) (items_of new) (unread_of readings new) reads);
            skip = behind;
            ahead = λ never goes_on. grows_as (Some (item x)) grown;
            kept = λ refused. absurd cc;
            coming = λ given counted. inr (
                come_old given
                ∙ left_to_come copies Knows o (items_of old) (unread_of readings old) (from.reading given) given (readings.clones old.reads given counted.reads) (knows_value old given counted.reads) left
                ∙ ap (answers o.min_depth) (next_listed copies Knows o (from.reading given) given (readings.clones old.reads given counted.reads) (knows_value old given counted.reads) next)
                ∙ rw (counted-is_answered given.read_dir_state given.dir_entry_state o.min_depth (item x), kept) (ap (λ l. counted_item given (item x) ∷ l) (sym (come_new given started stays.base))));
          }

      answers_none : ReadsUpTo from.copies (Known readings old) from.options (items_of old) (unread_of readings old) None (items_of mid) (unread_of readings mid) → GrowsAhead readings old None mid → Answers readings old None new
      answers_none reads grown =
          let copies = from.copies in
          let Knows = Known readings old in
          let o = from.options in
          let left = reads.2 in
          let none = reads.3.0 in
          let rest = reads.3.1 in
          let same = reads.3.2 in
          let between = reads.0 in
          let unread = reads.1 in
          let before = held_rest old began in
          let after = held_nothing new started rest in
          let nothing_left : pair_up between unread ≡ [] = ap (λ l. pair_up l unread) none in
          record {
            base = stays.base;
            depths = λ within. (tt, rw rest tt);
            sourced = λ is. rest_sourced new started (ap length same ∙ left_count copies Knows o (items_of old) (unread_of readings old) left (sourced_rest old began is) ∙ ap directories (none ∙ sym rest));
            plain = rw (before, after) (left_plain copies Knows o (items_of old) (unread_of readings old) left None [] (rw nothing_left (refl, refl)));
            ended = after;
            lighter = tt;
            reads = rw began (inr reads);
            most = stays.most;
            placed = answered_placed from.copies IsBelow (found_there from.copies) Knows o (items_of old) (unread_of readings old) None (items_of new) (unread_of readings new) reads;
            steady = stays_steady (answered_placed from.copies from.below (readings.sound (readings.base old.reads)).found_below Knows o (items_of old) (unread_of readings old) None (items_of new) (unread_of readings new) reads);
            skip = tt;
            ahead = λ never goes_on. grows_as None grown;
            kept = λ refused. absurd cc;
            coming = λ given counted.
                come_old given
                ∙ left_to_come copies Knows o (items_of old) (unread_of readings old) (from.reading given) given (readings.clones old.reads given counted.reads) (knows_value old given counted.reads) left
                ∙ ap (λ l. answers o.min_depth (Listing given l unread)) none;
          }

      pub answers_reads : (answer : Option (Result (DirEntry C A R E) (Error A))) → IfSome answer (λ x. skip ≡ skip_behind (item x)) → ReadsUpTo from.copies (Known readings old) from.options (items_of old) (unread_of readings old) (option_map item answer) (items_of mid) (unread_of readings mid) → GrowsAhead readings old (option_map item answer) mid → Answers readings old answer new
      answers_reads None behind reads grown = answers_none reads grown
      answers_reads (Some x) behind reads grown = answers_some x behind reads grown

      -- the walk ends early below a directory
      pub answers_stopped : (error : Error A) → skip ≡ behind_error (failure error) → from.tells (failure error) → ((given : Given R E) → IsSteadyWalk readings old given → failure error ≡ memory) → items_of mid ≡ [] → unread_of readings mid ≡ [] → readings.read_ahead mid.reads ≡ nothing_ahead
          → StopsAtDirectory from.copies (Known readings old) from.options (items_of old) (unread_of readings old) → Answers readings old (Some (Err error)) new
      answers_stopped error behind tells steadily none no_unread nothing_left stops =
          let copies = from.copies in
          let Knows = Known readings old in
          let o = from.options in
          let left = stops.2 in
          let at = stops.3 in
          let before = held_rest old began in
          let after = held_nothing new started none in
          let stopped : Stops readings from.tells (Err (failure error)) new = record { error = failure error; told = refl; tells = tells; nothing_held = after; nothing_unread = no_unread; nothing_ahead = nothing_left } in
          record {
            base = stays.base;
            depths = λ within. (tt, rw none tt);
            sourced = λ is. record { each = rw after tt; unread = rw (after, no_unread) refl };
            plain = rw before (left_plain copies Knows o (items_of old) (unread_of readings old) left (Some (Err (failure error))) (held readings new) (plainly_any o.min_depth stops.0 stops.1 (Some (Err (failure error))) (held readings new) at));
            ended = tt;
            lighter = rw (before, after) (omega (arith, left_lighter copies Knows o (items_of old) (unread_of readings old) left, heavy_at o.max_depth stops.0 stops.1 at));
            reads = rw began (inl stopped);
            most = stays.most;
            placed = λ placed. unread_placed from.copies IsBelow (found_there from.copies) (items_of new) (unread_of readings new) no_unread;
            steady = stays_steady (λ placed. unread_placed from.copies from.below (readings.sound (readings.base old.reads)).found_below (items_of new) (unread_of readings new) no_unread);
            skip = behind;
            ahead = λ never goes_on. absurd (goes_on stopped);
            kept = λ refused. absurd cc;
            coming = λ given counted. inl (record { error = failure error; told = refl; tells = steadily given counted; nothing_held = after; nothing_unread = no_unread; nothing_ahead = nothing_left });
          }

  -- a walk that ran out of memory at its start yields the error that says so
  pub answers_refusal : (it : Entries C A B R E) (error : Error A) → failure error ≡ memory → it.refused ≡ true → Answers readings it (Some (Err error)) (record it { refused = false; skip = Nothing })
  answers_refusal it error told refused =
      let new : Entries C A B R E = record it { refused = false; skip = Nothing } in
      let from = source_of readings it in
      let o = from.options in
      let front = held_refused (unread_of readings it) it refused in
      record {
        base = refl;
        depths = λ within. (tt, within);
        sourced = λ is. record { each = (rw front at is.each).1; unread = rw front at is.unread };
        plain = rw (front, told) (refl, refl);
        ended = tt;
        lighter = rw front (omega arith);
        reads = rw refused refl;
        most = omega arith;
        placed = λ placed. placed;
        steady = λ given steady. record { reads = steady.reads; placed = steady.placed };
        skip = rw told refl;
        ahead = λ began. absurd cc;
        kept = λ was. refl;
        coming = λ given counted. inr (
            ap (value.to_come (from.reading given) o.min_depth o.max_depth) (held_by_refused given (unread_of readings it) it refused)
            ∙ ap (answers o.min_depth) (alone (from.reading given) o.max_depth (Err memory) (map (counted_item given) (items_of it)) (map (counted_spec given) (unread_of readings it)) refl)
            ∙ ap (λ f. Err f ∷ answers o.min_depth (listing (from.reading given) o.max_depth (pair_up (map (counted_item given) (items_of it)) (map (counted_spec given) (unread_of readings it))))) (sym told));
      }
