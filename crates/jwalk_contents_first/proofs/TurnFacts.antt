-- One turn, by what it is made of.
use Rattle.std.proofs.Common.{◌≡◌, ◌<◌, ◌+◌, ℕ, Bool, true, false, cond, ◌||◌, List, [], ◌∷◌, ◌++◌, length, Option, Some, None, Result, Ok, Err, inl, inr, refl, sym, ap, ap₂, ◌∙◌, subst, arith}
use Rattle.std.specs.Prelude.{not, ◌&&◌}
use Rattle.std.specs.Iterator.{Count, IsFinite, MakesProgress, size}
use Rattle.jwalk_model.specs.Entry.{Entry, Item}
use Rattle.jwalk_job.specs.declared.dir_entry.DirEntry.{DirEntry}
use Rattle.jwalk_job.specs.declared.error.Error.{Error}
use Rattle.jwalk_job.specs.Entry.{entry, item}
use Rattle.jwalk_job.specs.Error.{failure}
use Rattle.jwalk_contents_first.specs.declared.held.Held.{Held as HeldBack}
use Rattle.jwalk_contents_first.specs.declared.iter.ContentsFirst.{ContentsFirst}
use Rattle.jwalk_contents_first.specs.declared.iter.Ahead.{Ahead}
use Rattle.jwalk_contents_first.specs.declared.iter.Ahead.TheVariants.{Unasked, Taken, Over}
use Rattle.jwalk_contents_first.specs.declared.iter.Turn.{Turn}
use Rattle.jwalk_contents_first.specs.declared.iter.Turn.TheVariants.{Yields as TurnYields, GoesOn, Ends}
use Rattle.jwalk_contents_first.specs.ContentsFirst.{depth_at, ends_walk}
use Rattle.jwalk_contents_first.specs.Coming.{Ascends, closing, coming, answers_of, entries_of, held, is_above, is_over, is_over_in, is_unasked_in, is_stopped, left_of, let_out_of, takes_last, waiting_in, turns_in, weight, CanGoOn, MayAsk, SwapsLast, Takes}
use Rattle.jwalk_contents_first.specs.Turns.{ahead_of, LetsOut, Turns}
use Rattle.jwalk_contents_first.proofs.ClosingFacts.{let_out_for, let_out_last, error_first, held_back, one_less, some_held, left_ascends, more_ascends, fits_last, swapped_first}

-- no answer is taken
pub takes_nothing : {I X : Type 0} (next : I → Option X → I → Type 0) (b : Bool) (s t : I) → s ≡ t → Takes next b b s [] t
takes_nothing next true s t same = (refl, same)
takes_nothing next false s t same = same

-- what is to come depends on what is held alone
same_coming : {R E : Type 0} (es es' : List (Entry R E)) (ws ws' : List (Item R E)) (l : List (Item R E)) → es ≡ es' → ws ≡ ws' → closing es (ws ++ l) ≡ closing es' (ws' ++ l)
same_coming es es' ws ws' l a b = cc

module _ {C A R E : Type 0} where
  -- a turn is left less where an entry is let out
  one_turn_less : (a : Ahead C A R E) (n m k : ℕ) → m + 1 ≡ k → turns_in a n m < turns_in a n k
  one_turn_less Unasked n m k is = omega arith
  one_turn_less (Taken x) n m k is = omega arith
  one_turn_less Over n m k is = omega arith

module _ {C A I R E : Type 0} (next : I → Option (Result (DirEntry C A R E) (Error A)) → I → Type 0) (can : I → Type 0) (left : I → Count) where
  -- a turn that lets out an entry, where that is what was to come first
  pub letting_turn : (old new : ContentsFirst C A I R E) (turn : Turn C A R E) → is_stopped old ≡ false → CanGoOn can left old → 0 < length (held old).entries
      → ((l : List (Item R E)) → (is_over old ≡ true → l ≡ []) → coming (held old) l ≡ let_out_of (held old).entries ++ closing (left_of (held old).entries) ((held old).waiting ++ l))
      → LetsOut old turn new → Turns next can left old turn new
  letting_turn old new turn runs may some first c =
      let over : is_over old ≡ is_over new = ap is_over_in (sym c.ahead) in
      record {
        goes = record {
          taken = [];
          takes = subst (λ b. Takes next (is_over old) b (answers_of old) [] (answers_of new)) over (takes_nothing next (is_over old) (answers_of old) (answers_of new) (sym c.answers));
          stays_over = λ is. sym over ∙ is;
          first = λ goes l none.
              first l (λ is. none (sym over ∙ is))
              ∙ ap₂ (λ y s. y ++ s) (sym c.yields)
              (same_coming (left_of (held old).entries) (held new).entries (held old).waiting (held new).waiting l (sym c.left) (ap waiting_in (sym c.ahead)));
          ascends = λ h. subst Ascends (sym c.left) (left_ascends (held old).entries h);
        };
        stops = c.runs ∙ sym (ap₂ (λ a b. a || b) runs c.last);
        silent = λ is. absurd (cc (runs, is));
        ends = λ is. absurd (cc (c.goes_on, is));
        can_go_on = subst (λ b. MayAsk can left b (answers_of new)) over (subst (λ i. MayAsk can left (is_over old) i) (sym c.answers) may);
        falls = λ _.
            subst (λ a. cond (is_stopped new) 0 (turns_in a (size (left (answers_of new))) (length (held new).entries)) < weight left old) (sym c.ahead)
            (subst (λ i. cond (is_stopped new) 0 (turns_in old.ahead (size (left i)) (length (held new).entries)) < weight left old) (sym c.answers)
            (subst (λ b. cond b 0 (turns_in old.ahead (size (left (answers_of old))) (length (held new).entries)) < weight left old) (sym c.runs)
            (subst (λ b. turns_in old.ahead (size (left (answers_of old))) (length (held new).entries) < cond b 0 (turns_in old.ahead (size (left (answers_of old))) (length (held old).entries))) (sym runs)
            (one_turn_less old.ahead (size (left (answers_of old))) (length (held new).entries) (length (held old).entries) (ap (λ es. length es + 1) c.left ∙ one_less (held old).entries some)))));
      }

  -- an entry is let out, since the answer that waits isn't below it
  pub let_out_before : (old new : ContentsFirst C A I R E) (turn : Turn C A R E) (x : Result (DirEntry C A R E) (Error A)) → old.ahead ≡ Taken x → is_stopped old ≡ false → can (answers_of old) → IsFinite (left (answers_of old)) → is_above (depth_at (item x)) (held old).entries ≡ false → LetsOut old turn new → Turns next can left old turn new
  let_out_before old new turn x ahead runs may ends not c =
      letting_turn old new turn runs (subst (λ a. MayAsk can left (is_over_in a) (answers_of old)) (sym ahead) (may, ends)) (some_held (depth_at (item x)) (held old).entries not)
      (λ l _. subst (λ ws. closing (held old).entries (ws ++ l) ≡ let_out_of (held old).entries ++ closing (left_of (held old).entries) (ws ++ l))
      (sym (ap waiting_in ahead)) (let_out_for (held old).entries (item x) l not))
      c

  -- an entry is let out, since the walk has ended
  pub let_out_at_end : (old new : ContentsFirst C A I R E) (turn : Turn C A R E) → old.ahead ≡ Over → is_stopped old ≡ false → 0 < length (held old).entries → LetsOut old turn new → Turns next can left old turn new
  let_out_at_end old new turn ahead runs some c =
      letting_turn old new turn runs (subst (λ a. MayAsk can left (is_over_in a) (answers_of old)) (sym ahead) tt) some
      (λ l none. subst (λ ws. closing (held old).entries ws ≡ let_out_of (held old).entries ++ closing (left_of (held old).entries) ws)
      (sym (ap₂ (λ a m. a ++ m) (ap waiting_in ahead) (none (ap is_over_in ahead)))) (let_out_last (held old).entries))
      c

or_false : (b : Bool) → b ≡ (b || false)
or_false true = refl
or_false false = refl

module _ {C A I R E : Type 0} (next : I → Option (Result (DirEntry C A R E) (Error A)) → I → Type 0) (can : I → Type 0) (left : I → Count) (s : ContentsFirst C A I R E) where
  -- an answer is taken
  pub taken_turn : (t : I) (x : Result (DirEntry C A R E) (Error A)) → next (answers_of s) (Some x) t → can t → IsFinite (left t) → size (left t) < size (left (answers_of s))
      → Turns next can left (record s { ahead = Unasked; stopped = false }) GoesOn (record s { answers = t; ahead = Taken x; stopped = false })
  taken_turn t x step may ends fewer = record {
    goes = record { taken = x ∷ []; takes = (t, step, refl); stays_over = λ is. absurd (cc is); first = λ _ l _. refl; ascends = λ h. h };
    stops = refl;
    silent = λ is. absurd (cc is);
    ends = λ is. absurd (cc is);
    can_go_on = (may, ends);
    falls = λ _. omega arith;
  }

  -- an answer is taken that takes the place of the last entry held back, which is yielded
  pub swapped_turn : (t : I) (found out : DirEntry C A R E) (new : HeldBack C A R E) → next (answers_of s) (Some (Ok found)) t → can t → IsFinite (left t) → size (left t) < size (left (answers_of s))
      → takes_last (entry found).depth (entries_of s.held) ≡ true → SwapsLast (entry found) (entries_of s.held) (entry out) (entries_of new)
      → Turns next can left (record s { ahead = Unasked; stopped = false }) (TurnYields (Ok out)) (record s { answers = t; held = new; ahead = Unasked; stopped = false })
  swapped_turn t found out new step may ends fewer takes c =
      let es = entries_of s.held in
      let fits = fits_last (entry found).depth es takes in
      record {
        goes = record {
          taken = Ok found ∷ [];
          takes = (t, step, refl);
          stays_over = λ is. absurd (cc is);
          first = λ _ l _. swapped_first (entry found) (entry out) es (entries_of new) l takes c;
          ascends = λ h. subst Ascends (sym c.taken) (more_ascends (entry found) (left_of es) fits.0 (left_ascends es h));
        };
        stops = refl;
        silent = λ is. absurd (cc is);
        ends = λ is. absurd (cc is);
        can_go_on = (may, ends);
        falls = λ _. omega (arith, fewer, ap length c.taken, one_less es (some_held (entry found).depth es fits.1));
      }

  -- the walk has ended
  pub over_turn : (t : I) → next (answers_of s) None t → Turns next can left (record s { ahead = Unasked; stopped = false }) GoesOn (record s { answers = t; ahead = Over; stopped = false })
  over_turn t step = record {
    goes = record { taken = []; takes = (answers_of s, refl, step); stays_over = λ is. absurd (cc is); first = λ _ l none. refl; ascends = λ h. h };
    stops = refl;
    silent = λ is. absurd (cc is);
    ends = λ is. absurd (cc is);
    can_go_on = tt;
    falls = λ _. omega arith;
  }

  -- what came from the walk waits
  pub waiting_turn : (t : I) (answer : Option (Result (DirEntry C A R E) (Error A))) → next (answers_of s) answer t → IsFinite (left (answers_of s)) → MakesProgress can left (answers_of s) answer t
      → Turns next can left (record s { ahead = Unasked; stopped = false }) GoesOn (record s { answers = t; ahead = ahead_of answer; stopped = false })
  waiting_turn t (Some x) step ends goes = let on = goes.on ends in taken_turn t x step on.0 on.1 on.2
  waiting_turn t None step ends goes = over_turn t step

  -- an entry is held back
  pub held_turn : (found : DirEntry C A R E) (new : HeldBack C A R E) → can (answers_of s) → IsFinite (left (answers_of s)) → is_above (entry found).depth (entries_of s.held) ≡ true → entries_of new ≡ entry found ∷ entries_of s.held
      → Turns next can left (record s { ahead = Taken (Ok found); stopped = false }) GoesOn (record s { held = new; ahead = Unasked; stopped = false })
  held_turn found new may ends above more = record {
    goes = record {
      taken = [];
      takes = refl;
      stays_over = λ is. is;
      first = λ _ l _. held_back (entry found) (entries_of s.held) l above ∙ ap (λ es. closing es l) (sym more);
      ascends = λ h. subst Ascends (sym more) (more_ascends (entry found) (entries_of s.held) above h);
    };
    stops = refl;
    silent = λ is. absurd (cc is);
    ends = λ is. absurd (cc is);
    can_go_on = (may, ends);
    falls = λ _. omega (arith, ap length more);
  }

  -- an error is yielded
  pub error_turn : (error : Error A) → can (answers_of s) → IsFinite (left (answers_of s)) → ends_walk (failure error) ≡ false → is_above (depth_at {R = R} {E = E} (Err (failure error))) (entries_of s.held) ≡ true
      → Turns next can left (record s { ahead = Taken (Err error); stopped = false }) (TurnYields (Err error)) (record s { ahead = Unasked; stopped = false })
  error_turn error may ends ordinary above = record {
    goes = record {
      taken = [];
      takes = refl;
      stays_over = λ is. is;
      first = λ _ l _. error_first (failure error) (entries_of s.held) l above;
      ascends = λ h. h;
    };
    stops = sym ordinary;
    silent = λ is. absurd (cc is);
    ends = λ is. absurd (cc is);
    can_go_on = (may, ends);
    falls = λ _. omega arith;
  }

  -- an error behind which nothing comes
  pub stopped_turn : (x : Result (DirEntry C A R E) (Error A)) (error : Error A) (new : HeldBack C A R E) → can (answers_of s) → IsFinite (left (answers_of s)) → ends_walk (failure error) ≡ true → (Ascends (entries_of s.held) → Ascends (entries_of new))
      → Turns next can left (record s { ahead = Taken x; stopped = false }) (TurnYields (Err error)) (record s { held = new; ahead = Unasked; stopped = true })
  stopped_turn x error new may ends last ascends = record {
    goes = record { taken = []; takes = refl; stays_over = λ is. is; first = λ goes l _. absurd (cc goes); ascends = ascends };
    stops = sym last;
    silent = λ is. absurd (cc is);
    ends = λ is. absurd (cc is);
    can_go_on = (may, ends);
    falls = λ _. omega arith;
  }

  -- there is nothing more
  pub ended_turn : (new : HeldBack C A R E) → entries_of s.held ≡ [] → entries_of new ≡ [] → Turns next can left (record s { ahead = Over; stopped = false }) Ends (record s { held = new; ahead = Over; stopped = false })
  ended_turn new none none' = record {
    goes = record { taken = []; takes = (refl, refl); stays_over = λ is. is; first = λ _ l _. ap (λ es. closing es l) (none ∙ sym none'); ascends = λ _. subst Ascends (sym none') tt };
    stops = refl;
    silent = λ _. refl;
    ends = λ _. inr (refl, ap (λ es. closing es []) none');
    can_go_on = tt;
    falls = λ is. absurd (cc is);
  }

  -- nothing comes any more
  pub silent_turn : is_stopped s ≡ true → CanGoOn can left s → Turns next can left s Ends s
  silent_turn stopped may = record {
    goes = record { taken = []; takes = takes_nothing next (is_over s) (answers_of s) (answers_of s) refl; stays_over = λ is. is; first = λ _ l _. refl; ascends = λ h. h };
    stops = or_false (is_stopped s);
    silent = λ _. refl;
    ends = λ _. inl stopped;
    can_go_on = may;
    falls = λ is. absurd (cc is);
  }

-- where an answer is to be taken, nothing is known of it, and no error was yielded behind which nothing comes
pub asks_alone : {C A R E : Type 0} (stopped : Bool) (a : Ahead C A R E) → (not stopped && is_unasked_in a) ≡ true → (a ≡ Unasked) × (stopped ≡ false)
asks_alone true a is = absurd (cc is)
asks_alone false Unasked is = (refl, refl)
asks_alone false (Taken x) is = absurd (cc is)
asks_alone false Over is = absurd (cc is)

-- the same answer waits in the same state
pub waits_alike : {C A I R E : Type 0} (s t : ContentsFirst C A I R E) (x y : Option (Result (DirEntry C A R E) (Error A))) → s ≡ t → x ≡ y → ◌≡◌ {A = ContentsFirst C A I R E} (record s { ahead = ahead_of x }) (record t { ahead = ahead_of y })
waits_alike {C = C} {A = A} {I = I} {R = R} {E = E} s t x y p q = ap₂ (λ (u : ContentsFirst C A I R E) z. record u { ahead = ahead_of z }) p q

-- what holds of a state that waits for nothing holds of one that is the same
pub start_as : {X : Type 0} (P : X → Bool → Type 0) (a : X) (b : Bool) (a' : X) (b' : Bool) → a ≡ a' → b ≡ b' → P a' b' → P a b
start_as P a b a' b' p q h = subst (P a) (sym q) (subst (λ x. P x b') (sym p) h)

-- the same turn
pub turn_as : {X Y : Type 0} (P : X → Y → Type 0) (a : X) (b : Y) (a' : X) (b' : Y) → a ≡ a' → b ≡ b' → P a' b' → P a b
turn_as P a b a' b' p q h = subst (P a) (sym q) (subst (λ x. P x b') (sym p) h)
