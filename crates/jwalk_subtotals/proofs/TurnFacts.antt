-- One turn, by what it is made of.
use Rattle.std.proofs.Common.{◌≡◌, ◌≤◌, ◌<◌, ◌+◌, ℕ, Bool, true, false, cond, ◌||◌, List, [], ◌∷◌, ◌++◌, length, Option, Some, None, Result, Ok, Err, inl, inr, refl, sym, ap, ap₂, ◌∙◌, subst, arith}
use Rattle.std.specs.Prelude.{◌↔◌, IsTrue}
use Rattle.std.specs.Iterator.{Count, IsFinite, size}
use Rattle.jwalk.specs.jwalk_model.declared.metadata.Identity.{Identity}
use Rattle.jwalk.specs.jwalk_model.Entry.{Entry, Item}
use Rattle.jwalk.specs.jwalk_job.declared.dir_entry.DirEntry.{DirEntry}
use Rattle.jwalk.specs.jwalk_job.declared.error.Error.{Error}
use Rattle.jwalk.specs.jwalk_job.Entry.{entry, item}
use Rattle.jwalk.specs.jwalk_job.Error.{failure}
use Rattle.jwalk_subtotals.specs.declared.options.SubtotalOptions.{SubtotalOptions}
use Rattle.jwalk_subtotals.specs.declared.iter.Subtotals.{Subtotals}
use Rattle.jwalk_subtotals.specs.declared.iter.Ahead.{Ahead}
use Rattle.jwalk_subtotals.specs.declared.iter.Ahead.TheVariants.{Unasked, Taken, Over}
use Rattle.jwalk_subtotals.specs.declared.iter.Turn.{Turn}
use Rattle.jwalk_subtotals.specs.declared.iter.Turn.TheVariants.{Yields as TurnYields, GoesOn, Ends}
use Rattle.jwalk_subtotals.specs.declared.stack.Stack.{Stack}
use Rattle.jwalk_subtotals.specs.declared.files.Files.{Files}
use Rattle.jwalk_subtotals.specs.declared.error.SubtotalError.{SubtotalError}
use Rattle.jwalk_subtotals.specs.declared.error.SubtotalError.TheVariants.{Walk, TooMany}
use Rattle.jwalk_subtotals.specs.declared.stack.WithSubtotal.{WithSubtotal}
use Rattle.jwalk_subtotals.specs.declared.subtotal.Subtotal.{Subtotal}
use Rattle.jwalk_subtotals.specs.Subtotal.{nothing, plus, IsTooGreat}
use Rattle.jwalk_subtotals.specs.Counted.{weighed, one_error, counted_once, with_file, files_after, HaveSame}
use Rattle.jwalk_subtotals.specs.Subtotals.{depth_at, is_asked, total}
use Rattle.jwalk_subtotals.specs.Stack.{Frame, frames_of, open_total, is_above, added, entered, left_of, closed_of}
use Rattle.jwalk_subtotals.specs.Coming.{closing, coming, answers_of, options_of, held, is_over, is_over_in, is_stopped, waiting_in, turns_in, weight, stops_with, CanGoOn, MayAsk, Takes}
use Rattle.jwalk_subtotals.specs.Turns.{result_of, own_beside, Closes, Enters, Turns}
use Rattle.jwalk_subtotals.specs.Files.{files_of}
use Rattle.jwalk_subtotals.specs.Error.{ends_walk, is_last}
use Rattle.jwalk_subtotals.proofs.GreatFacts.{added_great, entered_great, left_great, close_great}
use Rattle.jwalk_subtotals.proofs.ComingFacts.{weighed_same, after_same, entered_on, counted_first, closed_for, closed_last, one_less, some_open}

-- no answer is taken
pub takes_nothing : {I X : Type 0} (next : I → Option X → I → Type 0) (b : Bool) (s t : I) → s ≡ t → Takes next b b s [] t
takes_nothing next true s t same = (refl, same)
takes_nothing next false s t same = same

-- what is to come depends on what is held alone
pub same_coming : {R E : Type 0} (o o' : SubtotalOptions) (fs fs' : List (Frame R E)) (ks ks' : List Identity) (ws ws' : List (Item R E)) (l : List (Item R E)) → o ≡ o' → fs ≡ fs' → ks ≡ ks' → ws ≡ ws'
    → closing o nothing fs (weighed o ks (ws ++ l)) ≡ closing o' nothing fs' (weighed o' ks' (ws' ++ l))
same_coming o o' fs fs' ks ks' ws ws' l a b c d = cc

same_all : {R E : Type 0} (o o' : SubtotalOptions) (fs fs' : List (Frame R E)) (ks ks' : List Identity) (ws ws' : List (Item R E)) (l : List (Item R E)) → o ≡ o' → fs ≡ fs' → ks ≡ ks' → ws ≡ ws'
    → plus (open_total fs) (total (weighed o ks (ws ++ l))) ≡ plus (open_total fs') (total (weighed o' ks' (ws' ++ l)))
same_all o o' fs fs' ks ks' ws ws' l a b c d = cc

-- so do the files that are counted
pub same_counted : {R E : Type 0} (o o' : SubtotalOptions) (ks ks' : List Identity) (ws ws' : List (Item R E)) (l : List (Item R E)) → o ≡ o' → ks ≡ ks' → ws ≡ ws' → HaveSame (files_after o ks (ws ++ l)) (files_after o' ks' (ws' ++ l))
same_counted o o' ks ks' ws ws' l a b c i = cc

same_error : {X A : Type 0} (a b : SubtotalError A) → ◌≡◌ {A = Option (Result X (SubtotalError A))} (Some (Err a)) (Some (Err b)) → a ≡ b
same_error a b is = cc

module _ {C A R E : Type 0} where
  -- a turn is left less where an entry is closed
  one_turn_less : (a : Ahead C A R E) (n m k : ℕ) → m + 1 ≡ k → turns_in a n m < turns_in a n k
  one_turn_less Unasked n m k is = omega arith
  one_turn_less (Taken x) n m k is = omega arith
  one_turn_less Over n m k is = omega arith

  some_turn : (a : Ahead C A R E) (n k : ℕ) → 0 < k → 0 < turns_in a n k
  some_turn Unasked n k is = omega arith
  some_turn (Taken x) n k is = omega arith
  some_turn Over n k is = omega arith

  -- the same, where nothing more may come
  fewer : (a : Ahead C A R E) (n m k : ℕ) (stopped : Bool) → 0 < k → (stopped ≡ false → m + 1 ≡ k) → cond stopped 0 (turns_in a n m) < turns_in a n k
  fewer a n m k true some less = some_turn a n k some
  fewer a n m k false some less = one_turn_less a n m k (less refl)

module _ {C A I R E : Type 0} (next : I → Option (Result (DirEntry C A R E) (Error A)) → I → Type 0) (can : I → Type 0) (left : I → Count) where
  -- a turn that closes an entry, where that is what was to come first
  pub closing_turn : (old new : Subtotals C A I R E) (turn : Turn C A R E) → is_stopped old ≡ false → CanGoOn can left old → 0 < length (held old).frames
      → ((l : List (Item R E)) → (is_over old ≡ true → l ≡ []) → coming (options_of old) (held old) l
      ≡ closed_of (held old).frames ++ closing (options_of old) nothing (left_of (held old).frames) (weighed (options_of old) (held old).files ((held old).waiting ++ l)))
      → Closes old turn new → Turns next can left old turn new
  closing_turn old new turn runs may some first c =
      let over : is_over old ≡ is_over new = ap is_over_in (sym c.ahead) in
      record {
        goes = record {
          taken = [];
          takes = subst (λ b. Takes next (is_over old) b (answers_of old) [] (answers_of new)) over (takes_nothing next (is_over old) (answers_of old) (answers_of new) (sym c.answers));
          stays_over = λ is. sym over ∙ is;
          options = c.options;
          first = λ goes l none.
              first l (λ is. none (sym over ∙ is))
              ∙ ap₂ (λ y s. y ++ s) (sym (c.closed goes))
              (same_coming (options_of old) (options_of new) (left_of (held old).frames) (held new).frames (held old).files (held new).files (held old).waiting (held new).waiting l
              (sym c.options) (sym (c.left goes)) (sym c.files) (ap waiting_in (sym c.ahead)));
          counted = λ goes l.
              same_counted (options_of new) (options_of old) (held new).files (held old).files (held new).waiting (held old).waiting l
              c.options c.files (ap waiting_in c.ahead);
          no_more = λ goes l none h.
              left_great (total (weighed (options_of old) (held old).files ((held old).waiting ++ l))) (held old).frames
              (subst IsTooGreat (same_all (options_of new) (options_of old) (held new).frames (left_of (held old).frames) (held new).files (held old).files (held new).waiting (held old).waiting l
              c.options (c.left goes) c.files (ap waiting_in c.ahead)) h);
        };
        stops = subst (λ b. is_stopped new ≡ (b || stops_with (result_of turn))) (sym runs) c.stops;
        silent = λ is. absurd (cc (runs, is));
        too_many = λ is. close_great (total (weighed (options_of old) (held old).files ((held old).waiting ++ []))) (held old).frames (c.too_many is);
        ends = λ is. absurd (cc (c.goes_on, is));
        can_go_on = subst (λ b. MayAsk can left b (answers_of new)) over (subst (λ i. MayAsk can left (is_over old) i) (sym c.answers) may);
        falls = λ _.
            subst (λ a. cond (is_stopped new) 0 (turns_in a (size (left (answers_of new))) (length (held new).frames)) < weight left old) (sym c.ahead)
            (subst (λ i. cond (is_stopped new) 0 (turns_in old.ahead (size (left i)) (length (held new).frames)) < weight left old) (sym c.answers)
            (subst (λ b. cond (is_stopped new) 0 (turns_in old.ahead (size (left (answers_of old))) (length (held new).frames)) < cond b 0 (turns_in old.ahead (size (left (answers_of old))) (length (held old).frames))) (sym runs)
            (fewer old.ahead (size (left (answers_of old))) (length (held new).frames) (length (held old).frames) (is_stopped new) some
            (λ goes. ap (λ fs. length fs + 1) (c.left goes) ∙ one_less (held old).frames some))));
      }

  -- an entry is closed, since the answer that waits isn't below it
  pub closed_before : (old new : Subtotals C A I R E) (turn : Turn C A R E) (x : Result (DirEntry C A R E) (Error A)) → old.ahead ≡ Taken x → is_stopped old ≡ false → can (answers_of old) → IsFinite (left (answers_of old)) → is_above (depth_at (item x)) (held old).frames ≡ false → Closes old turn new → Turns next can left old turn new
  closed_before old new turn x ahead runs may ends not c =
      closing_turn old new turn runs (subst (λ a. MayAsk can left (is_over_in a) (answers_of old)) (sym ahead) (may, ends)) (some_open (depth_at (item x)) (held old).frames not)
      (λ l _. subst (λ ws. closing (options_of old) nothing (held old).frames (weighed (options_of old) (held old).files (ws ++ l)) ≡ closed_of (held old).frames ++ closing (options_of old) nothing (left_of (held old).frames) (weighed (options_of old) (held old).files (ws ++ l)))
      (sym (ap waiting_in ahead)) (closed_for (options_of old) (held old).frames (held old).files (item x) l not))
      c

  -- an entry is closed, since the walk has ended
  pub closed_at_end : (old new : Subtotals C A I R E) (turn : Turn C A R E) → old.ahead ≡ Over → is_stopped old ≡ false → 0 < length (held old).frames → Closes old turn new → Turns next can left old turn new
  closed_at_end old new turn ahead runs some c =
      closing_turn old new turn runs (subst (λ a. MayAsk can left (is_over_in a) (answers_of old)) (sym ahead) tt) some
      (λ l none. subst (λ ws. closing (options_of old) nothing (held old).frames (weighed (options_of old) (held old).files ws) ≡ closed_of (held old).frames ++ closing (options_of old) nothing (left_of (held old).frames) (weighed (options_of old) (held old).files ws))
      (sym (ap₂ (λ a m. a ++ m) (ap waiting_in ahead) (none (ap is_over_in ahead)))) (closed_last (options_of old) (held old).frames))
      c

or_false : (b : Bool) → b ≡ (b || false)
or_false true = refl
or_false false = refl

length_added : {R E : Type 0} (t : _) (fs : List (Frame R E)) → length (added t fs) ≡ length fs
length_added t [] = refl
length_added t (f ∷ fs) = refl

length_entered : {R E : Type 0} (b : Bool) (e : Entry R E) (t : Subtotal) (fs : List (Frame R E)) → length (entered b e t fs) ≤ length fs + 1
length_entered true e t fs = omega arith
length_entered false e t fs = omega (arith, length_added t fs)

module _ {C A I R E : Type 0} (next : I → Option (Result (DirEntry C A R E) (Error A)) → I → Type 0) (can : I → Type 0) (left : I → Count) (s : Subtotals C A I R E) where
  -- an answer is taken
  pub taken_turn : (t : I) (x : Result (DirEntry C A R E) (Error A)) → next (answers_of s) (Some x) t → can t → IsFinite (left t) → size (left t) < size (left (answers_of s))
      → Turns next can left (record s { ahead = Unasked; stopped = false }) GoesOn (record s { answers = t; ahead = Taken x; stopped = false })
  taken_turn t x step may ends fewer = record {
    goes = record { taken = x ∷ []; takes = (t, step, refl); stays_over = λ is. absurd (cc is); options = refl; first = λ _ l _. refl; counted = λ _ l i. refl; no_more = λ _ l _ h. h };
    stops = refl;
    silent = λ is. absurd (cc is);
    too_many = λ is. absurd (cc is);
    ends = λ is. absurd (cc is);
    can_go_on = (may, ends);
    falls = λ _. omega arith;
  }

  -- the walk has ended
  pub over_turn : (t : I) → next (answers_of s) None t → Turns next can left (record s { ahead = Unasked; stopped = false }) GoesOn (record s { answers = t; ahead = Over; stopped = false })
  over_turn t step = record {
    goes = record { taken = []; takes = (answers_of s, refl, step); stays_over = λ is. absurd (cc is); options = refl; first = λ _ l none. refl; counted = λ _ l i. refl; no_more = λ _ l _ h. h };
    stops = refl;
    silent = λ is. absurd (cc is);
    too_many = λ is. absurd (cc is);
    ends = λ is. absurd (cc is);
    can_go_on = tt;
    falls = λ _. omega arith;
  }

  -- an entry is opened, or counts below the last
  pub entered_turn : (found : DirEntry C A R E) (stack : Stack C A R E) (files : Files A) → can (answers_of s) → IsFinite (left (answers_of s)) → is_above (entry found).depth (frames_of s.stack) ≡ true
      → Enters (options_of s) (record { frames = frames_of s.stack; files = files_of s.files; waiting = [] }) (entry found) (record { frames = frames_of stack; files = files_of files; waiting = [] })
      → Turns next can left (record s { ahead = Taken (Ok found); stopped = false }) GoesOn (record s { stack = stack; files = files; ahead = Unasked; stopped = false })
  entered_turn found stack files may ends above enters =
      let o = options_of s in
      let e = entry found in
      let known = files_of s.files in
      let t = own_beside o known e in
      record {
        goes = record {
          taken = [];
          takes = refl;
          stays_over = λ is. is;
          options = refl;
          first = λ _ l _.
              entered_on o (frames_of s.stack) known (files_of files) e l above enters.files
              ∙ ap (λ fs. closing o nothing fs (weighed o (files_of files) l)) (sym enters.frames);
          counted = λ _ l. after_same o (files_of files) (with_file (counted_once o e) known) enters.files l;
          no_more = λ _ l _ h.
              entered_great (is_asked o e) e t (total (weighed o (with_file (counted_once o e) known) l)) (frames_of s.stack)
              (subst IsTooGreat (ap₂ (λ fs m. plus (open_total fs) (total m)) enters.frames (weighed_same o (files_of files) (with_file (counted_once o e) known) enters.files l)) h);
        };
        stops = refl;
        silent = λ is. absurd (cc is);
        too_many = λ is. absurd (cc is);
        ends = λ is. absurd (cc is);
        can_go_on = (may, ends);
        falls = λ _. omega (arith, ap length enters.frames, length_entered (is_asked o e) e t (frames_of s.stack));
      }

  -- an error is counted
  pub error_turn : (error : Error A) (stack : Stack C A R E) → can (answers_of s) → IsFinite (left (answers_of s)) → ends_walk (failure error) ≡ false → is_above (depth_at {R = R} {E = E} (Err (failure error))) (frames_of s.stack) ≡ true → frames_of stack ≡ added one_error (frames_of s.stack)
      → Turns next can left (record s { ahead = Taken (Err error); stopped = false }) (TurnYields (Err (Walk error))) (record s { stack = stack; ahead = Unasked; stopped = false })
  error_turn error stack may ends ordinary above counted = record {
    goes = record {
      taken = [];
      takes = refl;
      stays_over = λ is. is;
      options = refl;
      first = λ _ l _.
          counted_first (options_of s) (frames_of s.stack) (files_of s.files) (failure error) l above
          ∙ ap (λ fs. Err (failure error) ∷ closing (options_of s) nothing fs (weighed (options_of s) (files_of s.files) l)) (sym counted);
      counted = λ _ l i. refl;
      no_more = λ _ l _ h. added_great one_error (total (weighed (options_of s) (files_of s.files) l)) (frames_of s.stack) (subst (λ fs. IsTooGreat (plus (open_total fs) (total (weighed (options_of s) (files_of s.files) l)))) counted h);
    };
    stops = sym ordinary;
    silent = λ is. absurd (cc is);
    too_many = λ is. absurd (cc is);
    ends = λ is. absurd (cc is);
    can_go_on = (may, ends);
    falls = λ _. omega (arith, ap length counted, length_added one_error (frames_of s.stack));
  }

  -- an error behind which nothing comes
  pub stopped_turn : (x : Result (DirEntry C A R E) (Error A)) (error : SubtotalError A) (stack : Stack C A R E) (files : Files A) → can (answers_of s) → IsFinite (left (answers_of s)) → is_last error ≡ true → (error ≡ TooMany → IsTooGreat (plus (open_total (frames_of s.stack)) (total (weighed (options_of s) (files_of s.files) (item x ∷ [])))))
      → Turns next can left (record s { ahead = Taken x; stopped = false }) (TurnYields (Err error)) (record s { stack = stack; files = files; ahead = Unasked; stopped = true })
  stopped_turn x error stack files may ends last many = record {
    goes = record { taken = []; takes = refl; stays_over = λ is. is; options = refl; first = λ goes l _. absurd (cc goes); counted = λ goes l. absurd (cc goes); no_more = λ goes l _ h. absurd (cc goes) };
    stops = sym last;
    silent = λ is. absurd (cc is);
    too_many = λ is. many (same_error {X = WithSubtotal C A R E} error TooMany is);
    ends = λ is. absurd (cc is);
    can_go_on = (may, ends);
    falls = λ _. omega arith;
  }

  -- there is nothing more
  pub ended_turn : frames_of s.stack ≡ [] → Turns next can left (record s { ahead = Over; stopped = false }) Ends (record s { ahead = Over; stopped = false })
  ended_turn none = record {
    goes = record { taken = []; takes = (refl, refl); stays_over = λ is. is; options = refl; first = λ _ l _. refl; counted = λ _ l i. refl; no_more = λ _ l _ h. h };
    stops = refl;
    silent = λ _. refl;
    too_many = λ is. absurd (cc is);
    ends = λ _. inr (refl, ap (λ fs. closing (options_of s) nothing fs []) none);
    can_go_on = tt;
    falls = λ is. absurd (cc is);
  }

  -- nothing comes any more
  pub silent_turn : is_stopped s ≡ true → CanGoOn can left s → Turns next can left s Ends s
  silent_turn stopped may = record {
    goes = record { taken = []; takes = takes_nothing next (is_over s) (answers_of s) (answers_of s) refl; stays_over = λ is. is; options = refl; first = λ _ l _. refl; counted = λ _ l i. refl; no_more = λ _ l _ h. h };
    stops = or_false (is_stopped s);
    silent = λ _. refl;
    too_many = λ is. absurd (cc is);
    ends = λ _. inl stopped;
    can_go_on = may;
    falls = λ is. absurd (cc is);
  }

-- what holds of a state that waits for nothing holds of one that is the same
pub start_as : {X : Type 0} (P : X → Bool → Type 0) (a : X) (b : Bool) (a' : X) (b' : Bool) → a ≡ a' → b ≡ b' → P a' b' → P a b
start_as P a b a' b' p q h = subst (P a) (sym q) (subst (λ x. P x b') (sym p) h)

-- the same turn
pub turn_as : {X Y : Type 0} (P : X → Y → Type 0) (a : X) (b : Y) (a' : X) (b' : Y) → a ≡ a' → b ≡ b' → P a' b' → P a b
turn_as P a b a' b' p q h = subst (P a) (sym q) (subst (λ x. P x b') (sym p) h)

-- some entry is open if there isn't none
pub some_if_not : {X : Type 0} (r : Bool) (fs : List X) → (IsTrue r ↔ (fs ≡ [])) → r ≡ false → 0 < length fs
some_if_not r [] iff not = absurd (cc (iff.1 refl, not))
some_if_not r (f ∷ fs) iff not = omega arith

pub stopped_as : {C A I R E : Type 0} (m n : Subtotals C A I R E) → m ≡ n → record m { stopped = true } ≡ record n { stopped = true }
stopped_as {C} {A} {I} {R} {E} m n same = ap (λ (s : Subtotals C A I R E). record s { stopped = true }) same
