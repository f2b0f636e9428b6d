-- What is yielded from here on, before and after a step.
use Rattle.std.proofs.Common.{◌≡◌, ◌<◌, ◌+◌, ℕ, Bool, true, false, ◌||◌, List, [], ◌∷◌, ◌++◌, length, Option, Some, None, Ok, Err, refl, sym, ap, ap₂, ◌∙◌, arith}
use Rattle.std.specs.Prelude.{nat_lt}
use Rattle.jwalk.specs.jwalk_model.declared.metadata.Identity.{Identity}
use Rattle.jwalk.specs.jwalk_model.Metadata.{same_file}
use Rattle.jwalk.specs.jwalk_model.Error.{Failure}
use Rattle.jwalk.specs.jwalk_model.Entry.{Entry, Item}
use Rattle.jwalk_subtotals.specs.declared.options.SubtotalOptions.{SubtotalOptions}
use Rattle.jwalk_subtotals.specs.Subtotal.{nothing}
use Rattle.jwalk_subtotals.specs.Counted.{Weighed, weighed, counted_once, own, one_error, is_repeated, with_file, files_after, HaveSame}
use Rattle.jwalk_subtotals.specs.Subtotals.{depth_at, below, is_asked}
use Rattle.jwalk_subtotals.specs.Stack.{Frame, is_above, added, entered, left_of, closed_of}
use Rattle.jwalk_subtotals.specs.Files.{AreWith}
use Rattle.jwalk_subtotals.specs.Coming.{closing}
use Rattle.jwalk_subtotals.specs.Turns.{own_beside}
use Rattle.jwalk_subtotals.proofs.ClosingFacts.{closed_first, error_first, entered_first}

repeated_same : (files others : List Identity) → HaveSame files others → (file : Option Identity) → is_repeated files file ≡ is_repeated others file
repeated_same files others same None = refl
repeated_same files others same (Some i) = same i

with_same : (files others : List Identity) → HaveSame files others → (file : Option Identity) → HaveSame (with_file file files) (with_file file others)
with_same files others same None i = same i
with_same files others same (Some j) i = ap (λ b. same_file i j || b) (same i)

module _ {R E : Type 0} where
  -- what answers count depends on which files were counted, and not on their order
  pub weighed_same : (o : SubtotalOptions) (files others : List Identity) → HaveSame files others → (l : List (Item R E)) → weighed o files l ≡ weighed o others l
  weighed_same o files others same [] = refl
  weighed_same o files others same (Err f ∷ l) = ap (λ m. (Err f, one_error) ∷ m) (weighed_same o files others same l)
  weighed_same o files others same (Ok e ∷ l) =
      ap₂ (λ (again : Bool) (m : List (Weighed R E)). (Ok e, own o.apparent again e) ∷ m)
      (repeated_same files others same (counted_once o e))
      (weighed_same o (with_file (counted_once o e) files) (with_file (counted_once o e) others) (with_same files others same (counted_once o e)) l)

  -- so do the files that are counted behind them
  pub after_same : (o : SubtotalOptions) (files others : List Identity) → HaveSame files others → (l : List (Item R E)) → HaveSame (files_after o files l) (files_after o others l)
  after_same o files others same [] = same
  after_same o files others same (Err f ∷ l) = after_same o files others same l
  after_same o files others same (Ok e ∷ l) =
      after_same o (with_file (counted_once o e) files) (with_file (counted_once o e) others) (with_same files others same (counted_once o e)) l

  -- an entry that waited is entered
  pub entered_on : (o : SubtotalOptions) (frames : List (Frame R E)) (files others : List Identity) (e : Entry R E) (l : List (Item R E)) → is_above e.depth frames ≡ true → AreWith (counted_once o e) files others
      → closing o nothing frames (weighed o files (Ok e ∷ l)) ≡ closing o nothing (entered (is_asked o e) e (own_beside o files e) frames) (weighed o others l)
  entered_on o frames files others e l above same =
      entered_first o e (own_beside o files e) frames (weighed o (with_file (counted_once o e) files) l) above
      ∙ ap (closing o nothing (entered (is_asked o e) e (own_beside o files e) frames)) (sym (weighed_same o others (with_file (counted_once o e) files) same l))

  -- an error that waited is counted
  pub counted_first : (o : SubtotalOptions) (frames : List (Frame R E)) (files : List Identity) (f : Failure) (l : List (Item R E)) → is_above (depth_at {R = R} {E = E} (Err f)) frames ≡ true
      → closing o nothing frames (weighed o files (Err f ∷ l)) ≡ Err f ∷ closing o nothing (added one_error frames) (weighed o files l)
  counted_first o frames files f l above = error_first o f one_error frames (weighed o files l) above

  none_below : (o : SubtotalOptions) (d : ℕ) (files : List Identity) (x : Item R E) (l : List (Item R E)) → nat_lt d (depth_at x) ≡ false → below d (weighed o files (x ∷ l)) ≡ []
  none_below o d files (Ok e) l not = rw not refl
  none_below o d files (Err f) l not = rw not refl

  -- an entry is closed, since the answer that waits isn't below it
  pub closed_for : (o : SubtotalOptions) (frames : List (Frame R E)) (files : List Identity) (x : Item R E) (l : List (Item R E)) → is_above (depth_at x) frames ≡ false
      → closing o nothing frames (weighed o files (x ∷ l)) ≡ closed_of frames ++ closing o nothing (left_of frames) (weighed o files (x ∷ l))
  closed_for o [] files x l not = absurd cc
  closed_for o (f ∷ fs) files x l not = closed_first o f fs (weighed o files (x ∷ l)) (none_below o f.entry.depth files x l not)

  -- an entry is closed, since the walk has ended
  pub closed_last : (o : SubtotalOptions) (frames : List (Frame R E)) → closing o nothing frames [] ≡ closed_of frames ++ closing o nothing (left_of frames) []
  closed_last o [] = refl
  closed_last o (f ∷ fs) = closed_first o f fs [] refl

  -- there is one open entry less
  pub one_less : (frames : List (Frame R E)) → 0 < length frames → length (left_of frames) + 1 ≡ length frames
  one_less [] some = absurd (omega arith)
  one_less (f ∷ []) some = refl
  one_less (f ∷ g ∷ fs) some = omega arith

  -- some entry is open if the last isn't above something
  pub some_open : (depth : ℕ) (frames : List (Frame R E)) → is_above depth frames ≡ false → 0 < length frames
  some_open depth [] not = absurd cc
  some_open depth (f ∷ fs) not = omega arith
