-- What an iterator over differences yields from its beginning on.
use Rattle.std.proofs.Common.{◌≡◌, ◌⊎◌, Bool, true, false, ◌||◌, List, [], ◌∷◌, ◌++◌, Option, Some, None, Result, Err, inl, inr, refl, sym, ap, ap₂, ◌∙◌, subst, append_assoc}
use Rattle.std.specs.Prelude.{flat_map}
use Rattle.std.specs.List.{list_any}
use Rattle.std.specs.Iterator.{Drains, Yields}
use Rattle.std.proofs.lemmas.List.{append-nil}
use Rattle.jwalk_changes.specs.declared.facts.Facts.{Facts}
use Rattle.jwalk_changes.specs.declared.change.Change.{Change}
use Rattle.jwalk_changes.specs.declared.change.NotAscending.{NotAscending}
use Rattle.jwalk_changes.specs.declared.change.NotAscending.TheVariants.{Old, New, Unknown}
use Rattle.jwalk_changes.specs.declared.side.Ahead.{Ahead}
use Rattle.jwalk_changes.specs.declared.side.Ahead.TheVariants.{Unasked, Taken, Over, Fallen}
use Rattle.jwalk_changes.specs.declared.side.Side.{Side}
use Rattle.jwalk_changes.specs.declared.iter.Changes.{Changes}
use Rattle.jwalk_changes.specs.Differences.{Ascends, IsDifferences}
use Rattle.jwalk_changes.specs.Side.{MayBeLeft, Passes, Takes, waiting, items_of, is_over, is_over_in, is_fallen, is_fallen_in}
use Rattle.jwalk_changes.specs.Coming.{old_of, new_of, unknown_of, is_stopped, value, is_error, IsFresh, HasFallen, AreOver, Goes, Gives}
use Rattle.jwalk_changes.specs.Whole.{DoesNotAscend, ComparesAll, IsTrueOf, AllAreYielded, ErrorsAreTrue}
use Rattle.jwalk_changes.proofs.OrderFacts.{Path}
use Rattle.jwalk_changes.proofs.DiffFacts.{none_differ}
use Rattle.jwalk_changes.proofs.SideFacts.{takes_to_end}
use Rattle.jwalk_changes.proofs.TurnFacts.{goes_nowhere, goes_on}

-- ---- one input

over_ascends : {X : Type 0} (a : Ahead X) → is_over_in a ≡ true → is_fallen_in a ≡ false
over_ascends Unasked is = absurd (cc is)
over_ascends (Taken x) is = absurd (cc is)
over_ascends Over is = refl
over_ascends Fallen is = absurd (cc is)

over_waits : {X : Type 0} (a : Ahead X) → is_over_in a ≡ true → waiting a ≡ []
over_waits Unasked is = absurd (cc is)
over_waits (Taken x) is = absurd (cc is)
over_waits Over is = refl
over_waits Fallen is = absurd (cc is)

over_left : {X : Type 0} (a : Ahead X) → is_over_in a ≡ true → MayBeLeft a []
over_left Unasked is = absurd (cc is)
over_left (Taken x) is = absurd (cc is)
over_left Over is = refl
over_left Fallen is = absurd (cc is)

fallen_goes_on : {X : Type 0} (a : Ahead X) → is_fallen_in a ≡ true → is_over_in a ≡ false
fallen_goes_on Unasked is = refl
fallen_goes_on (Taken x) is = refl
fallen_goes_on Over is = absurd (cc is)
fallen_goes_on Fallen is = refl

module _ {I X : Type 0} (next : I → Option X → I → Type 0) (path : X → Path) (s t : Side X I) (fresh : s.ahead ≡ Unasked) (p : Passes next path s t) where
  -- an input that has ended was compared whole
  pub whole : is_over t ≡ true → p.compared ++ [] ≡ p.taken
  whole over =
      ap (λ l. p.compared ++ l) (sym (over_waits t.ahead over))
      ∙ sym (p.queue (over_ascends t.ahead over))
      ∙ ap (λ (a : Ahead X). waiting a ++ p.taken) fresh

  pub drains : is_over t ≡ true → Drains next (items_of s) p.taken
  drains over = (items_of t, takes_to_end next (is_over s) (is_over t) p.taken (items_of s) (items_of t) (ap is_over_in fresh) over p.takes)

  pub ascends_whole : is_over t ≡ true → Ascends path (p.compared ++ [])
  ascends_whole over = p.ascends (over_ascends t.ahead over) [] (over_left t.ahead over) tt

  yields_by : (a b : Bool) → is_over s ≡ a → is_over t ≡ b → a ≡ false → b ≡ false → Takes next (is_over s) (is_over t) (items_of s) p.taken (items_of t) → Yields next (items_of s) p.taken (items_of t)
  yields_by a b e f q r takes =
      let T : Bool → Bool → Type 0 = λ x y. Takes next x y (items_of s) p.taken (items_of t) in
      subst (T false) (f ∙ r) (subst (λ x. T x (is_over t)) (e ∙ q) takes)

  -- an input that was found not to ascend doesn't
  pub does_not_ascend : is_fallen t ≡ true → DoesNotAscend next path (items_of s)
  does_not_ascend is = (
    items_of t,
    p.taken,
    yields_by (is_over s) (is_over t) refl refl (ap is_over_in fresh) (fallen_goes_on t.ahead is) p.takes,
    λ all. p.falls is (ap is_fallen_in fresh) (subst (λ (a : Ahead X). Ascends path (waiting a ++ p.taken)) (sym fresh) all),
  )

or_left : (a b : Bool) → (a || b) ≡ false → a ≡ false
or_left true b not = absurd (cc not)
or_left false b not = refl

or_right : (a b : Bool) → (a || b) ≡ false → b ≡ false
or_right true b not = absurd (cc not)
or_right false b not = not

both_false : (a b : Bool) → a ≡ false → b ≡ false → (a || b) ≡ false
both_false a b p q = ap₂ (λ x y. x || y) p q

module _ {I J K O N U : Type 0} (ni : I → Option O → I → Type 0) (nj : J → Option N → J → Type 0) (nk : K → Option U → K → Type 0)
    (op : O → Path) (of : O → Facts) (np : N → Path) (nf : N → Facts) (place : U → Path) where
  abbrev Gone : Changes I J K O N U → List (Change O N) → Changes I J K O N U → Type 0
  Gone = Goes ni nj nk op of np nf place

  abbrev Given : Changes I J K O N U → Option (Result (Change O N) NotAscending) → Changes I J K O N U → Type 0
  Given = Gives ni nj nk op of np nf place

  -- These differences were yielded, and more may come.
  pub record SoFar (start : Changes I J K O N U) (found : List (Change O N)) (now : Changes I J K O N U) : Type 0 where
    pub goes : Gone start found now
    pub runs : is_stopped now ≡ false

  pub none_so_far : (start : Changes I J K O N U) → IsFresh start → SoFar start [] start
  none_so_far start fresh = record { goes = goes_nowhere ni nj nk op of np nf place start start.stopped; runs = fresh.runs }

  pub one_more : (start now then : Changes I J K O N U) (found : List (Change O N)) (x : Result (Change O N) NotAscending) → SoFar start found now → Given now (Some x) then → is_error x ≡ false → SoFar start (found ++ value x) then
  one_more start now then found x so gives no_error = record {
    goes = goes_on ni nj nk op of np nf place start now then found (value x) so.goes gives.goes;
    runs = gives.stops ∙ both_false (is_stopped now) (is_error x) so.runs no_error;
  }

  fresh_by : (start : Changes I J K O N U) (input : NotAscending) (end : Changes I J K O N U) (found : List (Change O N)) → IsFresh start → Gone start found end → HasFallen end input → IsTrueOf ni nj nk op of np nf place (old_of start) (new_of start) (unknown_of start) input
  fresh_by start Old end found fresh goes is = does_not_ascend ni op start.olds end.olds fresh.olds goes.olds is
  fresh_by start New end found fresh goes is = does_not_ascend nj np start.news end.news fresh.news goes.news is
  fresh_by start Unknown end found fresh goes is = does_not_ascend nk place start.unknown end.unknown fresh.unknown goes.unknown is

  pub error_is_true : (start now end : Changes I J K O N U) (found : List (Change O N)) (input : NotAscending) → IsFresh start → SoFar start found now → Given now (Some (Err input)) end
      → IsTrueOf ni nj nk op of np nf place (old_of start) (new_of start) (unknown_of start) input
  error_is_true start now end found input fresh so gives =
      fresh_by start input end (found ++ []) fresh (goes_on ni nj nk op of np nf place start now end found [] so.goes gives.goes) (gives.told input refl)

  over_by : (s : Bool) (P : Type 0) → s ≡ false → (s ≡ true) ⊎ P → P
  over_by s P not (inl is) = absurd (cc (not, is))
  over_by s P not (inr h) = h

  compared_whole : (start end : Changes I J K O N U) (found : List (Change O N)) → IsFresh start → AreOver end → Gone start found end → ComparesAll ni nj nk op of np nf place (old_of start) (new_of start) (unknown_of start) (found ++ [])
  compared_whole start end found fresh over goes =
      let wo = whole ni op start.olds end.olds fresh.olds goes.olds over.olds in
      let wn = whole nj np start.news end.news fresh.news goes.news over.news in
      let wu = whole nk place start.unknown end.unknown fresh.unknown goes.unknown over.unknown in
      let ao = ascends_whole ni op start.olds end.olds fresh.olds goes.olds over.olds in
      let an = ascends_whole nj np start.news end.news fresh.news goes.news over.news in
      let au = ascends_whole nk place start.unknown end.unknown fresh.unknown goes.unknown over.unknown in
      record {
        olds = goes.olds.taken;
        news = goes.news.taken;
        places = goes.unknown.taken;
        old_yields = drains ni op start.olds end.olds fresh.olds goes.olds over.olds;
        new_yields = drains nj np start.news end.news fresh.news goes.news over.news;
        unknown_yields = drains nk place start.unknown end.unknown fresh.unknown goes.unknown over.unknown;
        olds_ascend = subst (Ascends op) wo ao;
        news_ascend = subst (Ascends np) wn an;
        places_ascend = subst (Ascends place) wu au;
        differences =
            subst (λ (k : List O). IsDifferences op of np nf place k goes.news.taken goes.unknown.taken (found ++ [])) wo
            (subst (λ (k : List N). IsDifferences op of np nf place (goes.olds.compared ++ []) k goes.unknown.taken (found ++ [])) wn
            (subst (λ (k : List U). IsDifferences op of np nf place (goes.olds.compared ++ []) (goes.news.compared ++ []) k (found ++ [])) wu
            (goes.first [] [] [] (over_left end.olds.ahead over.olds) (over_left end.news.ahead over.news) (over_left end.unknown.ahead over.unknown) ao an au [] (none_differ op of np nf place []))));
      }

  pub all_compared : (start now end : Changes I J K O N U) (found : List (Change O N)) → IsFresh start → SoFar start found now → Given now None end
      → ComparesAll ni nj nk op of np nf place (old_of start) (new_of start) (unknown_of start) found
  all_compared start now end found fresh so gives =
      let ongoing : is_stopped end ≡ false = gives.stops ∙ both_false (is_stopped now) false so.runs refl in
      let over = over_by (is_stopped end) (AreOver end) ongoing gives.ends in
      subst (ComparesAll ni nj nk op of np nf place (old_of start) (new_of start) (unknown_of start)) (append-nil (found ++ []) ∙ append-nil found)
      (compared_whole start end (found ++ []) fresh over (goes_on ni nj nk op of np nf place start now end found [] so.goes gives.goes))

  -- what several calls yielded
  runs_over : (xs : List (Result (Change O N) NotAscending)) (start now end : Changes I J K O N U) (found : List (Change O N)) → SoFar start found now → Yields Given now xs end → list_any is_error xs ≡ false → SoFar start (found ++ flat_map value xs) end
  runs_over [] start now end found so same none = subst (SoFar start (found ++ [])) same (subst (λ (l : List (Change O N)). SoFar start l now) (sym (append-nil found)) so)
  runs_over (x ∷ xs) start now end found so (mid, gives, rest) none =
      subst (λ (l : List (Change O N)). SoFar start l end) (append_assoc found (value x) (flat_map value xs))
      (runs_over xs start mid end (found ++ value x) (one_more start now mid found x so gives (or_left (is_error x) (list_any is_error xs) none)) rest (or_right (is_error x) (list_any is_error xs) none))

  pub all_yielded : AllAreYielded ni nj nk op of np nf place
  all_yielded start end yielded fresh (now, calls, last) none = all_compared start now end (flat_map value yielded) fresh (runs_over yielded start start now [] (none_so_far start fresh) calls none) last

  -- Behind an error nothing is yielded, so none came before one.
  no_error_before : (xs : List (Result (Change O N) NotAscending)) (now end last : Changes I J K O N U) (x : Result (Change O N) NotAscending) → Yields Given now xs end → Given end (Some x) last → (list_any is_error xs ≡ false) × (is_stopped now ≡ false)
  no_error_before [] now end last x same gives = (refl, runs (is_stopped now) refl)
    where
      runs : (b : Bool) → is_stopped now ≡ b → is_stopped now ≡ false
      runs true is = absurd (cc (gives.silent (ap (λ (k : Changes I J K O N U). is_stopped k) (sym same) ∙ is)))
      runs false is = is
  no_error_before (y ∷ ys) now end last x (mid, first, rest) gives =
      let more = no_error_before ys mid end last x rest gives in
      let not : (is_stopped now || is_error y) ≡ false = sym first.stops ∙ more.1 in
      (both_false (is_error y) (list_any is_error ys) (or_right (is_stopped now) (is_error y) not) more.0, or_left (is_stopped now) (is_error y) not)

  pub errors_true : ErrorsAreTrue ni nj nk op of np nf place
  errors_true start end yielded input fresh (now, calls, last) =
      let none = no_error_before yielded start now end (Err input) calls last in
      error_is_true start now end (flat_map value yielded) input fresh (runs_over yielded start start now [] (none_so_far start fresh) calls none.0) last

  -- the same of inputs that the iterator was made of
  pub true_of : (start : Changes I J K O N U) (i : I) (j : J) (k : K) (input : NotAscending) → old_of start ≡ i → new_of start ≡ j → unknown_of start ≡ k
      → IsTrueOf ni nj nk op of np nf place (old_of start) (new_of start) (unknown_of start) input → IsTrueOf ni nj nk op of np nf place i j k input
  true_of start i j k input p q r is =
      subst (λ (x : I). IsTrueOf ni nj nk op of np nf place x j k input) p
      (subst (λ (x : J). IsTrueOf ni nj nk op of np nf place (old_of start) x k input) q
      (subst (λ (x : K). IsTrueOf ni nj nk op of np nf place (old_of start) (new_of start) x input) r is))

  pub compares : (start : Changes I J K O N U) (i : I) (j : J) (k : K) (found : List (Change O N)) → old_of start ≡ i → new_of start ≡ j → unknown_of start ≡ k
      → ComparesAll ni nj nk op of np nf place (old_of start) (new_of start) (unknown_of start) found → ComparesAll ni nj nk op of np nf place i j k found
  compares start i j k found p q r is =
      subst (λ (x : I). ComparesAll ni nj nk op of np nf place x j k found) p
      (subst (λ (x : J). ComparesAll ni nj nk op of np nf place (old_of start) x k found) q
      (subst (λ (x : K). ComparesAll ni nj nk op of np nf place (old_of start) (new_of start) x found) r is))
