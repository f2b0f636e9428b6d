-- Turns of a comparison, one after another.
use Rattle.std.proofs.Common.{◌≡◌, ◌<◌, ◌+◌, ℕ, Bool, true, false, cond, ◌||◌, List, [], ◌∷◌, ◌++◌, Option, Some, None, Ok, Err, inl, inr, refl, sym, ap, ◌∙◌, subst, append_assoc, arith}
use Rattle.std.specs.Option.{option_to_list}
use Rattle.std.specs.List.{AllByRecursion}
use Rattle.std.specs.Iterator.{Count, size}
use Rattle.jwalk_changes.specs.declared.facts.Facts.{Facts}
use Rattle.jwalk_changes.specs.declared.change.Change.{Change}
use Rattle.jwalk_changes.specs.declared.change.Change.TheVariants.{Added, Removed}
use Rattle.jwalk_changes.specs.declared.change.NotAscending.{NotAscending}
use Rattle.jwalk_changes.specs.declared.side.Ahead.{Ahead}
use Rattle.jwalk_changes.specs.declared.side.Ahead.TheVariants.{Unasked, Taken, Over, Fallen}
use Rattle.jwalk_changes.specs.declared.side.Side.{Side}
use Rattle.jwalk_changes.specs.declared.iter.Changes.{Changes}
use Rattle.jwalk_changes.specs.declared.iter.Turn.{Turn}
use Rattle.jwalk_changes.specs.declared.iter.Turn.TheVariants.{Yields, GoesOn, Ends}
use Rattle.jwalk_changes.specs.declared.iter.First.TheVariants.{Old, New, Both}
use Rattle.jwalk_changes.specs.declared.iter.Step.{Step}
use Rattle.jwalk_changes.specs.declared.iter.Step.TheVariants.{Tell, Skip, Pass, End}
use Rattle.jwalk_changes.specs.declared.change.NotAscending.TheVariants.{Old as OldInput, New as NewInput, Unknown as UnknownInput}
use Rattle.jwalk_changes.specs.AtPath.{is_before}
use Rattle.jwalk_changes.specs.Change.{change}
use Rattle.jwalk_changes.specs.Differences.{Ascends, is_within, IsDifferences}
use Rattle.jwalk_changes.specs.Side.{Advances, CanGoOnAt, waiting, is_fallen_in, is_over_in, turns_in, turns_left}
use Rattle.jwalk_changes.specs.Coming.{is_stopped, weight, HasFallen, CanGoOn, Goes}
use Rattle.jwalk_changes.specs.Steps.{Turns, AreAsked, step_of, turn_with, turn_both}
use Rattle.jwalk_changes.proofs.OrderFacts.{Path}
use Rattle.jwalk_changes.proofs.ListFacts.{ascends_back}
use Rattle.jwalk_changes.proofs.SideFacts.{stays, passes_on}
use Rattle.jwalk_changes.proofs.DiffFacts.{add_removed, add_added, add_both, skip_old, skip_new, pass_place}
use Rattle.jwalk_changes.proofs.StepFacts.{IsOld, IsNew, AreBoth, IsOutside, IsWithin, IsPast, Means, means}

module _ {I J K O N U : Type 0} (ni : I → Option O → I → Type 0) (nj : J → Option N → J → Type 0) (nk : K → Option U → K → Type 0)
    (op : O → Path) (of : O → Facts) (np : N → Path) (nf : N → Facts) (place : U → Path) where
  abbrev pub Same : List O → List N → List U → List (Change O N) → Type 0
  Same = IsDifferences op of np nf place

  abbrev pub Gone : Changes I J K O N U → List (Change O N) → Changes I J K O N U → Type 0
  Gone = Goes ni nj nk op of np nf place

  -- nothing is taken and nothing yielded
  pub goes_nowhere : (s : Changes I J K O N U) (b : Bool) → Gone s [] (record s { stopped = b })
  goes_nowhere s b = record {
    olds = stays ni op s.olds;
    news = stays nj np s.news;
    unknown = stays nk place s.unknown;
    first = λ lo ln lu mo mn mu ao an au rest is. is;
  }

  same_by : (lo ko : List O) (ln kn : List N) (lu ku : List U) (d e : List (Change O N)) → lo ≡ ko → ln ≡ kn → lu ≡ ku → d ≡ e → Same lo ln lu d → Same ko kn ku e
  same_by lo ko ln kn lu ku d e p q r t is =
      subst (λ (k : List O). Same k kn ku e) p (subst (λ (k : List N). Same lo k ku e) q (subst (λ (k : List U). Same lo ln k e) r (subst (Same lo ln lu) t is)))

  -- one after another
  pub goes_on : (a b c : Changes I J K O N U) (ys zs : List (Change O N)) → Gone a ys b → Gone b zs c → Gone a (ys ++ zs) c
  goes_on a b c ys zs one two = record {
    olds = passes_on ni op a.olds b.olds c.olds one.olds two.olds;
    news = passes_on nj np a.news b.news c.news one.news two.news;
    unknown = passes_on nk place a.unknown b.unknown c.unknown one.unknown two.unknown;
    first = λ lo ln lu mo mn mu ao an au rest is.
        let so = append_assoc one.olds.compared two.olds.compared lo in
        let sn = append_assoc one.news.compared two.news.compared ln in
        let su = append_assoc one.unknown.compared two.unknown.compared lu in
        let bo : Ascends op (one.olds.compared ++ (two.olds.compared ++ lo)) = subst (Ascends op) so ao in
        let bn : Ascends np (one.news.compared ++ (two.news.compared ++ ln)) = subst (Ascends np) sn an in
        let bu : Ascends place (one.unknown.compared ++ (two.unknown.compared ++ lu)) = subst (Ascends place) su au in
        same_by (one.olds.compared ++ (two.olds.compared ++ lo)) ((one.olds.compared ++ two.olds.compared) ++ lo)
        (one.news.compared ++ (two.news.compared ++ ln)) ((one.news.compared ++ two.news.compared) ++ ln)
        (one.unknown.compared ++ (two.unknown.compared ++ lu)) ((one.unknown.compared ++ two.unknown.compared) ++ lu)
        (ys ++ (zs ++ rest)) ((ys ++ zs) ++ rest)
        (sym so) (sym sn) (sym su) (sym (append_assoc ys zs rest))
        (one.first (two.olds.compared ++ lo) (two.news.compared ++ ln) (two.unknown.compared ++ lu)
        (two.olds.follows lo mo) (two.news.follows ln mn) (two.unknown.follows lu mu) bo bn bu (zs ++ rest)
        (two.first lo ln lu mo mn mu
        (ascends_back op one.olds.compared (two.olds.compared ++ lo) bo) (ascends_back np one.news.compared (two.news.compared ++ ln) bn) (ascends_back place one.unknown.compared (two.unknown.compared ++ lu) bu)
        rest is));
  }

  -- ---- an input that wasn't asked

  pub goes_asked_old : (s : Changes I J K O N U) (x : Side O I) → s.olds.ahead ≡ Unasked → Advances ni op s.olds x → Gone s [] (record s { olds = x })
  goes_asked_old s x fresh adv =
      let none : adv.passes.compared ≡ [] = adv.compared ∙ ap waiting fresh in
      record {
        olds = adv.passes;
        news = stays nj np s.news;
        unknown = stays nk place s.unknown;
        first = λ lo ln lu mo mn mu ao an au rest is. subst (λ (k : List O). Same (k ++ lo) ln lu rest) (sym none) is;
      }

  pub goes_asked_new : (s : Changes I J K O N U) (x : Side N J) → s.news.ahead ≡ Unasked → Advances nj np s.news x → Gone s [] (record s { news = x })
  goes_asked_new s x fresh adv =
      let none : adv.passes.compared ≡ [] = adv.compared ∙ ap waiting fresh in
      record {
        olds = stays ni op s.olds;
        news = adv.passes;
        unknown = stays nk place s.unknown;
        first = λ lo ln lu mo mn mu ao an au rest is. subst (λ (k : List N). Same lo (k ++ ln) lu rest) (sym none) is;
      }

  pub goes_asked_unknown : (s : Changes I J K O N U) (x : Side U K) → s.unknown.ahead ≡ Unasked → Advances nk place s.unknown x → Gone s [] (record s { unknown = x })
  goes_asked_unknown s x fresh adv =
      let none : adv.passes.compared ≡ [] = adv.compared ∙ ap waiting fresh in
      record {
        olds = stays ni op s.olds;
        news = stays nj np s.news;
        unknown = adv.passes;
        first = λ lo ln lu mo mn mu ao an au rest is. subst (λ (k : List U). Same lo ln (k ++ lu) rest) (sym none) is;
      }

  -- ---- the first entry

  pub goes_old : (s : Changes I J K O N U) (x : Side O I) (p : Path) (e : O) → e ∷ [] ≡ waiting s.olds.ahead → (is : IsOld op np place s.olds.ahead s.news.ahead s.unknown.ahead p) → IsOutside op np place s.olds.ahead s.news.ahead s.unknown.ahead p
      → Advances ni op s.olds x → Gone s (Removed e ∷ []) (record s { olds = x })
  goes_old s x p e here is outside adv =
      let got : e ∷ [] ≡ is.entry ∷ [] = here ∙ ap waiting is.taken in
      let same : e ≡ is.entry = cc in
      let path : op e ≡ p = ap op same ∙ is.path in
      let one : adv.passes.compared ≡ e ∷ [] = adv.compared ∙ sym here in
      record {
        olds = adv.passes;
        news = stays nj np s.news;
        unknown = stays nk place s.unknown;
        first = λ lo ln lu mo mn mu ao an au rest more.
            subst (λ (k : List O). Same (k ++ lo) ln lu (Removed e ∷ rest)) (sym one)
            (add_removed op of np nf place e lo ln lu rest (subst (λ (k : List O). Ascends op (k ++ lo)) one ao)
            (subst (λ (k : Path). AllByRecursion (λ y. is_before k (np y) ≡ true) ln) (sym path) (is.news ln mn an))
            (ap (is_within place lu) path ∙ outside lu mu au) more);
      }

  pub goes_new : (s : Changes I J K O N U) (x : Side N J) (p : Path) (f : N) → f ∷ [] ≡ waiting s.news.ahead → (is : IsNew op np place s.olds.ahead s.news.ahead s.unknown.ahead p) → IsOutside op np place s.olds.ahead s.news.ahead s.unknown.ahead p
      → Advances nj np s.news x → Gone s (Added f ∷ []) (record s { news = x })
  goes_new s x p f here is outside adv =
      let got : f ∷ [] ≡ is.entry ∷ [] = here ∙ ap waiting is.taken in
      let same : f ≡ is.entry = cc in
      let path : np f ≡ p = ap np same ∙ is.path in
      let one : adv.passes.compared ≡ f ∷ [] = adv.compared ∙ sym here in
      record {
        olds = stays ni op s.olds;
        news = adv.passes;
        unknown = stays nk place s.unknown;
        first = λ lo ln lu mo mn mu ao an au rest more.
            subst (λ (k : List N). Same lo (k ++ ln) lu (Added f ∷ rest)) (sym one)
            (add_added op of np nf place f lo ln lu rest (subst (λ (k : List N). Ascends np (k ++ ln)) one an)
            (subst (λ (k : Path). AllByRecursion (λ y. is_before k (op y) ≡ true) lo) (sym path) (is.olds lo mo ao))
            (ap (is_within place lu) path ∙ outside lu mu au) more);
      }

  pub goes_both : (s : Changes I J K O N U) (x : Side O I) (y : Side N J) (p : Path) (e : O) (f : N) → e ∷ [] ≡ waiting s.olds.ahead → f ∷ [] ≡ waiting s.news.ahead
      → (is : AreBoth op np place s.olds.ahead s.news.ahead s.unknown.ahead p) → IsOutside op np place s.olds.ahead s.news.ahead s.unknown.ahead p
      → Advances ni op s.olds x → Advances nj np s.news y → Gone s (option_to_list (change of nf e f)) (record s { olds = x; news = y })
  goes_both s x y p e f here there is outside adv adw =
      let got : e ∷ [] ≡ is.old ∷ [] = here ∙ ap waiting is.old_taken in
      let same : e ≡ is.old = cc in
      let path : op e ≡ p = ap op same ∙ is.old_path in
      let got_new : f ∷ [] ≡ is.new ∷ [] = there ∙ ap waiting is.new_taken in
      let same_new : f ≡ is.new = cc in
      let path_new : np f ≡ p = ap np same_new ∙ is.new_path in
      let one : adv.passes.compared ≡ e ∷ [] = adv.compared ∙ sym here in
      let other : adw.passes.compared ≡ f ∷ [] = adw.compared ∙ sym there in
      record {
        olds = adv.passes;
        news = adw.passes;
        unknown = stays nk place s.unknown;
        first = λ lo ln lu mo mn mu ao an au rest more.
            subst (λ (k : List O). Same (k ++ lo) (adw.passes.compared ++ ln) lu (option_to_list (change of nf e f) ++ rest)) (sym one)
            (subst (λ (k : List N). Same (e ∷ lo) (k ++ ln) lu (option_to_list (change of nf e f) ++ rest)) (sym other)
            (add_both op of np nf place e f lo ln lu rest (path ∙ sym path_new) (subst (λ (k : List O). Ascends op (k ++ lo)) one ao) (subst (λ (k : List N). Ascends np (k ++ ln)) other an)
            (ap (is_within place lu) path ∙ outside lu mu au) more));
      }

  -- ---- below a place

  pub skips_old : (s : Changes I J K O N U) (x : Side O I) (p : Path) → (is : IsOld op np place s.olds.ahead s.news.ahead s.unknown.ahead p) → IsWithin op np place s.olds.ahead s.news.ahead s.unknown.ahead p
      → Advances ni op s.olds x → Gone s [] (record s { olds = x })
  skips_old s x p is within adv =
      let one : adv.passes.compared ≡ is.entry ∷ [] = adv.compared ∙ ap waiting is.taken in
      record {
        olds = adv.passes;
        news = stays nj np s.news;
        unknown = stays nk place s.unknown;
        first = λ lo ln lu mo mn mu ao an au rest more.
            subst (λ (k : List O). Same (k ++ lo) ln lu rest) (sym one)
            (skip_old op of np nf place is.entry lo ln lu rest (ap (is_within place lu) is.path ∙ within lu mu) more);
      }

  pub skips_new : (s : Changes I J K O N U) (x : Side N J) (p : Path) → (is : IsNew op np place s.olds.ahead s.news.ahead s.unknown.ahead p) → IsWithin op np place s.olds.ahead s.news.ahead s.unknown.ahead p
      → Advances nj np s.news x → Gone s [] (record s { news = x })
  skips_new s x p is within adv =
      let one : adv.passes.compared ≡ is.entry ∷ [] = adv.compared ∙ ap waiting is.taken in
      record {
        olds = stays ni op s.olds;
        news = adv.passes;
        unknown = stays nk place s.unknown;
        first = λ lo ln lu mo mn mu ao an au rest more.
            subst (λ (k : List N). Same lo (k ++ ln) lu rest) (sym one)
            (skip_new op of np nf place is.entry lo ln lu rest (ap (is_within place lu) is.path ∙ within lu mu) more);
      }

  pub skips_both : (s : Changes I J K O N U) (x : Side O I) (y : Side N J) (p : Path) → (is : AreBoth op np place s.olds.ahead s.news.ahead s.unknown.ahead p) → IsWithin op np place s.olds.ahead s.news.ahead s.unknown.ahead p
      → Advances ni op s.olds x → Advances nj np s.news y → Gone s [] (record s { olds = x; news = y })
  skips_both s x y p is within adv adw =
      let one : adv.passes.compared ≡ is.old ∷ [] = adv.compared ∙ ap waiting is.old_taken in
      let other : adw.passes.compared ≡ is.new ∷ [] = adw.compared ∙ ap waiting is.new_taken in
      record {
        olds = adv.passes;
        news = adw.passes;
        unknown = stays nk place s.unknown;
        first = λ lo ln lu mo mn mu ao an au rest more.
            subst (λ (k : List O). Same (k ++ lo) (adw.passes.compared ++ ln) lu rest) (sym one)
            (subst (λ (k : List N). Same (is.old ∷ lo) (k ++ ln) lu rest) (sym other)
            (skip_old op of np nf place is.old lo (is.new ∷ ln) lu rest (ap (is_within place lu) is.old_path ∙ within lu mu)
            (skip_new op of np nf place is.new lo ln lu rest (ap (is_within place lu) is.new_path ∙ within lu mu) more)));
      }

  pub passes_place : (s : Changes I J K O N U) (x : Side U K) → IsPast op np place s.olds.ahead s.news.ahead s.unknown.ahead → Advances nk place s.unknown x → Gone s [] (record s { unknown = x })
  passes_place s x is adv =
      let one : adv.passes.compared ≡ is.first ∷ [] = adv.compared ∙ ap waiting is.taken in
      record {
        olds = stays ni op s.olds;
        news = stays nj np s.news;
        unknown = adv.passes;
        first = λ lo ln lu mo mn mu ao an au rest more.
            subst (λ (k : List U). Same lo ln (k ++ lu) rest) (sym one)
            (pass_place op of np nf place is.first lo ln lu rest (λ q above. (is.none_old lo mo ao q above, is.none_new ln mn an q above)) more);
      }

  -- what a step means
  pub at_step : (s : Changes I J K O N U) (t : Step) → AreAsked s → step_of op np place s.olds.ahead s.news.ahead s.unknown.ahead ≡ t → Means op np place s.olds.ahead s.news.ahead s.unknown.ahead t
  at_step s t asked is = subst (Means op np place s.olds.ahead s.news.ahead s.unknown.ahead) is (means op np place s.olds.ahead s.news.ahead s.unknown.ahead
      (record { asked = asked.olds_asked; ascends = asked.olds_ascend }) (record { asked = asked.news_asked; ascends = asked.news_ascend }) (record { asked = asked.unknown_asked; ascends = asked.unknown_ascends }))

or_false : (b : Bool) → (b || false) ≡ b
or_false true = refl
or_false false = refl

module _ {I J K O N U : Type 0} (ni : I → Option O → I → Type 0) (nj : J → Option N → J → Type 0) (nk : K → Option U → K → Type 0)
    (ci : I → Type 0) (li : I → Count) (cj : J → Type 0) (lj : J → Count) (ck : K → Type 0) (lk : K → Count)
    (op : O → Path) (of : O → Facts) (np : N → Path) (nf : N → Facts) (place : U → Path) where
  abbrev pub Turned : Changes I J K O N U → Turn O N → Changes I J K O N U → Type 0
  Turned = Turns ni nj nk ci li cj lj ck lk op of np nf place

  abbrev pub May : Changes I J K O N U → Type 0
  May = CanGoOn ci li cj lj ck lk

  -- all turns that are left
  abbrev all_left : Changes I J K O N U → ℕ
  all_left s = turns_left li s.olds + turns_left lj s.news + turns_left lk s.unknown

  weight_runs : (s : Changes I J K O N U) → is_stopped s ≡ false → weight li lj lk s ≡ all_left s
  weight_runs s runs = ap (λ b. cond b 0 (all_left s)) runs

  weight_falls : (s t : Changes I J K O N U) → is_stopped s ≡ false → is_stopped t ≡ false → all_left t < all_left s → weight li lj lk t < weight li lj lk s
  weight_falls s t p q less = omega (arith, weight_runs s p, weight_runs t q)

  pub yields_change : (s t : Changes I J K O N U) (c : Change O N) → Gone ni nj nk op of np nf place s (c ∷ []) t → is_stopped s ≡ false → is_stopped t ≡ false → May t → all_left t < all_left s → Turned s (Yields (Ok c)) t
  yields_change s t c goes p q may less = record {
    goes = goes;
    stops = q ∙ sym (ap (λ b. b || false) p);
    silent = λ is. absurd (cc (is, p));
    told = λ input is. absurd (cc is);
    ends = λ is. absurd (cc is);
    can_go_on = may;
    falls = λ _. weight_falls s t p q less;
  }

  pub goes_silently : (s t : Changes I J K O N U) → Gone ni nj nk op of np nf place s [] t → is_stopped s ≡ false → is_stopped t ≡ false → May t → all_left t < all_left s → Turned s GoesOn t
  goes_silently s t goes p q may less = record {
    goes = goes;
    stops = q ∙ sym (ap (λ b. b || false) p);
    silent = λ is. absurd (cc (is, p));
    told = λ input is. absurd (cc is);
    ends = λ is. absurd (cc is);
    can_go_on = may;
    falls = λ _. weight_falls s t p q less;
  }

  -- ---- an error

  fallen_turns : {X : Type 0} (a : Ahead X) (n : ℕ) → is_fallen_in a ≡ true → turns_in a n ≡ 1
  fallen_turns Unasked n is = absurd (cc is)
  fallen_turns (Taken x) n is = absurd (cc is)
  fallen_turns Over n is = absurd (cc is)
  fallen_turns Fallen n is = refl

  some_left : (s : Changes I J K O N U) (input : NotAscending) → HasFallen s input → 0 < all_left s
  some_left s OldInput is = omega (arith, fallen_turns s.olds.ahead (size (li s.olds.items)) is)
  some_left s NewInput is = omega (arith, fallen_turns s.news.ahead (size (lj s.news.items)) is)
  some_left s UnknownInput is = omega (arith, fallen_turns s.unknown.ahead (size (lk s.unknown.items)) is)

  still_fallen : (s : Changes I J K O N U) (input : NotAscending) → HasFallen s input → HasFallen (record s { stopped = true }) input
  still_fallen s OldInput is = is
  still_fallen s NewInput is = is
  still_fallen s UnknownInput is = is

  named : (s : Changes I J K O N U) (input other : NotAscending) → input ≡ other → HasFallen s input → HasFallen (record s { stopped = true }) other
  named s input other same is = subst (HasFallen (record s { stopped = true })) same (still_fallen s input is)

  pub stops_at : (s : Changes I J K O N U) (input : NotAscending) → May s → is_stopped s ≡ false → HasFallen s input → Turned s (Yields (Err input)) (record s { stopped = true })
  stops_at s input may runs is = record {
    goes = goes_nowhere ni nj nk op of np nf place s true;
    stops = sym (ap (λ b. b || true) runs);
    silent = λ stopped. absurd (cc (stopped, runs));
    told = λ other told. named s input other (cc told) is;
    ends = λ end. absurd (cc end);
    can_go_on = record { olds = may.olds; news = may.news; unknown = may.unknown };
    falls = λ _. omega (arith, weight_runs s runs, some_left s input is);
  }

  -- ---- the end

  pub ends_stopped : (s : Changes I J K O N U) → May s → is_stopped s ≡ true → Turned s Ends s
  ends_stopped s may stopped = record {
    goes = goes_nowhere ni nj nk op of np nf place s s.stopped;
    stops = sym (or_false (is_stopped s));
    silent = λ _. refl;
    told = λ input is. absurd (cc is);
    ends = λ _. inl stopped;
    can_go_on = may;
    falls = λ is. absurd (cc is);
  }

  pub ends_over : (s : Changes I J K O N U) → May s → AreAsked s → step_of op np place s.olds.ahead s.news.ahead s.unknown.ahead ≡ End → Turned s Ends s
  ends_over s may asked is =
      let over = at_step ni nj nk op of np nf place s End asked is in
      record {
        goes = goes_nowhere ni nj nk op of np nf place s s.stopped;
        stops = sym (or_false (is_stopped s));
        silent = λ _. refl;
        told = λ input told. absurd (cc told);
        ends = λ _. inr (record { olds = ap is_over_in over.olds; news = ap is_over_in over.news; unknown = ap is_over_in over.places });
        can_go_on = may;
        falls = λ end. absurd (cc end);
      }

  pub ends_same : (s t : Changes I J K O N U) → t ≡ s → May s → AreAsked s → End ≡ step_of op np place t.olds.ahead t.news.ahead t.unknown.ahead → Turned s Ends t
  ends_same s t same may asked is =
      subst (Turned s Ends) (sym same) (ends_over s may asked (sym (is ∙ ap (λ (k : Changes I J K O N U). step_of op np place k.olds.ahead k.news.ahead k.unknown.ahead) same)))

  -- ---- an input is asked

  pub asks_old : (s : Changes I J K O N U) (x : Side O I) → May s → is_stopped s ≡ false → s.olds.ahead ≡ Unasked → Advances ni op s.olds x → CanGoOnAt ci li x → turns_left li x < turns_left li s.olds → Turned s GoesOn (record s { olds = x })
  asks_old s x may runs fresh adv can less =
      goes_silently s (record s { olds = x }) (goes_asked_old ni nj nk op of np nf place s x fresh adv) runs runs (record { olds = can; news = may.news; unknown = may.unknown }) (omega arith)

  pub asks_new : (s : Changes I J K O N U) (x : Side N J) → May s → is_stopped s ≡ false → s.news.ahead ≡ Unasked → Advances nj np s.news x → CanGoOnAt cj lj x → turns_left lj x < turns_left lj s.news → Turned s GoesOn (record s { news = x })
  asks_new s x may runs fresh adv can less =
      goes_silently s (record s { news = x }) (goes_asked_new ni nj nk op of np nf place s x fresh adv) runs runs (record { olds = may.olds; news = can; unknown = may.unknown }) (omega arith)

  pub asks_unknown : (s : Changes I J K O N U) (x : Side U K) → May s → is_stopped s ≡ false → s.unknown.ahead ≡ Unasked → Advances nk place s.unknown x → CanGoOnAt ck lk x → turns_left lk x < turns_left lk s.unknown → Turned s GoesOn (record s { unknown = x })
  asks_unknown s x may runs fresh adv can less =
      goes_silently s (record s { unknown = x }) (goes_asked_unknown ni nj nk op of np nf place s x fresh adv) runs runs (record { olds = may.olds; news = may.news; unknown = can }) (omega arith)

  -- ---- something is told

  -- what is told of an old entry
  abbrev pub turn_old : Option O → Turn O N
  turn_old (Some e) = Yields (Ok (Removed e))
  turn_old None = GoesOn

  pub tells_old : (s : Changes I J K O N U) (x : Side O I) (r : Option O) → May s → AreAsked s → step_of op np place s.olds.ahead s.news.ahead s.unknown.ahead ≡ Tell Old
      → Advances ni op s.olds x → option_to_list r ≡ waiting s.olds.ahead → CanGoOnAt ci li x → turns_left li x < turns_left li s.olds → Turned s (turn_old r) (record s { olds = x })
  tells_old s x (Some e) may asked step adv here can less =
      let is = at_step ni nj nk op of np nf place s (Tell Old) asked step in
      yields_change s (record s { olds = x }) (Removed e) (goes_old ni nj nk op of np nf place s x is.0 e here is.1 is.2 adv) asked.runs asked.runs (record { olds = can; news = may.news; unknown = may.unknown }) (omega arith)
  tells_old s x None may asked step adv here can less =
      let is = at_step ni nj nk op of np nf place s (Tell Old) asked step in
      absurd (cc (here, ap waiting is.1.taken))

  abbrev pub turn_new : Option N → Turn O N
  turn_new (Some f) = Yields (Ok (Added f))
  turn_new None = GoesOn

  pub tells_new : (s : Changes I J K O N U) (x : Side N J) (r : Option N) → May s → AreAsked s → step_of op np place s.olds.ahead s.news.ahead s.unknown.ahead ≡ Tell New
      → Advances nj np s.news x → option_to_list r ≡ waiting s.news.ahead → CanGoOnAt cj lj x → turns_left lj x < turns_left lj s.news → Turned s (turn_new r) (record s { news = x })
  tells_new s x (Some f) may asked step adv here can less =
      let is = at_step ni nj nk op of np nf place s (Tell New) asked step in
      yields_change s (record s { news = x }) (Added f) (goes_new ni nj nk op of np nf place s x is.0 f here is.1 is.2 adv) asked.runs asked.runs (record { olds = may.olds; news = can; unknown = may.unknown }) (omega arith)
  tells_new s x None may asked step adv here can less =
      let is = at_step ni nj nk op of np nf place s (Tell New) asked step in
      absurd (cc (here, ap waiting is.1.taken))

  turn_by : (o : Option (Change O N)) (s t : Changes I J K O N U) → Gone ni nj nk op of np nf place s (option_to_list o) t → is_stopped s ≡ false → is_stopped t ≡ false → May t → all_left t < all_left s → Turned s (turn_with o) t
  turn_by (Some c) s t goes p q may less = yields_change s t c goes p q may less
  turn_by None s t goes p q may less = goes_silently s t goes p q may less

  pub tells_both : (s : Changes I J K O N U) (x : Side O I) (y : Side N J) (r : Option O) (q : Option N) → May s → AreAsked s → step_of op np place s.olds.ahead s.news.ahead s.unknown.ahead ≡ Tell Both
      → Advances ni op s.olds x → Advances nj np s.news y → option_to_list r ≡ waiting s.olds.ahead → option_to_list q ≡ waiting s.news.ahead
      → CanGoOnAt ci li x → CanGoOnAt cj lj y → turns_left li x < turns_left li s.olds → turns_left lj y < turns_left lj s.news → Turned s (turn_both of nf r q) (record s { olds = x; news = y })
  tells_both s x y (Some e) (Some f) may asked step adv adw here there can can_new less less_new =
      let is = at_step ni nj nk op of np nf place s (Tell Both) asked step in
      turn_by (change of nf e f) s (record s { olds = x; news = y }) (goes_both ni nj nk op of np nf place s x y is.0 e f here there is.1 is.2 adv adw) asked.runs asked.runs
      (record { olds = can; news = can_new; unknown = may.unknown }) (omega arith)
  tells_both s x y (Some e) None may asked step adv adw here there can can_new less less_new =
      let is = at_step ni nj nk op of np nf place s (Tell Both) asked step in
      absurd (cc (there, ap waiting is.1.new_taken))
  tells_both s x y None q may asked step adv adw here there can can_new less less_new =
      let is = at_step ni nj nk op of np nf place s (Tell Both) asked step in
      absurd (cc (here, ap waiting is.1.old_taken))

  -- ---- nothing is told

  pub skip_an_old : (s : Changes I J K O N U) (x : Side O I) → May s → AreAsked s → step_of op np place s.olds.ahead s.news.ahead s.unknown.ahead ≡ Skip Old
      → Advances ni op s.olds x → CanGoOnAt ci li x → turns_left li x < turns_left li s.olds → Turned s GoesOn (record s { olds = x })
  skip_an_old s x may asked step adv can less =
      let is = at_step ni nj nk op of np nf place s (Skip Old) asked step in
      goes_silently s (record s { olds = x }) (skips_old ni nj nk op of np nf place s x is.0 is.1 is.2 adv) asked.runs asked.runs (record { olds = can; news = may.news; unknown = may.unknown }) (omega arith)

  pub skip_a_new : (s : Changes I J K O N U) (x : Side N J) → May s → AreAsked s → step_of op np place s.olds.ahead s.news.ahead s.unknown.ahead ≡ Skip New
      → Advances nj np s.news x → CanGoOnAt cj lj x → turns_left lj x < turns_left lj s.news → Turned s GoesOn (record s { news = x })
  skip_a_new s x may asked step adv can less =
      let is = at_step ni nj nk op of np nf place s (Skip New) asked step in
      goes_silently s (record s { news = x }) (skips_new ni nj nk op of np nf place s x is.0 is.1 is.2 adv) asked.runs asked.runs (record { olds = may.olds; news = can; unknown = may.unknown }) (omega arith)

  pub skip_both : (s : Changes I J K O N U) (x : Side O I) (y : Side N J) → May s → AreAsked s → step_of op np place s.olds.ahead s.news.ahead s.unknown.ahead ≡ Skip Both
      → Advances ni op s.olds x → Advances nj np s.news y → CanGoOnAt ci li x → CanGoOnAt cj lj y → turns_left li x < turns_left li s.olds → turns_left lj y < turns_left lj s.news → Turned s GoesOn (record s { olds = x; news = y })
  skip_both s x y may asked step adv adw can can_new less less_new =
      let is = at_step ni nj nk op of np nf place s (Skip Both) asked step in
      goes_silently s (record s { olds = x; news = y }) (skips_both ni nj nk op of np nf place s x y is.0 is.1 is.2 adv adw) asked.runs asked.runs (record { olds = can; news = can_new; unknown = may.unknown }) (omega arith)

  pub pass_a_place : (s : Changes I J K O N U) (x : Side U K) → May s → AreAsked s → step_of op np place s.olds.ahead s.news.ahead s.unknown.ahead ≡ Pass
      → Advances nk place s.unknown x → CanGoOnAt ck lk x → turns_left lk x < turns_left lk s.unknown → Turned s GoesOn (record s { unknown = x })
  pass_a_place s x may asked step adv can less =
      goes_silently s (record s { unknown = x }) (passes_place ni nj nk op of np nf place s x (at_step ni nj nk op of np nf place s Pass asked step) adv) asked.runs asked.runs
      (record { olds = may.olds; news = may.news; unknown = can }) (omega arith)
