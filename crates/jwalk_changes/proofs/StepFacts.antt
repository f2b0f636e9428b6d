-- What is known where a step is taken.
use Rattle.std.proofs.Common.{◌≡◌, Bool, true, false, cond, ◌||◌, List, [], ◌∷◌, Some, None, refl, sym, ap, ◌∙◌, subst}
use Rattle.std.specs.Prelude.{if◌then◌else◌}
use Rattle.std.specs.List.{AllByRecursion}
use Rattle.std.specs.declared.cmp.Ordering.{Ordering}
use Rattle.std.specs.declared.cmp.Ordering.TheVariants.{Less, Equal, Greater}
use Rattle.std.specs.Ordering.{is_lt, is_eq}
use Rattle.jwalk_changes.specs.declared.side.Ahead.{Ahead}
use Rattle.jwalk_changes.specs.declared.side.Ahead.TheVariants.{Unasked, Taken, Over, Fallen}
use Rattle.jwalk_changes.specs.declared.iter.First.{First}
use Rattle.jwalk_changes.specs.declared.iter.First.TheVariants.{Old, New, Both}
use Rattle.jwalk_changes.specs.declared.iter.Step.{Step}
use Rattle.jwalk_changes.specs.declared.iter.Step.TheVariants.{Tell, Skip, Pass, End}
use Rattle.jwalk_changes.specs.AtPath.{path_cmp, is_before, is_same, is_below}
use Rattle.jwalk_changes.specs.Differences.{Ascends, at, is_within}
use Rattle.jwalk_changes.specs.Side.{MayBeLeft, is_fallen_in, is_fresh_in}
use Rattle.jwalk_changes.specs.Steps.{step_at, step_behind, step_of, least, first_of}
use Rattle.jwalk_changes.proofs.OrderFacts.{Path, same_path, not_before, before_trans, below_is_after, below_between, path_cmp_itself}
use Rattle.jwalk_changes.proofs.ListFacts.{before_all, all_map}

-- An input was asked, and ascends so far.
pub record Goes {X : Type 0} (a : Ahead X) : Type 0 where
  pub asked : is_fresh_in a ≡ false
  pub ascends : is_fallen_in a ≡ false

-- ---- places

none_within_by : (b : Bool) (u p : Path) → is_below u p ≡ b → is_before u p ≡ false → b ≡ false
none_within_by true u p below before = absurd (cc (below_is_after u p below, before))
none_within_by false u p below before = refl

later_not_before : (b : Bool) (u v p : Path) → is_before v p ≡ b → is_before u v ≡ true → is_before u p ≡ false → b ≡ false
later_not_before true u v p before after not = absurd (cc (before_trans u v p after before, not))
later_not_before false u v p before after not = refl

module _ {U : Type 0} (place : U → Path) where
  -- where the first place doesn't come before a path, none is above it
  none_within : (u : U) (l : List U) (p : Path) → is_before (place u) p ≡ false → Ascends place (u ∷ l) → is_within place (u ∷ l) p ≡ false
  none_within u [] p not all = ap (λ b. b || false) (none_within_by (is_below (place u) p) (place u) p refl not)
  none_within u (v ∷ l) p not all =
      ap (λ b. b || is_within place (v ∷ l) p) (none_within_by (is_below (place u) p) (place u) p refl not)
      ∙ none_within v l p (later_not_before (is_before (place v) p) (place u) (place v) p refl all.0.0 not) all.1

  outside_by : (u : U) (lu : List U) (p : Path) → is_before (place u) p ≡ false → MayBeLeft (Taken u) lu → Ascends place lu → is_within place lu p ≡ false
  outside_by u [] p not may all = absurd may
  outside_by u (v ∷ l) p not may all = none_within v l p (ap (λ w. is_before (place w) p) may ∙ not) all

  within_by : (u : U) (lu : List U) (p : Path) → is_below (place u) p ≡ true → MayBeLeft (Taken u) lu → is_within place lu p ≡ true
  within_by u [] p below may = absurd may
  within_by u (v ∷ l) p below may = ap (λ b. b || is_within place l p) (ap (λ w. is_below (place w) p) may ∙ below)

  outside_none : (lu : List U) (p : Path) → lu ≡ [] → is_within place lu p ≡ false
  outside_none lu p is = ap (λ l. is_within place l p) is

-- what is below a place that another path has behind it is at none of the paths from there on
module _ {X : Type 0} (path : X → Path) where
  none_below_by : (b : Bool) (u p q : Path) (x : X) → is_same (path x) q ≡ b → is_before u p ≡ true → is_below u p ≡ false → is_below u q ≡ true → is_before (path x) p ≡ false → b ≡ false
  none_below_by true u p q x same before not below upto =
      absurd (cc (below_between u p (path x) (ap (is_below u) (same_path (path x) q same) ∙ below) before upto, not))
  none_below_by false u p q x same before not below upto = refl

  pub none_below : (u p q : Path) (l : List X) → is_before u p ≡ true → is_below u p ≡ false → is_below u q ≡ true → AllByRecursion (λ x. is_before (path x) p ≡ false) l → at path q l ≡ None
  none_below u p q [] before not below all = refl
  none_below u p q (x ∷ l) before not below all =
      ap (λ b. cond b (Some x) (at path q l)) (none_below_by (is_same (path x) q) u p q x refl before not below all.0) ∙ none_below u p q l before not below all.1

not_after_by : (b : Bool) (p q : Path) → is_before q p ≡ b → is_before p q ≡ true → b ≡ false
not_after_by true p q back before = absurd (cc (before_trans p q p before back, ap is_lt (path_cmp_itself p)))
not_after_by false p q back before = refl

not_after : (p q : Path) → is_before p q ≡ true → is_before q p ≡ false
not_after p q before = not_after_by (is_before q p) p q refl before

module _ {X : Type 0} (path : X → Path) where
  upto_after : (p : Path) (l : List X) → AllByRecursion (λ x. is_before p (path x) ≡ true) l → AllByRecursion (λ x. is_before (path x) p ≡ false) l
  upto_after p l all = all_map (λ x. is_before p (path x) ≡ true) (λ x. is_before (path x) p ≡ false) (λ x before. not_after p (path x) before) l all

  upto_here : (x : X) (p : Path) (l : List X) → path x ≡ p → MayBeLeft (Taken x) l → Ascends path l → AllByRecursion (λ y. is_before (path y) p ≡ false) l
  upto_here x p [] here may all = absurd may
  upto_here x p (y ∷ l) here may all =
      let same : path y ≡ p = ap path may ∙ here in (
        ap is_lt (ap (path_cmp (path y)) (sym same) ∙ path_cmp_itself (path y)),
        upto_after p l (subst (λ (k : Path). AllByRecursion (λ z. is_before k (path z) ≡ true) l) same all.0),
      )

  after_taken : (y : X) (p : Path) (l : List X) → is_before p (path y) ≡ true → MayBeLeft (Taken y) l → Ascends path l → AllByRecursion (λ z. is_before p (path z) ≡ true) l
  after_taken y p [] before may all = absurd may
  after_taken y p (z ∷ l) before may all = before_all path p z l (ap (λ w. is_before p (path w)) may ∙ before) all

  after_none : (p : Path) (l : List X) → l ≡ [] → AllByRecursion (λ z. is_before p (path z) ≡ true) l
  after_none p l is = subst (AllByRecursion (λ z. is_before p (path z) ≡ true)) (sym is) tt

-- ---- steps

module _ {O N U : Type 0} (op : O → Path) (np : N → Path) (place : U → Path) (a : Ahead O) (b : Ahead N) (c : Ahead U) where
  -- The first path is that of an old entry alone, of a new one alone, or of both.
  pub record IsOld (p : Path) : Type 0 where
    pub entry : O
    pub taken : a ≡ Taken entry
    pub path : op entry ≡ p
    pub news : (l : List N) → MayBeLeft b l → Ascends np l → AllByRecursion (λ y. is_before p (np y) ≡ true) l

  pub record IsNew (p : Path) : Type 0 where
    pub entry : N
    pub taken : b ≡ Taken entry
    pub path : np entry ≡ p
    pub olds : (l : List O) → MayBeLeft a l → Ascends op l → AllByRecursion (λ x. is_before p (op x) ≡ true) l

  pub record AreBoth (p : Path) : Type 0 where
    pub old : O
    pub new : N
    pub old_taken : a ≡ Taken old
    pub new_taken : b ≡ Taken new
    pub old_path : op old ≡ p
    pub new_path : np new ≡ p

  abbrev pub IsFirst : First → Path → Type 0
  IsFirst Old p = IsOld p
  IsFirst New p = IsNew p
  IsFirst Both p = AreBoth p

  -- No place is above a path, or one is, whatever places may be left.
  abbrev pub IsOutside : Path → Type 0
  IsOutside p = (l : List U) → MayBeLeft c l → Ascends place l → is_within place l p ≡ false

  abbrev pub IsWithin : Path → Type 0
  IsWithin p = (l : List U) → MayBeLeft c l → is_within place l p ≡ true

  -- The first place isn't above anything that may be left.
  pub record IsPast : Type 0 where
    pub first : U
    pub taken : c ≡ Taken first
    pub none_old : (l : List O) → MayBeLeft a l → Ascends op l → (q : Path) → is_below (place first) q ≡ true → at op q l ≡ None
    pub none_new : (l : List N) → MayBeLeft b l → Ascends np l → (q : Path) → is_below (place first) q ≡ true → at np q l ≡ None

  pub record AllOver : Type 0 where
    pub olds : a ≡ Over
    pub news : b ≡ Over
    pub places : c ≡ Over

  abbrev pub Means : Step → Type 0
  Means (Tell first) = (p : Path) × IsFirst first p × IsOutside p
  Means (Skip first) = (p : Path) × IsFirst first p × IsWithin p
  Means Pass = IsPast
  Means End = AllOver

  upto_olds : (first : First) (p : Path) → IsFirst first p → (l : List O) → MayBeLeft a l → Ascends op l → AllByRecursion (λ x. is_before (op x) p ≡ false) l
  upto_olds Old p is l may all = upto_here op is.entry p l is.path (subst (λ (k : Ahead O). MayBeLeft k l) is.taken may) all
  upto_olds New p is l may all = upto_after op p l (is.olds l may all)
  upto_olds Both p is l may all = upto_here op is.old p l is.old_path (subst (λ (k : Ahead O). MayBeLeft k l) is.old_taken may) all

  upto_news : (first : First) (p : Path) → IsFirst first p → (l : List N) → MayBeLeft b l → Ascends np l → AllByRecursion (λ x. is_before (np x) p ≡ false) l
  upto_news Old p is l may all = upto_after np p l (is.news l may all)
  upto_news New p is l may all = upto_here np is.entry p l is.path (subst (λ (k : Ahead N). MayBeLeft k l) is.taken may) all
  upto_news Both p is l may all = upto_here np is.new p l is.new_path (subst (λ (k : Ahead N). MayBeLeft k l) is.new_taken may) all

module _ {O N U : Type 0} (op : O → Path) (np : N → Path) (place : U → Path) (a : Ahead O) (b : Ahead N) where
  means_taken : (x y : Bool) (u : U) (first : First) (p : Path) → IsFirst op np place a b (Taken u) first p → is_before (place u) p ≡ x → is_below (place u) p ≡ y
      → Means op np place a b (Taken u) (if x then (if y then Skip first else Pass) else Tell first)
  means_taken true true u first p is before below = (p, is, λ l may. within_by place u l p below may)
  means_taken true false u first p is before below = record {
    first = u;
    taken = refl;
    none_old = λ l may all q above. none_below op (place u) p q l before below above (upto_olds op np place a b (Taken u) first p is l may all);
    none_new = λ l may all q above. none_below np (place u) p q l before below above (upto_news op np place a b (Taken u) first p is l may all);
  }
  means_taken false y u first p is before below = (p, is, λ l may all. outside_by place u l p before may all)

  means_at : (c : Ahead U) (first : First) (p : Path) → Goes c → IsFirst op np place a b c first p → Means op np place a b c (step_at place c p first)
  means_at Unasked first p goes is = absurd (cc goes.asked)
  means_at (Taken u) first p goes is = means_taken (is_before (place u) p) (is_below (place u) p) u first p is refl refl
  means_at Over first p goes is = (p, is, λ l may all. outside_none place l p may)
  means_at Fallen first p goes is = absurd (cc goes.ascends)

  at_nothing : {X : Type 0} (path : X → Path) (l : List X) (q : Path) → l ≡ [] → at path q l ≡ None
  at_nothing path l q is = ap (at path q) is

  means_behind : (c : Ahead U) → Goes c → a ≡ Over → b ≡ Over → Means op np place a b c (step_behind c)
  means_behind Unasked goes olds news = absurd (cc goes.asked)
  means_behind (Taken u) goes olds news = record {
    first = u;
    taken = refl;
    none_old = λ l may all q above. at_nothing op l q (subst (λ (k : Ahead O). MayBeLeft k l) olds may);
    none_new = λ l may all q above. at_nothing np l q (subst (λ (k : Ahead N). MayBeLeft k l) news may);
  }
  means_behind Over goes olds news = record { olds = olds; news = news; places = refl }
  means_behind Fallen goes olds news = absurd (cc goes.ascends)

less_is : (p q : Path) → path_cmp p q ≡ Less → is_before p q ≡ true
less_is p q is = ap is_lt is

equal_is : (p q : Path) → path_cmp p q ≡ Equal → p ≡ q
equal_is p q is = same_path p q (ap is_eq is)

greater_is : (p q : Path) → path_cmp p q ≡ Greater → is_before q p ≡ true
greater_is p q is = not_before p q (ap is_lt is) (ap is_eq is)

module _ {O N U : Type 0} (op : O → Path) (np : N → Path) (place : U → Path) where
  means_both : (o : Ordering) (x : O) (y : N) (c : Ahead U) → Goes c → path_cmp (op x) (np y) ≡ o → Means op np place (Taken x) (Taken y) c (step_at place c (least o (op x) (np y)) (first_of o))
  means_both Less x y c goes is = means_at op np place (Taken x) (Taken y) c Old (op x) goes (record {
    entry = x;
    taken = refl;
    path = refl;
    news = λ l may all. after_taken np y (op x) l (less_is (op x) (np y) is) may all;
  })
  means_both Equal x y c goes is = means_at op np place (Taken x) (Taken y) c Both (op x) goes (record {
    old = x;
    new = y;
    old_taken = refl;
    new_taken = refl;
    old_path = refl;
    new_path = sym (equal_is (op x) (np y) is);
  })
  means_both Greater x y c goes is = means_at op np place (Taken x) (Taken y) c New (np y) goes (record {
    entry = y;
    taken = refl;
    path = refl;
    olds = λ l may all. after_taken op x (np y) l (greater_is (op x) (np y) is) may all;
  })

  -- What a step means.
  pub means : (a : Ahead O) (b : Ahead N) (c : Ahead U) → Goes a → Goes b → Goes c → Means op np place a b c (step_of op np place a b c)
  means Unasked b c p q r = absurd (cc p.asked)
  means (Taken x) Unasked c p q r = absurd (cc q.asked)
  means (Taken x) (Taken y) c p q r = means_both (path_cmp (op x) (np y)) x y c r refl
  means (Taken x) Over c p q r = means_at op np place (Taken x) Over c Old (op x) r (record {
    entry = x;
    taken = refl;
    path = refl;
    news = λ l may all. after_none np (op x) l may;
  })
  means (Taken x) Fallen c p q r = absurd (cc q.ascends)
  means Over Unasked c p q r = absurd (cc q.asked)
  means Over (Taken y) c p q r = means_at op np place Over (Taken y) c New (np y) r (record {
    entry = y;
    taken = refl;
    path = refl;
    olds = λ l may all. after_none op (np y) l may;
  })
  means Over Over c p q r = means_behind op np place Over Over c r refl refl
  means Over Fallen c p q r = absurd (cc q.ascends)
  means Fallen b c p q r = absurd (cc p.ascends)
