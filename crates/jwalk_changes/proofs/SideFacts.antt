-- One input of a comparison.
use Rattle.std.proofs.Common.{◌≡◌, Bool, true, false, List, [], ◌∷◌, ◌++◌, Option, None, refl, sym, ap, ap₂, ◌∙◌, subst, append_assoc}
use Rattle.std.specs.Iterator.{Yields, YieldsThen}
use Rattle.std.proofs.lemmas.List.{append-nil}
use Rattle.jwalk_changes.specs.declared.side.Ahead.{Ahead}
use Rattle.jwalk_changes.specs.declared.side.Ahead.TheVariants.{Unasked, Taken, Over, Fallen}
use Rattle.jwalk_changes.specs.declared.side.Side.{Side}
use Rattle.jwalk_changes.specs.Differences.{Ascends}
use Rattle.jwalk_changes.specs.AtPath.{is_before}
use Rattle.jwalk_changes.specs.Side.{waiting, MayBeLeft, Takes, Asks, Passes, Advances, items_of, is_over, is_over_in, is_fallen, is_fallen_in, is_fresh_in}
use Rattle.jwalk_changes.proofs.OrderFacts.{Path}
use Rattle.jwalk_changes.proofs.ListFacts.{ascends_front, ascends_back, ascends_cons}

-- ---- calls one after another

module _ {I X : Type 0} (next : I → Option X → I → Type 0) where
  pub yields_on : (xs ys : List X) (s m e : I) → Yields next s xs m → Yields next m ys e → Yields next s (xs ++ ys) e
  yields_on [] ys s m e same more = subst (λ i. Yields next i ys e) (sym same) more
  yields_on (x ∷ xs) ys s m e (j, step, rest) more = (j, step, yields_on xs ys j m e rest more)

  pub takes_on : (a b c : Bool) (xs ys : List X) (s m e : I) → (a ≡ true → b ≡ true) → (b ≡ true → c ≡ true) → Takes next a b s xs m → Takes next b c m ys e → Takes next a c s (xs ++ ys) e
  takes_on true false c xs ys s m e p q first more = absurd (cc (p refl))
  takes_on true true c xs ys s m e p q first more = (ap₂ (λ l k. l ++ k) first.0 more.0, first.1 ∙ more.1)
  takes_on false true false xs ys s m e p q first more = absurd (cc (q refl))
  takes_on false true true xs ys s m e p q (t, calls, step) more =
      (t, subst (λ l. Yields next s l t) (sym (ap (λ l. xs ++ l) more.0 ∙ append-nil xs)) calls, subst (next t None) more.1 step)
  takes_on false false false xs ys s m e p q first more = yields_on xs ys s m e first more
  takes_on false false true xs ys s m e p q first (t, calls, step) = (t, yields_on xs ys s m t first calls, step)

  pub takes_none : (b : Bool) (s : I) → Takes next b b s [] s
  takes_none true s = (refl, refl)
  takes_none false s = refl

  pub takes_to_end : (a b : Bool) (xs : List X) (s e : I) → a ≡ false → b ≡ true → Takes next a b s xs e → YieldsThen next s xs None e
  takes_to_end false true xs s e p q takes = takes
  takes_to_end true b xs s e p q takes = absurd (cc p)
  takes_to_end false false xs s e p q takes = absurd (cc q)

pub never : (b : Bool) → b ≡ true → b ≡ false → ⊥
never b is not = cc (is, not)

module _ {I X : Type 0} (next : I → Option X → I → Type 0) (path : X → Path) where
  -- ---- nothing, and one after another

  abbrev pub stays : (s : Side X I) → Passes next path s s
  stays s = record {
    taken = [];
    compared = [];
    takes = takes_none next (is_over s) (items_of s);
    stays_over = λ is. is;
    stays_fallen = λ is. is;
    queue = λ _. append-nil (waiting s.ahead);
    follows = λ l may. may;
    ascends = λ _ l may all. all;
    falls = λ is not _. never (is_fallen s) is not;
  }

  pub not_fallen : (a b : Bool) → (a ≡ true → b ≡ true) → b ≡ false → a ≡ false
  not_fallen true b keeps not = absurd (cc (keeps refl))
  not_fallen false b keeps not = refl

  pub falls_by : (f : Bool) (a b c : Side X I) (one : Passes next path a b) (two : Passes next path b c) → is_fallen b ≡ f → is_fallen c ≡ true → is_fallen a ≡ false
      → Ascends path (waiting a.ahead ++ (one.taken ++ two.taken)) → ⊥
  falls_by true a b c one two at is not all =
      one.falls at not (ascends_front path (waiting a.ahead ++ one.taken) two.taken (subst (Ascends path) (sym (append_assoc (waiting a.ahead) one.taken two.taken)) all))
  falls_by false a b c one two at is not all =
      two.falls is at (ascends_back path one.compared (waiting b.ahead ++ two.taken) (subst (Ascends path)
      (sym (append_assoc (waiting a.ahead) one.taken two.taken) ∙ ap (λ l. l ++ two.taken) (one.queue at) ∙ append_assoc one.compared (waiting b.ahead) two.taken) all))

  abbrev pub passes_on : (a b c : Side X I) → Passes next path a b → Passes next path b c → Passes next path a c
  passes_on a b c one two = record {
    taken = one.taken ++ two.taken;
    compared = one.compared ++ two.compared;
    takes = takes_on next (is_over a) (is_over b) (is_over c) one.taken two.taken (items_of a) (items_of b) (items_of c) one.stays_over two.stays_over one.takes two.takes;
    stays_over = λ is. two.stays_over (one.stays_over is);
    stays_fallen = λ is. two.stays_fallen (one.stays_fallen is);
    queue = λ not.
        sym (append_assoc (waiting a.ahead) one.taken two.taken)
        ∙ ap (λ l. l ++ two.taken) (one.queue (not_fallen (is_fallen b) (is_fallen c) two.stays_fallen not))
        ∙ append_assoc one.compared (waiting b.ahead) two.taken
        ∙ ap (λ l. one.compared ++ l) (two.queue not)
        ∙ sym (append_assoc one.compared two.compared (waiting c.ahead));
    follows = λ l may. subst (MayBeLeft a.ahead) (sym (append_assoc one.compared two.compared l)) (one.follows (two.compared ++ l) (two.follows l may));
    ascends = λ not l may all.
        subst (Ascends path) (sym (append_assoc one.compared two.compared l))
        (one.ascends (not_fallen (is_fallen b) (is_fallen c) two.stays_fallen not) (two.compared ++ l) (two.follows l may) (two.ascends not l may all));
    falls = λ is not all. falls_by (is_fallen b) a b c one two refl is not all;
  }

  -- ---- one more is taken

  left_ascends : (y x : X) (l : List X) → is_before (path y) (path x) ≡ true → MayBeLeft (Taken x) l → Ascends path l → Ascends path (y ∷ l)
  left_ascends y x [] after may all = absurd may
  left_ascends y x (z ∷ l) after may all = ascends_cons path y z l (ap (λ (w : X). is_before (path y) (path w)) may ∙ after) all

  none_ascends : (y : X) (l : List X) → l ≡ [] → Ascends path (y ∷ l)
  none_ascends y [] is = (tt, tt)
  none_ascends y (z ∷ l) is = absurd (cc is)

  pub passes_by : (a b : Ahead X) (items left : I) → is_over_in a ≡ false → is_fallen_in a ≡ false → Asks next path a items b left → Advances next path (record { items = items; ahead = a }) (record { items = left; ahead = b })
  passes_by Unasked Unasked items left p q asks = absurd asks
  passes_by Unasked (Taken x) items left p q asks = record {
    passes = record {
      taken = x ∷ [];
      compared = [];
      takes = (left, asks.0, refl);
      stays_over = λ is. absurd (cc is);
      stays_fallen = λ is. absurd (cc is);
      queue = λ _. refl;
      follows = λ l may. tt;
      ascends = λ _ l may all. all;
      falls = λ is _ _. cc is;
    };
    compared = refl;
  }
  passes_by Unasked Over items left p q asks = record {
    passes = record {
      taken = [];
      compared = [];
      takes = (items, refl, asks);
      stays_over = λ is. refl;
      stays_fallen = λ is. absurd (cc is);
      queue = λ _. refl;
      follows = λ l may. tt;
      ascends = λ _ l may all. all;
      falls = λ is _ _. cc is;
    };
    compared = refl;
  }
  passes_by Unasked Fallen items left p q (x, step, not) = absurd (cc not)
  passes_by (Taken y) Unasked items left p q asks = absurd asks
  passes_by (Taken y) (Taken x) items left p q asks = record {
    passes = record {
      taken = x ∷ [];
      compared = y ∷ [];
      takes = (left, asks.0, refl);
      stays_over = λ is. absurd (cc is);
      stays_fallen = λ is. absurd (cc is);
      queue = λ _. refl;
      follows = λ l may. refl;
      ascends = λ _ l may all. left_ascends y x l asks.1 may all;
      falls = λ is _ _. cc is;
    };
    compared = refl;
  }
  passes_by (Taken y) Over items left p q asks = record {
    passes = record {
      taken = [];
      compared = y ∷ [];
      takes = (items, refl, asks);
      stays_over = λ is. refl;
      stays_fallen = λ is. absurd (cc is);
      queue = λ _. refl;
      follows = λ l may. refl;
      ascends = λ _ l may all. none_ascends y l may;
      falls = λ is _ _. cc is;
    };
    compared = refl;
  }
  passes_by (Taken y) Fallen items left p q (x, step, not) = record {
    passes = record {
      taken = x ∷ [];
      compared = y ∷ [];
      takes = (left, step, refl);
      stays_over = λ is. absurd (cc is);
      stays_fallen = λ is. refl;
      queue = λ is. absurd (cc is);
      follows = λ l may. refl;
      ascends = λ is l may all. absurd (cc is);
      falls = λ _ _ all. cc (all.0.0, not);
    };
    compared = refl;
  }
  passes_by Over b items left p q asks = absurd (cc p)
  passes_by Fallen b items left p q asks = absurd (cc q)

  -- an input that was asked has been asked
  pub asked_by : (a b : Ahead X) (items left : I) → Asks next path a items b left → is_fresh_in b ≡ false
  asked_by a Unasked items left asks = absurd asks
  asked_by a (Taken x) items left asks = refl
  asked_by a Over items left asks = refl
  asked_by a Fallen items left asks = refl
