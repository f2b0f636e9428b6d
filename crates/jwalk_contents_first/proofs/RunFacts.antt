-- One turn after another, and one call after another.
use Rattle.std.proofs.Common.{◌≡◌, ◌≤◌, Bool, true, false, ◌||◌, List, [], ◌∷◌, ◌++◌, map, Option, Some, None, Result, refl, sym, ap, ap₂, ◌∙◌, subst, append_assoc, arith}
use Rattle.std.specs.Iterator.{Count, at_most, MakesProgress, Yields, YieldsThen}
use Rattle.std.proofs.lemmas.List.{map-append, append-nil}
use Rattle.jwalk_model.specs.Entry.{Item}
use Rattle.jwalk_job.specs.declared.dir_entry.DirEntry.{DirEntry}
use Rattle.jwalk_job.specs.declared.error.Error.{Error}
use Rattle.jwalk_job.specs.Entry.{item}
use Rattle.jwalk_contents_first.specs.declared.iter.ContentsFirst.{ContentsFirst}
use Rattle.jwalk_contents_first.specs.declared.iter.Turn.{Turn}
use Rattle.jwalk_contents_first.specs.declared.iter.Turn.TheVariants.{Yields as TurnYields, GoesOn, Ends}
use Rattle.jwalk_contents_first.specs.Coming.{coming, answers_of, held, is_over, is_stopped, value_of, ends_with, stops_with, weight, CanGoOn, Takes, GoesOver, Gives}
use Rattle.jwalk_contents_first.specs.Turns.{result_of, Turns}

yields_on : {I X : Type 0} (next : I → Option X → I → Type 0) (xs ys : List X) (s m e : I) → Yields next s xs m → Yields next m ys e → Yields next s (xs ++ ys) e
yields_on next [] ys s m e same more = subst (λ i. Yields next i ys e) (sym same) more
yields_on next (x ∷ xs) ys s m e (j, step, rest) more = (j, step, yields_on next xs ys j m e rest more)

pub none_more : {X : Type 0} (xs ys : List X) → xs ≡ [] → ys ≡ [] → xs ++ ys ≡ []
none_more xs ys p q = ap₂ (λ a b. a ++ b) p q

module _ {I X : Type 0} (next : I → Option X → I → Type 0) where
  -- answers that are taken one after another
  pub takes_on : (a b c : Bool) (xs ys : List X) (s m e : I) → (a ≡ true → b ≡ true) → (b ≡ true → c ≡ true) → Takes next a b s xs m → Takes next b c m ys e → Takes next a c s (xs ++ ys) e
  takes_on true false c xs ys s m e p q first more = absurd (cc (p refl))
  takes_on true true c xs ys s m e p q first more = (none_more xs ys first.0 more.0, first.1 ∙ more.1)
  takes_on false true false xs ys s m e p q first more = absurd (cc (q refl))
  takes_on false true true xs ys s m e p q (t, calls, step) more =
      (t, subst (λ l. Yields next s l t) (sym (ap (λ l. xs ++ l) more.0 ∙ append-nil xs)) calls, subst (next t None) more.1 step)
  takes_on false false false xs ys s m e p q first more = yields_on next xs ys s m e first more
  takes_on false false true xs ys s m e p q first (t, calls, step) = (t, yields_on next xs ys s m t first calls, step)

  takes_none : (b : Bool) (s : I) → Takes next b b s [] s
  takes_none true s = (refl, refl)
  takes_none false s = refl

  pub none_taken : (a b : Bool) (xs : List X) (s e : I) → a ≡ true → Takes next a b s xs e → xs ≡ []
  none_taken true b xs s e is takes = takes.0
  none_taken false b xs s e is takes = absurd (cc is)

  pub takes_to_end : (a b : Bool) (xs : List X) (s e : I) → a ≡ false → b ≡ true → Takes next a b s xs e → YieldsThen next s xs None e
  takes_to_end false true xs s e p q takes = takes
  takes_to_end true b xs s e p q takes = absurd (cc p)
  takes_to_end false false xs s e p q takes = absurd (cc q)

module _ {C A I R E : Type 0} (next : I → Option (Result (DirEntry C A R E) (Error A)) → I → Type 0) where
  -- nothing is taken and nothing yielded
  pub stays : (s : ContentsFirst C A I R E) → GoesOver next s [] s
  stays s = record { taken = []; takes = takes_none next (is_over s) (answers_of s); stays_over = λ is. is; first = λ _ l _. refl; ascends = λ h. h }

  -- one after another
  abbrev pub goes_on : (a b c : ContentsFirst C A I R E) (ys zs : List (Item R E)) → (is_stopped c ≡ false → is_stopped b ≡ false) → GoesOver next a ys b → GoesOver next b zs c → GoesOver next a (ys ++ zs) c
  goes_on a b c ys zs keeps one two = record {
    taken = one.taken ++ two.taken;
    takes = takes_on next (is_over a) (is_over b) (is_over c) one.taken two.taken (answers_of a) (answers_of b) (answers_of c) one.stays_over two.stays_over one.takes two.takes;
    stays_over = λ is. two.stays_over (one.stays_over is);
    first = λ goes l none.
        ap (coming (held a)) (ap (λ m. m ++ l) (map-append item one.taken two.taken) ∙ append_assoc (map item one.taken) (map item two.taken) l)
        ∙ one.first (keeps goes) (map item two.taken ++ l) (λ is. none_more (map item two.taken) l (ap (map item) (none_taken next (is_over b) (is_over c) two.taken (answers_of b) (answers_of c) is two.takes)) (none (two.stays_over is)))
        ∙ ap (λ m. ys ++ m) (two.first goes l none)
        ∙ sym (append_assoc ys zs (coming (held c) l));
    ascends = λ h. two.ascends (one.ascends h);
  }

pub not_before : (a b c : Bool) → c ≡ (a || b) → c ≡ false → a ≡ false
not_before true b c is not = absurd (cc (is, not))
not_before false b c is not = refl

or_none : (b : Bool) → (b || false) ≡ b
or_none true = refl
or_none false = refl

module _ {C A I R E : Type 0} (next : I → Option (Result (DirEntry C A R E) (Error A)) → I → Type 0) (can : I → Type 0) (left : I → Count) where
  -- Turns from the start yielded nothing yet.
  pub record Reaches (start now : ContentsFirst C A I R E) : Type 0 where
    pub goes : GoesOver next start [] now
    pub stops : is_stopped now ≡ is_stopped start
    pub can_go_on : CanGoOn can left now
    pub fewer : weight left now ≤ weight left start

  pub reaches_start : (s : ContentsFirst C A I R E) → CanGoOn can left s → Reaches s s
  reaches_start s may = record { goes = stays next s; stops = refl; can_go_on = may; fewer = omega arith }

  -- a turn that yields nothing and goes on
  pub reaches_on : (start now then : ContentsFirst C A I R E) → Reaches start now → Turns next can left now GoesOn then → Reaches start then
  reaches_on start now then before turn = record {
    goes = goes_on next start now then [] [] (not_before (is_stopped now) false (is_stopped then) turn.stops) before.goes turn.goes;
    stops = turn.stops ∙ or_none (is_stopped now) ∙ before.stops;
    can_go_on = turn.can_go_on;
    fewer = omega (arith, before.fewer, turn.falls refl);
  }

  -- a turn that yields something
  pub yields_after : (start now end : ContentsFirst C A I R E) (x : Result (DirEntry C A R E) (Error A)) → Reaches start now → Turns next can left now (TurnYields x) end → Gives next start (Some x) end
  yields_after start now end x before turn = record {
    goes = goes_on next start now end [] (item x ∷ []) (not_before (is_stopped now) (ends_with x) (is_stopped end) turn.stops) before.goes turn.goes;
    stops = turn.stops ∙ ap (λ b. b || ends_with x) before.stops;
    silent = λ is. absurd (cc (turn.silent (before.stops ∙ is)));
    ends = tt;
  }

  pub nearer_after : (start now end : ContentsFirst C A I R E) (x : Result (DirEntry C A R E) (Error A)) → Reaches start now → Turns next can left now (TurnYields x) end → MakesProgress (CanGoOn can left) (λ s. at_most (weight left s)) start (Some x) end
  nearer_after start now end x before turn = record {
    on = λ _. (turn.can_go_on, tt, omega (arith, before.fewer, turn.falls refl));
    keeps = turn.can_go_on;
    rests = λ _. tt;
  }

  -- a turn that ends
  pub ends_after : (start now end : ContentsFirst C A I R E) → Reaches start now → Turns next can left now Ends end → Gives next start None end
  ends_after start now end before turn = record {
    goes = goes_on next start now end [] [] (not_before (is_stopped now) false (is_stopped end) turn.stops) before.goes turn.goes;
    stops = turn.stops ∙ ap (λ b. b || false) before.stops;
    silent = λ _. refl;
    ends = turn.ends refl;
  }

  -- a turn behind one that yields nothing, as one turn
  pub turns_on : (old mid new : ContentsFirst C A I R E) (turn : Turn C A R E) → Turns next can left old GoesOn mid → Turns next can left mid turn new → Turns next can left old turn new
  turns_on old mid new turn one two = record {
    goes = goes_on next old mid new [] (value_of (result_of turn)) (not_before (is_stopped mid) (stops_with (result_of turn)) (is_stopped new) two.stops) one.goes two.goes;
    stops = two.stops ∙ ap (λ b. b || stops_with (result_of turn)) (one.stops ∙ or_none (is_stopped old));
    silent = λ is. absurd (cc (one.silent is));
    ends = two.ends;
    can_go_on = two.can_go_on;
    falls = λ is. omega (arith, one.falls refl, two.falls is);
  }
