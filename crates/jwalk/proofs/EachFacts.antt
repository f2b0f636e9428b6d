-- Closures that are called with a walk's answers.
use Rattle.std.proofs.Common.{◌≡◌, ◌∙◌, false, true, List, [], ◌∷◌, Option, Some, None, Result, Ok, Err, IsErr, refl, sym, ap, subst}
use Rattle.std.specs.Prelude.{MatchOption, MatchResult, IsErrAnd}
use Rattle.std.specs.Iterator.{YieldsThen, Drains}
use Rattle.std.specs.List.{FoldsTo}
use denote.Param.Always.{always_mut, mut_next}
use denote.Param.Members.{Mut, Called}
use Rattle.jwalk.specs.Each.{CallsUntilError}

module _ {F A R : Type 0} (g : Mut F (A × Unit {0}) R) (step : F → A → F → Type 0) (is : (p : F) (x : A) (q : F) → step p x q → (r : R) × Called g p (x, tt) r q) where
  -- what may always be called may be so after calls
  after_calls : (xs : List A) (f q : F) → always_mut g f → FoldsTo step f xs q → always_mut g q
  after_calls [] f q h same = subst (always_mut g) same h
  after_calls (x ∷ xs) f q h (j, first, rest) =
      let called = is f x j first in
      after_calls xs j q (mut_next g f (x, tt) called.0 j j called.1 refl h) rest

  pub may_call : (xs : List A) (f q : F) (x : A) → always_mut g f → FoldsTo step f xs q → g.pre q (x, tt)
  may_call xs f q x h folds = ((after_calls xs f q h folds).at ((x, tt) ∷ [])).0

module _ {F A V : Type 0} (g : Mut F (A × Unit {0}) (Result (Unit {0}) V)) where
  -- a call that goes on returned `Ok`
  abbrev Goes : F → A → F → Type 0
  Goes p x q = (v : Result (Unit {0}) V) × Called g p (x, tt) v q × (v ≡ Ok tt)

  all_ok : (xs : List A) (f q : F) → FoldsTo Goes f xs q → FoldsTo (λ p x q. Called g p (x, tt) (Ok tt) q) f xs q
  all_ok [] f q same = same
  all_ok (x ∷ xs) f q (j, (v, called, ok), rest) = (j, subst (λ w. Called g f (x, tt) w j) ok called, all_ok xs j q rest)

  -- what the last call is, if one ends the calls: it returned the error of a residual
  abbrev EndsBy : {W : Type 0} → (W → V) → F → Result (Unit {0}) V → Option A → Type 0
  EndsBy {W} of last result o =
      MatchOption o (result ≡ Ok tt) (λ x. (v : Result (Unit {0}) V) × (h : F) × (e : W) × Called g last (x, tt) v h × (v ≡ Err (of e)) × (IsErr result × IsErrAnd result (λ y. y ≡ of e)))

  module _ {S W : Type 0} (begins : S → Type 0) (steps : S → Option A → S → Type 0) (of : W → V) where
    ends : (o : Option A) (result : Result (Unit {0}) V) (s u : S) (xs : List A) (last : F) → YieldsThen steps s xs o u → EndsBy of last result o
        → MatchResult result (λ _. Drains steps s xs) (λ error. (x : A) × (end : S) × (after : F) × YieldsThen steps s xs (Some x) end × Called g last (x, tt) (Err error) after)
    ends None (Ok t) s u xs last yields is = (u, yields)
    ends None (Err e) s u xs last yields is = absurd cc
    ends (Some x) (Ok t) s u xs last yields (v, h, e, called, br, res) = absurd (let no : false ≡ true = res.0 in cc)
    ends (Some x) (Err error) s u xs last yields (v, h, e, called, br, res) = (x, u, h, yields, subst (λ w. Called g last (x, tt) w h) (br ∙ ap Err (sym res.1)) called)

    -- the calls end with the walk, or at the error that is returned
    pub calls_until : (f : F) (result : Result (Unit {0}) V) (s u : S) → begins s → (xs : List A) (o : Option A) (last : F) → YieldsThen steps s xs o u → FoldsTo Goes f xs last → EndsBy of last result o → CallsUntilError begins steps g f result
    calls_until f result s u begun xs o last yields folds is = record { walk = s; begun = begun; answered = xs; last = last; passes = all_ok xs f last folds; ends = ends o result s u xs last yields is }
