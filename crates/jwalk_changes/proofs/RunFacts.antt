-- Turns up to what a call returns.
use Rattle.std.proofs.Common.{◌≡◌, ◌≤◌, Bool, true, false, ◌||◌, [], Option, Some, None, Result, refl, ap, ◌∙◌, arith}
use Rattle.std.specs.Iterator.{Count, at_most, MakesProgress}
use Rattle.jwalk_changes.specs.declared.facts.Facts.{Facts}
use Rattle.jwalk_changes.specs.declared.change.Change.{Change}
use Rattle.jwalk_changes.specs.declared.change.NotAscending.{NotAscending}
use Rattle.jwalk_changes.specs.declared.iter.Changes.{Changes}
use Rattle.jwalk_changes.specs.declared.iter.Turn.{Turn}
use Rattle.jwalk_changes.specs.declared.iter.Turn.TheVariants.{Yields, GoesOn, Ends}
use Rattle.jwalk_changes.specs.Coming.{is_stopped, value, is_error, weight, CanGoOn, Goes, Gives}
use Rattle.jwalk_changes.specs.Steps.{Turns}
use Rattle.jwalk_changes.proofs.OrderFacts.{Path}
use Rattle.jwalk_changes.proofs.TurnFacts.{goes_nowhere, goes_on}

or_false : (b : Bool) → (b || false) ≡ b
or_false true = refl
or_false false = refl

module _ {I J K O N U : Type 0} (ni : I → Option O → I → Type 0) (nj : J → Option N → J → Type 0) (nk : K → Option U → K → Type 0)
    (ci : I → Type 0) (li : I → Count) (cj : J → Type 0) (lj : J → Count) (ck : K → Type 0) (lk : K → Count)
    (op : O → Path) (of : O → Facts) (np : N → Path) (nf : N → Facts) (place : U → Path) where
  abbrev Turned : Changes I J K O N U → Turn O N → Changes I J K O N U → Type 0
  Turned = Turns ni nj nk ci li cj lj ck lk op of np nf place

  -- Turns from the start yielded nothing yet.
  pub record Reaches (start now : Changes I J K O N U) : Type 0 where
    pub goes : Goes ni nj nk op of np nf place start [] now
    pub stops : is_stopped now ≡ is_stopped start
    pub can_go_on : CanGoOn ci li cj lj ck lk now
    pub fewer : weight li lj lk now ≤ weight li lj lk start

  pub reaches_start : (s : Changes I J K O N U) → CanGoOn ci li cj lj ck lk s → Reaches s s
  reaches_start s may = record { goes = goes_nowhere ni nj nk op of np nf place s s.stopped; stops = refl; can_go_on = may; fewer = omega arith }

  -- a turn that yields nothing and goes on
  pub reaches_on : (start now then : Changes I J K O N U) → Reaches start now → Turned now GoesOn then → Reaches start then
  reaches_on start now then before turn = record {
    goes = goes_on ni nj nk op of np nf place start now then [] [] before.goes turn.goes;
    stops = turn.stops ∙ or_false (is_stopped now) ∙ before.stops;
    can_go_on = turn.can_go_on;
    fewer = omega (arith, before.fewer, turn.falls refl);
  }

  -- a turn that yields something
  pub yields_after : (start now end : Changes I J K O N U) (x : Result (Change O N) NotAscending) → Reaches start now → Turned now (Yields x) end → Gives ni nj nk op of np nf place start (Some x) end
  yields_after start now end x before turn = record {
    goes = goes_on ni nj nk op of np nf place start now end [] (value x) before.goes turn.goes;
    stops = turn.stops ∙ ap (λ b. b || is_error x) before.stops;
    silent = λ is. absurd (cc (turn.silent (before.stops ∙ is)));
    told = turn.told;
    ends = tt;
  }

  pub nearer_after : (start now end : Changes I J K O N U) (x : Result (Change O N) NotAscending) → Reaches start now → Turned now (Yields x) end
      → MakesProgress (CanGoOn ci li cj lj ck lk) (λ s. at_most (weight li lj lk s)) start (Some x) end
  nearer_after start now end x before turn = record {
    on = λ _. (turn.can_go_on, tt, omega (arith, before.fewer, turn.falls refl));
    keeps = turn.can_go_on;
    rests = λ _. tt;
  }

  -- a turn that ends
  pub ends_after : (start now end : Changes I J K O N U) → Reaches start now → Turned now Ends end → Gives ni nj nk op of np nf place start None end
  ends_after start now end before turn = record {
    goes = goes_on ni nj nk op of np nf place start now end [] [] before.goes turn.goes;
    stops = turn.stops ∙ ap (λ b. b || false) before.stops;
    silent = λ _. refl;
    told = λ input is. absurd (cc is);
    ends = turn.ends refl;
  }
