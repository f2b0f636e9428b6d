-- What one turn of a comparison does.
use Rattle.std.specs.Prelude.{◌≡◌, ◌<◌, ◌⊎◌, ℕ, Bool, true, false, ◌||◌, List, Option, Some, None, Result, Ok, Err, if◌then◌else◌}
use Rattle.std.specs.declared.cmp.Ordering.{Ordering}
use Rattle.std.specs.declared.cmp.Ordering.TheVariants.{Less, Equal, Greater}
use Rattle.std.specs.Iterator.{Count}
use Rattle.jwalk_changes.specs.declared.facts.Facts.{Facts}
use Rattle.jwalk_changes.specs.declared.change.Change.{Change}
use Rattle.jwalk_changes.specs.declared.change.NotAscending.{NotAscending}
use Rattle.jwalk_changes.specs.declared.side.Ahead.{Ahead}
use Rattle.jwalk_changes.specs.declared.side.Ahead.TheVariants.{Unasked, Taken, Over, Fallen}
use Rattle.jwalk_changes.specs.declared.iter.Changes.{Changes}
use Rattle.jwalk_changes.specs.declared.iter.Turn.{Turn}
use Rattle.jwalk_changes.specs.declared.iter.Turn.TheVariants.{Yields, GoesOn, Ends}
use Rattle.jwalk_changes.specs.declared.iter.First.{First}
use Rattle.jwalk_changes.specs.declared.iter.First.TheVariants.{Old, New, Both}
use Rattle.jwalk_changes.specs.declared.iter.Step.{Step}
use Rattle.jwalk_changes.specs.declared.iter.Step.TheVariants.{Tell, Skip, Pass, End}
use Rattle.jwalk_changes.specs.AtPath.{path_cmp, is_before, is_below}
use Rattle.jwalk_changes.specs.Change.{change}
use Rattle.jwalk_changes.specs.Side.{is_fallen, is_fresh_in}
use Rattle.jwalk_changes.specs.Coming.{value_of, stops_with, is_stopped, weight, AreOver, HasFallen, CanGoOn, Goes}

-- what is done where this path is the first that isn't compared yet: a place that comes before it and isn't above it is passed, and below a place nothing is told
abbrev pub step_at : {U : Type 0} → (U → List (List ℕ)) → Ahead U → List (List ℕ) → First → Step
step_at place Unasked p first = Tell first
step_at place (Taken u) p first = if is_before (place u) p then (if is_below (place u) p then Skip first else Pass) else Tell first
step_at place Over p first = Tell first
step_at place Fallen p first = Tell first

-- which of two entries comes first
abbrev pub first_of : Ordering → First
first_of Less = Old
first_of Equal = Both
first_of Greater = New

-- the first of two paths
abbrev pub least : Ordering → List (List ℕ) → List (List ℕ) → List (List ℕ)
least Less p q = p
least Equal p q = p
least Greater p q = q

-- what is done where no entry is left
abbrev pub step_behind : {U : Type 0} → Ahead U → Step
step_behind Unasked = End
step_behind (Taken u) = Pass
step_behind Over = End
step_behind Fallen = End

-- what is done with no old entry
abbrev pub step_new : {N U : Type 0} → (N → List (List ℕ)) → (U → List (List ℕ)) → Ahead N → Ahead U → Step
step_new new_path place Unasked u = step_behind u
step_new new_path place (Taken y) u = step_at place u (new_path y) New
step_new new_path place Over u = step_behind u
step_new new_path place Fallen u = step_behind u

-- what is done with an old entry
abbrev pub step_old : {O N U : Type 0} → (O → List (List ℕ)) → (N → List (List ℕ)) → (U → List (List ℕ)) → O → Ahead N → Ahead U → Step
step_old old_path new_path place x Unasked u = step_at place u (old_path x) Old
step_old old_path new_path place x (Taken y) u =
    step_at place u (least (path_cmp (old_path x) (new_path y)) (old_path x) (new_path y)) (first_of (path_cmp (old_path x) (new_path y)))
step_old old_path new_path place x Over u = step_at place u (old_path x) Old
step_old old_path new_path place x Fallen u = step_at place u (old_path x) Old

-- what is done
abbrev pub step_of : {O N U : Type 0} → (O → List (List ℕ)) → (N → List (List ℕ)) → (U → List (List ℕ)) → Ahead O → Ahead N → Ahead U → Step
step_of old_path new_path place Unasked n u = step_new new_path place n u
step_of old_path new_path place (Taken x) n u = step_old old_path new_path place x n u
step_of old_path new_path place Over n u = step_new new_path place n u
step_of old_path new_path place Fallen n u = step_new new_path place n u

module _ {O N : Type 0} where
  -- what a turn yields
  abbrev pub result_of : Turn O N → Option (Result (Change O N) NotAscending)
  result_of (Yields x) = Some x
  result_of GoesOn = None
  result_of Ends = None

  abbrev pub is_end : Turn O N → Bool
  is_end (Yields x) = false
  is_end GoesOn = false
  is_end Ends = true

  -- what yields a change, if there is one
  abbrev pub turn_with : Option (Change O N) → Turn O N
  turn_with (Some c) = Yields (Ok c)
  turn_with None = GoesOn

  -- what is told of two entries at one path
  abbrev pub turn_both : (O → Facts) → (N → Facts) → Option O → Option N → Turn O N
  turn_both old_facts new_facts (Some e) (Some f) = turn_with (change old_facts new_facts e f)
  turn_both old_facts new_facts (Some e) None = GoesOn
  turn_both old_facts new_facts None f = GoesOn

module _ {I J K O N U : Type 0} where
  -- Each input was asked, and ascends so far.
  pub record AreAsked (s : Changes I J K O N U) : Type 0 where
    pub runs : is_stopped s ≡ false
    pub olds_ascend : is_fallen s.olds ≡ false
    pub news_ascend : is_fallen s.news ≡ false
    pub unknown_ascends : is_fallen s.unknown ≡ false
    pub olds_asked : is_fresh_in s.olds.ahead ≡ false
    pub news_asked : is_fresh_in s.news.ahead ≡ false
    pub unknown_asked : is_fresh_in s.unknown.ahead ≡ false

  -- Each input ascends so far.
  pub record DoAscend (s : Changes I J K O N U) : Type 0 where
    pub runs : is_stopped s ≡ false
    pub olds : is_fallen s.olds ≡ false
    pub news : is_fallen s.news ≡ false
    pub unknown : is_fallen s.unknown ≡ false

module _ {I J K O N U : Type 0} (next_old : I → Option O → I → Type 0) (next_new : J → Option N → J → Type 0) (next_unknown : K → Option U → K → Type 0)
    (can_old : I → Type 0) (left_old : I → Count) (can_new : J → Type 0) (left_new : J → Count) (can_unknown : K → Type 0) (left_unknown : K → Count)
    (old_path : O → List (List ℕ)) (old_facts : O → Facts) (new_path : N → List (List ℕ)) (new_facts : N → Facts) (place : U → List (List ℕ)) where
  -- One turn: it may yield something, and go on, or end.
  pub record Turns (before : Changes I J K O N U) (turn : Turn O N) (after : Changes I J K O N U) : Type 0 where
    pub goes : Goes next_old next_new next_unknown old_path old_facts new_path new_facts place before (value_of (result_of turn)) after
    pub stops : is_stopped after ≡ (is_stopped before || stops_with (result_of turn))
    pub silent : is_stopped before ≡ true → is_end turn ≡ true
    pub told : (input : NotAscending) → result_of turn ≡ Some (Err input) → HasFallen after input
    pub ends : is_end turn ≡ true → (is_stopped after ≡ true) ⊎ AreOver after
    pub can_go_on : CanGoOn can_old left_old can_new left_new can_unknown left_unknown after
    pub falls : is_end turn ≡ false → weight left_old left_new left_unknown after < weight left_old left_new left_unknown before
