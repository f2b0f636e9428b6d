-- Entries whose subtotals are still open.
use Rattle.std.specs.Prelude.{ℕ, nat_lt, Bool, true, false, List, [], ◌∷◌, map, reverse, Option, None, Some, Ok}
use Rattle.jwalk.specs.jwalk_model.Entry.{Entry}
use Rattle.jwalk.specs.jwalk_job.Entry.{entry}
use Rattle.jwalk_subtotals.specs.declared.subtotal.Subtotal.{Subtotal}
use Rattle.jwalk_subtotals.specs.declared.stack.Stack.{Stack}
use Rattle.jwalk_subtotals.specs.declared.stack.WithSubtotal.{WithSubtotal}
use Rattle.jwalk_subtotals.specs.Subtotal.{nothing, plus, IsTooGreat}
use Rattle.jwalk_subtotals.specs.Subtotals.{Yielded}

-- An open entry, and what was counted at and below it, without what is still open below it.
pub record Frame (R E : Type 0) : Type 0 where
  pub entry : Entry R E
  pub counted : Subtotal

-- an open entry as a value
abbrev pub frame : {C A R E : Type 0} → WithSubtotal C A R E → Frame R E
frame w = record { entry = entry w.entry; counted = w.subtotal }

-- the open entries, the last first
abbrev pub frames_of : {C A R E : Type 0} → Stack C A R E → List (Frame R E)
frames_of s = map frame (reverse s.open.items)

-- an entry that is closed, with its subtotal, as a value
abbrev pub closed : {C A R E : Type 0} → Option (WithSubtotal C A R E) → List (Yielded R E)
closed None = []
closed (Some w) = Ok (entry w.entry, w.subtotal) ∷ []

module _ {R E : Type 0} where
  -- whether the last open entry, if there is one, is less deep than this
  abbrev pub is_above : ℕ → List (Frame R E) → Bool
  is_above depth [] = true
  is_above depth (f ∷ fs) = nat_lt f.entry.depth depth

  -- the open entries with this counted below the last
  abbrev pub added : Subtotal → List (Frame R E) → List (Frame R E)
  added t [] = []
  added t (f ∷ fs) = record f { counted = plus f.counted t } ∷ fs

  -- the open entries with one more, of which this was counted
  abbrev pub opened : Entry R E → Subtotal → List (Frame R E) → List (Frame R E)
  opened e t fs = record { entry = e; counted = t } ∷ fs

  -- the open entries once another came, of which this counts: it is open if it is asked for, and else it counts below the last
  abbrev pub entered : Bool → Entry R E → Subtotal → List (Frame R E) → List (Frame R E)
  entered true e t fs = opened e t fs
  entered false e t fs = added t fs

  -- what the open entries count together
  abbrev pub open_total : List (Frame R E) → Subtotal
  open_total [] = nothing
  open_total (f ∷ fs) = plus f.counted (open_total fs)

  -- the open entries without the last, which counts below the one before
  abbrev pub left_of : List (Frame R E) → List (Frame R E)
  left_of [] = []
  left_of (f ∷ fs) = added f.counted fs

  -- the last with its subtotal
  abbrev pub closed_of : List (Frame R E) → List (Yielded R E)
  closed_of [] = []
  closed_of (f ∷ fs) = Ok (f.entry, f.counted) ∷ []

  -- A number gets too great if this is counted below the last.
  abbrev pub AreTooMany : Subtotal → List (Frame R E) → Type 0
  AreTooMany t [] = ⊥
  AreTooMany t (f ∷ fs) = IsTooGreat (plus f.counted t)

  -- A number gets too great if the last is closed.
  abbrev pub CannotClose : List (Frame R E) → Type 0
  CannotClose [] = ⊥
  CannotClose (f ∷ fs) = AreTooMany f.counted fs
