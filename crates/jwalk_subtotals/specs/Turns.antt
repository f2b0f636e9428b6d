-- One turn of an iterator over subtotals, and what it is made of.
use Rattle.std.specs.Prelude.{◌≡◌, ◌<◌, ◌⊎◌, Bool, true, false, ◌||◌, List, [], map, Option, Some, None, Result, Err}
use Rattle.std.specs.Iterator.{Count}
use Rattle.jwalk.specs.jwalk_model.Entry.{Entry}
use Rattle.jwalk.specs.jwalk_model.declared.metadata.Identity.{Identity}
use Rattle.jwalk.specs.jwalk_job.Entry.{item}
use Rattle.jwalk.specs.jwalk_job.declared.dir_entry.DirEntry.{DirEntry}
use Rattle.jwalk.specs.jwalk_job.declared.error.Error.{Error}
use Rattle.jwalk_subtotals.specs.declared.stack.WithSubtotal.{WithSubtotal}
use Rattle.jwalk_subtotals.specs.declared.iter.Subtotals.{Subtotals}
use Rattle.jwalk_subtotals.specs.declared.iter.Turn.{Turn}
use Rattle.jwalk_subtotals.specs.declared.iter.Turn.TheVariants.{Yields, GoesOn, Ends}
use Rattle.jwalk_subtotals.specs.declared.error.SubtotalError.{SubtotalError}
use Rattle.jwalk_subtotals.specs.declared.options.SubtotalOptions.{SubtotalOptions}
use Rattle.jwalk_subtotals.specs.Counted.{counted_once, is_repeated, own}
use Rattle.jwalk_subtotals.specs.Subtotals.{is_asked}
use Rattle.jwalk_subtotals.specs.Stack.{left_of, closed_of, entered, AreTooMany, CannotClose}
use Rattle.jwalk_subtotals.specs.declared.subtotal.Subtotal.{Subtotal}
use Rattle.jwalk_subtotals.specs.Subtotal.{IsTooGreat}
use Rattle.jwalk_subtotals.specs.declared.error.SubtotalError.TheVariants.{TooMany}
use Rattle.jwalk_subtotals.specs.Files.{AreWith}
use Rattle.jwalk_subtotals.specs.Coming.{Held, answers_of, options_of, held, is_over, is_stopped, coming, in_all, value_of, stops_with, weight, CanGoOn, GoesOver}

module _ {C A R E : Type 0} where
  -- what a turn yields
  abbrev pub result_of : Turn C A R E → Option (Result (WithSubtotal C A R E) (SubtotalError A))
  result_of (Yields x) = Some x
  result_of GoesOn = None
  result_of Ends = None

  abbrev pub is_end : Turn C A R E → Bool
  is_end (Yields x) = false
  is_end GoesOn = false
  is_end Ends = true

module _ {R E : Type 0} where
  -- what an entry counts by itself beside files that were counted before
  abbrev pub own_beside : SubtotalOptions → List Identity → Entry R E → Subtotal
  own_beside options files e = own options.apparent (is_repeated files (counted_once options e)) e

  -- An entry is open below the others, or counts below the last, and its file is counted.
  pub record Enters (options : SubtotalOptions) (old : Held R E) (e : Entry R E) (new : Held R E) : Type 0 where
    pub frames : new.frames ≡ entered (is_asked options e) e (own_beside options old.files e) old.frames
    pub files : AreWith (counted_once options e) old.files new.files

  -- A number gets too great if an entry counts below the last.
  abbrev pub CannotEnter : SubtotalOptions → Held R E → Entry R E → Type 0
  CannotEnter options h e = AreTooMany (own_beside options h.files e) h.frames

module _ {C A I R E : Type 0} where
  -- The last open entry is closed, and yielded. All else stays, but that nothing more comes behind some errors.
  pub record Closes (old : Subtotals C A I R E) (turn : Turn C A R E) (new : Subtotals C A I R E) : Type 0 where
    pub answers : answers_of new ≡ answers_of old
    pub options : options_of new ≡ options_of old
    pub ahead : new.ahead ≡ old.ahead
    pub files : (held new).files ≡ (held old).files
    pub stops : is_stopped new ≡ stops_with (result_of turn)
    pub goes_on : is_end turn ≡ false
    pub left : is_stopped new ≡ false → (held new).frames ≡ left_of (held old).frames
    pub closed : is_stopped new ≡ false → value_of (result_of turn) ≡ closed_of (held old).frames
    pub too_many : result_of turn ≡ Some (Err TooMany) → CannotClose (held old).frames

module _ {C A I R E : Type 0} (next : I → Option (Result (DirEntry C A R E) (Error A)) → I → Type 0) (can : I → Type 0) (left : I → Count) where
  -- One turn: it may yield something, and go on, or end.
  pub record Turns (old : Subtotals C A I R E) (turn : Turn C A R E) (new : Subtotals C A I R E) : Type 0 where
    pub goes : GoesOver next old (value_of (result_of turn)) new
    pub stops : is_stopped new ≡ (is_stopped old || stops_with (result_of turn))
    pub silent : is_stopped old ≡ true → is_end turn ≡ true
    pub too_many : result_of turn ≡ Some (Err TooMany) → IsTooGreat (in_all (options_of old) (held old) (map item goes.taken))
    pub ends : is_end turn ≡ true → (is_stopped new ≡ true) ⊎ ((is_over new ≡ true) × (coming (options_of new) (held new) [] ≡ []))
    pub can_go_on : CanGoOn can left new
    pub falls : is_end turn ≡ false → weight left new < weight left old
