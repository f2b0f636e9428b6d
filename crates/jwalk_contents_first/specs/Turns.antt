-- One turn of an iterator that yields contents first.
use Rattle.std.specs.Prelude.{◌≡◌, ◌<◌, ◌⊎◌, Bool, true, false, ◌||◌, [], Option, Some, None, Result}
use Rattle.std.specs.Iterator.{Count}
use Rattle.jwalk_job.specs.declared.dir_entry.DirEntry.{DirEntry}
use Rattle.jwalk_job.specs.declared.error.Error.{Error}
use Rattle.jwalk_contents_first.specs.declared.iter.ContentsFirst.{ContentsFirst}
use Rattle.jwalk_contents_first.specs.declared.iter.Ahead.{Ahead}
use Rattle.jwalk_contents_first.specs.declared.iter.Ahead.TheVariants.{Taken, Over}
use Rattle.jwalk_contents_first.specs.declared.iter.Turn.{Turn}
use Rattle.jwalk_contents_first.specs.declared.iter.Turn.TheVariants.{Yields, GoesOn, Ends}
use Rattle.jwalk_contents_first.specs.Coming.{answers_of, held, is_over, is_stopped, left_of, let_out_of, coming, value_of, stops_with, weight, CanGoOn, GoesOver}

module _ {C A R E : Type 0} where
  -- what a turn yields
  abbrev pub result_of : Turn C A R E → Option (Result (DirEntry C A R E) (Error A))
  result_of (Yields x) = Some x
  result_of GoesOn = None
  result_of Ends = None

  -- a turn in which this is yielded, or nothing, and which goes on
  abbrev pub turn_of : Option (Result (DirEntry C A R E) (Error A)) → Turn C A R E
  turn_of (Some x) = Yields x
  turn_of None = GoesOn

  -- what is known once this came from the walk, and waits
  abbrev pub ahead_of : Option (Result (DirEntry C A R E) (Error A)) → Ahead C A R E
  ahead_of (Some x) = Taken x
  ahead_of None = Over

  abbrev pub is_end : Turn C A R E → Bool
  is_end (Yields x) = false
  is_end GoesOn = false
  is_end Ends = true

module _ {C A I R E : Type 0} where
  -- The last entry that is held back is yielded. All else stays.
  pub record LetsOut (old : ContentsFirst C A I R E) (turn : Turn C A R E) (new : ContentsFirst C A I R E) : Type 0 where
    pub answers : answers_of new ≡ answers_of old
    pub ahead : new.ahead ≡ old.ahead
    pub runs : is_stopped new ≡ false
    pub last : stops_with (result_of turn) ≡ false
    pub goes_on : is_end turn ≡ false
    pub left : (held new).entries ≡ left_of (held old).entries
    pub yields : value_of (result_of turn) ≡ let_out_of (held old).entries

module _ {C A I R E : Type 0} (next : I → Option (Result (DirEntry C A R E) (Error A)) → I → Type 0) (can : I → Type 0) (left : I → Count) where
  -- One turn: it may yield something, and go on, or end.
  pub record Turns (old : ContentsFirst C A I R E) (turn : Turn C A R E) (new : ContentsFirst C A I R E) : Type 0 where
    pub goes : GoesOver next old (value_of (result_of turn)) new
    pub stops : is_stopped new ≡ (is_stopped old || stops_with (result_of turn))
    pub silent : is_stopped old ≡ true → is_end turn ≡ true
    pub ends : is_end turn ≡ true → (is_stopped new ≡ true) ⊎ ((is_over new ≡ true) × (coming (held new) [] ≡ []))
    pub can_go_on : CanGoOn can left new
    pub falls : is_end turn ≡ false → weight left new < weight left old
