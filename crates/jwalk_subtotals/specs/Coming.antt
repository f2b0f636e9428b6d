-- What an iterator over subtotals holds, and what it will yield.
use Rattle.std.specs.Prelude.{◌≡◌, ◌+◌, ◌*◌, ◌⊎◌, ℕ, Bool, true, false, cond, ◌||◌, List, [], ◌∷◌, ◌++◌, length, map, Option, Some, None, Result, Ok, Err, IfNone}
use Rattle.std.specs.Iterator.{Count, IsFinite, size, Yields, YieldsThen}
use Rattle.jwalk.specs.jwalk_model.declared.metadata.Identity.{Identity}
use Rattle.jwalk.specs.jwalk_model.Entry.{Item}
use Rattle.jwalk.specs.jwalk_job.declared.dir_entry.DirEntry.{DirEntry}
use Rattle.jwalk.specs.jwalk_job.declared.error.Error.{Error}
use Rattle.jwalk.specs.jwalk_job.Error.{failure}
use Rattle.jwalk.specs.jwalk_job.Entry.{entry, item}
use Rattle.jwalk_subtotals.specs.declared.subtotal.Subtotal.{Subtotal}
use Rattle.jwalk_subtotals.specs.declared.options.SubtotalOptions.{SubtotalOptions}
use Rattle.jwalk_subtotals.specs.declared.stack.WithSubtotal.{WithSubtotal}
use Rattle.jwalk_subtotals.specs.declared.iter.Subtotals.{Subtotals}
use Rattle.jwalk_subtotals.specs.declared.iter.Ahead.{Ahead}
use Rattle.jwalk_subtotals.specs.declared.iter.Ahead.TheVariants.{Unasked, Taken, Over}
use Rattle.jwalk_subtotals.specs.declared.error.SubtotalError.{SubtotalError}
use Rattle.jwalk_subtotals.specs.declared.error.SubtotalError.TheVariants.{Walk, TooMany, Memory}
use Rattle.jwalk_subtotals.specs.Subtotal.{nothing, plus, IsTooGreat}
use Rattle.jwalk_subtotals.specs.Counted.{Weighed, weighed, files_after, HaveSame}
use Rattle.jwalk_subtotals.specs.Subtotals.{Yielded, below, beyond, total, listed_all}
use Rattle.jwalk_subtotals.specs.Stack.{Frame, frames_of, open_total}
use Rattle.jwalk_subtotals.specs.Files.{files_of}
use Rattle.jwalk_subtotals.specs.Error.{is_last}

-- What an iterator over subtotals holds: the open entries, the last first, the files that were counted, and the answer that was taken and isn't counted yet, if there is one.
pub record Held (R E : Type 0) : Type 0 where
  pub frames : List (Frame R E)
  pub files : List Identity
  pub waiting : List (Item R E)

module _ {R E : Type 0} where
  -- what closing the open entries yields, the last first, where `t` was counted below the last and these answers are still to come: before each the subtotals of what comes below it, and behind all of them those of the rest
  abbrev pub closing : SubtotalOptions → Subtotal → List (Frame R E) → List (Weighed R E) → List (Yielded R E)
  closing options t [] l = listed_all options l
  closing options t (f ∷ fs) l =
      listed_all options (below f.entry.depth l) ++ (Ok (f.entry, plus (plus f.counted t) (total (below f.entry.depth l))) ∷ [])
      ++ closing options (plus (plus f.counted t) (total (below f.entry.depth l))) fs (beyond f.entry.depth l)

  -- what is yielded from here on if the walk goes on with these answers
  abbrev pub coming : SubtotalOptions → Held R E → List (Item R E) → List (Yielded R E)
  coming options h l = closing options nothing h.frames (weighed options h.files (h.waiting ++ l))

  -- what the open entries, the answer that waits and these answers count together
  abbrev pub in_all : SubtotalOptions → Held R E → List (Item R E) → Subtotal
  in_all options h l = plus (open_total h.frames) (total (weighed options h.files (h.waiting ++ l)))

  -- the files that are counted behind these answers
  abbrev pub counted_behind : SubtotalOptions → Held R E → List (Item R E) → List Identity
  counted_behind options h l = files_after options h.files (h.waiting ++ l)

-- the answer that was taken and isn't counted yet
abbrev pub waiting_in : {C A R E : Type 0} → Ahead C A R E → List (Item R E)
waiting_in Unasked = []
waiting_in (Taken x) = item x ∷ []
waiting_in Over = []

-- whether the walk has ended
abbrev pub is_over_in : {C A R E : Type 0} → Ahead C A R E → Bool
is_over_in Unasked = false
is_over_in (Taken x) = false
is_over_in Over = true

-- whether an answer was taken that isn't counted yet
abbrev pub is_taken_in : {C A R E : Type 0} → Ahead C A R E → Bool
is_taken_in Unasked = false
is_taken_in (Taken x) = true
is_taken_in Over = false

-- The walk may be called and ends, unless it has ended.
abbrev pub MayAsk : {I : Type 0} → (I → Type 0) → (I → Count) → Bool → I → Type 0
MayAsk can left true answers = Unit {0}
MayAsk can left false answers = can answers × IsFinite (left answers)

-- at most how many turns are left to an iterator, by its answers left and its open entries
abbrev pub turns_in : {C A R E : Type 0} → Ahead C A R E → ℕ → ℕ → ℕ
turns_in Unasked answers entries = 3 * answers + 1 + entries
turns_in (Taken x) answers entries = 3 * answers + 3 + entries
turns_in Over answers entries = entries

module _ {C A I R E : Type 0} where
  -- the iterator that the answers come from
  abbrev pub answers_of : Subtotals C A I R E → I
  answers_of s = s.answers

  abbrev pub options_of : Subtotals C A I R E → SubtotalOptions
  options_of s = s.options

  abbrev pub held : Subtotals C A I R E → Held R E
  held s = record { frames = frames_of s.stack; files = files_of s.files; waiting = waiting_in s.ahead }

  -- whether the walk has ended
  abbrev pub is_over : Subtotals C A I R E → Bool
  is_over s = is_over_in s.ahead

  -- whether an answer was taken that isn't counted yet
  abbrev pub is_taken : Subtotals C A I R E → Bool
  is_taken s = is_taken_in s.ahead

  -- whether an error was yielded behind which nothing comes
  abbrev pub is_stopped : Subtotals C A I R E → Bool
  is_stopped s = s.stopped

  -- Nothing was taken from the walk yet, and these files were counted before.
  pub record IsFreshBeside (files : List Identity) (s : Subtotals C A I R E) : Type 0 where
    pub held : held s ≡ record { frames = []; files = files; waiting = [] }
    pub goes_on : is_over s ≡ false
    pub runs : is_stopped s ≡ false

  -- the same where no file was counted
  abbrev pub IsFresh : Subtotals C A I R E → Type 0
  IsFresh s = IsFreshBeside [] s

  -- the same of an iterator over subtotals
  abbrev pub CanGoOn : (I → Type 0) → (I → Count) → Subtotals C A I R E → Type 0
  CanGoOn can left s = MayAsk can left (is_over s) (answers_of s)

  -- at most how many subtotals are to come
  abbrev pub weight : (I → Count) → Subtotals C A I R E → ℕ
  weight left s = cond (is_stopped s) 0 (turns_in s.ahead (size (left (answers_of s))) (length (frames_of s.stack)))

-- what is yielded, as a value: nothing for the two errors that no definition has
abbrev pub value : {C A R E : Type 0} → Result (WithSubtotal C A R E) (SubtotalError A) → List (Yielded R E)
value (Ok w) = Ok (entry w.entry, w.subtotal) ∷ []
value (Err (Walk e)) = Err (failure e) ∷ []
value (Err TooMany) = []
value (Err Memory) = []

-- whether nothing is yielded behind this
abbrev pub ends_with : {C A R E : Type 0} → Result (WithSubtotal C A R E) (SubtotalError A) → Bool
ends_with (Ok w) = false
ends_with (Err e) = is_last e

-- the same of what a call returns
abbrev pub value_of : {C A R E : Type 0} → Option (Result (WithSubtotal C A R E) (SubtotalError A)) → List (Yielded R E)
value_of None = []
value_of (Some x) = value x

abbrev pub stops_with : {C A R E : Type 0} → Option (Result (WithSubtotal C A R E) (SubtotalError A)) → Bool
stops_with None = false
stops_with (Some x) = ends_with x

module _ {I X : Type 0} (next : I → Option X → I → Type 0) where
  -- Calls of the walk yielded these answers: none if it had ended, and then `None` if it has now.
  abbrev pub Takes : Bool → Bool → I → List X → I → Type 0
  Takes true over start taken end = (taken ≡ []) × (start ≡ end)
  Takes false true start taken end = YieldsThen next start taken None end
  Takes false false start taken end = Yields next start taken end

module _ {C A I R E : Type 0} (next : I → Option (Result (DirEntry C A R E) (Error A)) → I → Type 0) where
  -- From one state to another answers were taken, and these were yielded: they are the first of what was to come, whatever answers come after those that were taken.
  pub record GoesOver (old : Subtotals C A I R E) (yielded : List (Yielded R E)) (new : Subtotals C A I R E) : Type 0 where
    pub taken : List (Result (DirEntry C A R E) (Error A))
    pub takes : Takes next (is_over old) (is_over new) (answers_of old) taken (answers_of new)
    pub stays_over : is_over old ≡ true → is_over new ≡ true
    pub options : options_of new ≡ options_of old
    pub first : is_stopped new ≡ false → (later : List (Item R E)) → (is_over new ≡ true → later ≡ [])
        → coming (options_of old) (held old) (map item taken ++ later) ≡ yielded ++ coming (options_of new) (held new) later
    -- the files that are counted are those of what was held and taken
    pub counted : is_stopped new ≡ false → (later : List (Item R E)) → HaveSame (counted_behind (options_of new) (held new) later) (counted_behind (options_of old) (held old) (map item taken ++ later))
    -- what is open counts no more than was open and what was taken
    pub no_more : is_stopped new ≡ false → (later : List (Item R E)) → (is_over new ≡ true → later ≡ []) → IsTooGreat (in_all (options_of new) (held new) later) → IsTooGreat (in_all (options_of old) (held old) (map item taken ++ later))

  -- One call: what it returns is the first of what was to come; or it is an error behind which nothing comes; or there is nothing more to come.
  pub record Gives (old : Subtotals C A I R E) (result : Option (Result (WithSubtotal C A R E) (SubtotalError A))) (new : Subtotals C A I R E) : Type 0 where
    pub goes : GoesOver old (value_of result) new
    pub stops : is_stopped new ≡ (is_stopped old || stops_with result)
    pub silent : is_stopped old ≡ true → result ≡ None
    -- A number is too great only if it is so in what is open together with what was taken.
    pub too_many : is_stopped old ≡ false → result ≡ Some (Err TooMany) → IsTooGreat (in_all (options_of old) (held old) (map item goes.taken))
    pub ends : IfNone result ((is_stopped new ≡ true) ⊎ ((is_over new ≡ true) × (coming (options_of new) (held new) [] ≡ [])))
