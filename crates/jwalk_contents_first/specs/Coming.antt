-- What an iterator that yields contents first holds, and what it will yield.
use Rattle.std.specs.Prelude.{◌≡◌, ◌+◌, ◌*◌, ◌⊎◌, ◌<◌, ℕ, Bool, true, false, cond, nat_lt, not, ◌&&◌, ◌||◌, List, [], ◌∷◌, ◌++◌, length, map, reverse, Option, Some, None, option_map, unwrap_or, Result, Ok, Err, IfNone}
use Rattle.std.specs.Iterator.{Count, IsFinite, size, Yields, YieldsThen}
use Rattle.jwalk_model.specs.Entry.{Entry, Item}
use Rattle.jwalk_job.specs.declared.dir_entry.DirEntry.{DirEntry}
use Rattle.jwalk_job.specs.declared.error.Error.{Error}
use Rattle.jwalk_job.specs.Error.{failure}
use Rattle.jwalk_job.specs.Entry.{entry, item}
use Rattle.jwalk_contents_first.specs.declared.held.Held.{Held as HeldBack}
use Rattle.jwalk_contents_first.specs.declared.iter.ContentsFirst.{ContentsFirst}
use Rattle.jwalk_contents_first.specs.declared.iter.Ahead.{Ahead}
use Rattle.jwalk_contents_first.specs.declared.iter.Ahead.TheVariants.{Unasked, Taken, Over}
use Rattle.jwalk_contents_first.specs.ContentsFirst.{below, beyond, contents_first, ends_walk}

-- What such an iterator holds: the entries that are held back, the last first, and the answer that was taken and isn't placed yet, if there is one.
pub record Held (R E : Type 0) : Type 0 where
  pub entries : List (Entry R E)
  pub waiting : List (Item R E)

module _ {R E : Type 0} where
  -- whether the last entry that is held back, if there is one, is less deep than this
  abbrev pub is_above : ℕ → List (Entry R E) → Bool
  is_above depth [] = true
  is_above depth (e ∷ es) = nat_lt e.depth depth

  -- the entries without the last
  abbrev pub left_of : List (Entry R E) → List (Entry R E)
  left_of [] = []
  left_of (e ∷ es) = es

  -- the last entry
  abbrev pub last_of : List (Entry R E) → Option (Entry R E)
  last_of [] = None
  last_of (e ∷ es) = Some e

  -- the same as what is yielded
  abbrev pub let_out_of : List (Entry R E) → List (Item R E)
  let_out_of [] = []
  let_out_of (e ∷ es) = Ok e ∷ []

  -- whether an entry at this depth can take the place of the last: it isn't below the last, but below the one before, if there is one
  abbrev pub takes_last : ℕ → List (Entry R E) → Bool
  takes_last depth es = is_above depth (left_of es) && not (is_above depth es)

  -- An entry took the place of the last, which is let out for it.
  pub record SwapsLast (found : Entry R E) (old : List (Entry R E)) (out : Entry R E) (new : List (Entry R E)) : Type 0 where
    pub last : last_of old ≡ Some out
    pub taken : new ≡ found ∷ left_of old

  -- Of the entries, the last first, each is deeper than the next.
  abbrev pub Ascends : List (Entry R E) → Type 0
  Ascends [] = Unit {0}
  Ascends (e ∷ []) = Unit {0}
  Ascends (e ∷ d ∷ es) = (d.depth < e.depth) × Ascends (d ∷ es)

  -- what is yielded where these entries are held back, the last first, and these answers are still to come: before each entry comes what is below it, and behind all of them the rest
  abbrev pub closing : List (Entry R E) → List (Item R E) → List (Item R E)
  closing [] l = contents_first l
  closing (e ∷ es) l = contents_first (below e.depth l) ++ (Ok e ∷ closing es (beyond e.depth l))

  -- what is yielded from here on if the walk goes on with these answers
  abbrev pub coming : Held R E → List (Item R E) → List (Item R E)
  coming h l = closing h.entries (h.waiting ++ l)

-- entries as values, the last first
abbrev pub entries_in : {C A R E : Type 0} → List (DirEntry C A R E) → List (Entry R E)
entries_in items = map entry (reverse items)

-- the entries that are held back, the last first
abbrev pub entries_of : {C A R E : Type 0} → HeldBack C A R E → List (Entry R E)
entries_of h = unwrap_or (option_map (λ v. entries_in v.items) h.entries) []

-- the answer that was taken and isn't placed yet
abbrev pub waiting_in : {C A R E : Type 0} → Ahead C A R E → List (Item R E)
waiting_in Unasked = []
waiting_in (Taken x) = item x ∷ []
waiting_in Over = []

-- whether nothing is known of the walk's next answer
abbrev pub is_unasked_in : {C A R E : Type 0} → Ahead C A R E → Bool
is_unasked_in Unasked = true
is_unasked_in (Taken x) = false
is_unasked_in Over = false

-- whether the walk has ended
abbrev pub is_over_in : {C A R E : Type 0} → Ahead C A R E → Bool
is_over_in Unasked = false
is_over_in (Taken x) = false
is_over_in Over = true

-- whether an answer was taken that isn't placed yet
abbrev pub is_taken_in : {C A R E : Type 0} → Ahead C A R E → Bool
is_taken_in Unasked = false
is_taken_in (Taken x) = true
is_taken_in Over = false

-- The walk may be called and ends, unless it has ended.
abbrev pub MayAsk : {I : Type 0} → (I → Type 0) → (I → Count) → Bool → I → Type 0
MayAsk can left true answers = Unit {0}
MayAsk can left false answers = can answers × IsFinite (left answers)

-- at most how many turns are left to an iterator, by its answers left and the entries that it holds back
abbrev pub turns_in : {C A R E : Type 0} → Ahead C A R E → ℕ → ℕ → ℕ
turns_in Unasked answers entries = 3 * answers + 1 + entries
turns_in (Taken x) answers entries = 3 * answers + 3 + entries
turns_in Over answers entries = entries

module _ {C A I R E : Type 0} where
  -- the iterator that the answers come from
  abbrev pub answers_of : ContentsFirst C A I R E → I
  answers_of s = s.answers

  abbrev pub held : ContentsFirst C A I R E → Held R E
  held s = record { entries = entries_of s.held; waiting = waiting_in s.ahead }

  -- whether the walk has ended
  abbrev pub is_over : ContentsFirst C A I R E → Bool
  is_over s = is_over_in s.ahead

  -- whether an answer was taken that isn't placed yet
  abbrev pub is_taken : ContentsFirst C A I R E → Bool
  is_taken s = is_taken_in s.ahead

  -- whether an error was yielded behind which nothing comes
  abbrev pub is_stopped : ContentsFirst C A I R E → Bool
  is_stopped s = s.stopped

  -- whether an answer is to be taken from the walk
  abbrev pub asks : ContentsFirst C A I R E → Bool
  asks s = not (is_stopped s) && is_unasked_in s.ahead

  -- Nothing was taken from the walk yet.
  pub record IsFresh (s : ContentsFirst C A I R E) : Type 0 where
    pub held : held s ≡ record { entries = []; waiting = [] }
    pub goes_on : is_over s ≡ false
    pub runs : is_stopped s ≡ false

  -- The walk may go on.
  abbrev pub CanGoOn : (I → Type 0) → (I → Count) → ContentsFirst C A I R E → Type 0
  CanGoOn can left s = MayAsk can left (is_over s) (answers_of s)

  -- at most how many turns are to come
  abbrev pub weight : (I → Count) → ContentsFirst C A I R E → ℕ
  weight left s = cond (is_stopped s) 0 (turns_in s.ahead (size (left (answers_of s))) (length (entries_of s.held)))

-- whether nothing is yielded behind this
abbrev pub ends_with : {C A R E : Type 0} → Result (DirEntry C A R E) (Error A) → Bool
ends_with (Ok e) = false
ends_with (Err e) = ends_walk (failure e)

-- what a call returns, as a value
abbrev pub value_of : {C A R E : Type 0} → Option (Result (DirEntry C A R E) (Error A)) → List (Item R E)
value_of None = []
value_of (Some x) = item x ∷ []

-- whether nothing is yielded behind what a call returns
abbrev pub stops_with : {C A R E : Type 0} → Option (Result (DirEntry C A R E) (Error A)) → Bool
stops_with None = false
stops_with (Some x) = ends_with x

module _ {I X : Type 0} (next : I → Option X → I → Type 0) where
  -- Calls of the walk yielded these answers: none if it had ended, and then `None` if it has now.
  abbrev pub Takes : Bool → Bool → I → List X → I → Type 0
  Takes true over start taken end = (taken ≡ []) × (start ≡ end)
  Takes false true start taken end = YieldsThen next start taken None end
  Takes false false start taken end = Yields next start taken end

module _ {C A I R E : Type 0} (next : I → Option (Result (DirEntry C A R E) (Error A)) → I → Type 0) where
  -- From one state to another answers were taken, and these items were yielded: they are the first of what was to come, whatever answers come after those that were taken.
  pub record GoesOver (old : ContentsFirst C A I R E) (yielded : List (Item R E)) (new : ContentsFirst C A I R E) : Type 0 where
    pub taken : List (Result (DirEntry C A R E) (Error A))
    pub takes : Takes next (is_over old) (is_over new) (answers_of old) taken (answers_of new)
    pub stays_over : is_over old ≡ true → is_over new ≡ true
    pub first : is_stopped new ≡ false → (later : List (Item R E)) → (is_over new ≡ true → later ≡ [])
        → coming (held old) (map item taken ++ later) ≡ yielded ++ coming (held new) later
    -- of what is held back, each entry stays deeper than the one before
    pub ascends : Ascends (held old).entries → Ascends (held new).entries

  -- One call: what it returns is the first of what was to come; or it is an error behind which nothing comes; or there is nothing more to come.
  pub record Gives (old : ContentsFirst C A I R E) (result : Option (Result (DirEntry C A R E) (Error A))) (new : ContentsFirst C A I R E) : Type 0 where
    pub goes : GoesOver old (value_of result) new
    pub stops : is_stopped new ≡ (is_stopped old || stops_with result)
    pub silent : is_stopped old ≡ true → result ≡ None
    pub ends : IfNone result ((is_stopped new ≡ true) ⊎ ((is_over new ≡ true) × (coming (held new) [] ≡ [])))
