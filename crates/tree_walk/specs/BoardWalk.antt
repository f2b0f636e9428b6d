-- A walk over a board, as a value.
use Rattle.std.specs.Prelude.{◌≡◌, ◌≢◌, ◌≤◌, ◌+◌, ◌⊎◌, ℕ, false, Option, None, Some, Result, List, [], ◌∷◌, ◌++◌, length, All, IfOk, OnOk, OnErr}
use Rattle.std.specs.List.Sorted.{IsPermutation}
use Rattle.jwalk_order.specs.Addresses.{IsAmong}
use Rattle.jwalk_order.specs.Frontier.{passed, next_address}
use Rattle.jwalk_order.specs.Within.{Leaves}
use Rattle.jwalk_board.specs.Board.{Board}
use Rattle.tree_walk.specs.declared.read.Read.{Read}
use Rattle.tree_walk.specs.ToGive.{ToGive, HandsOn}
use Rattle.tree_walk.specs.Reads.{spec_of, to_give, IsSound, ReadsSome}
use Rattle.tree_walk.specs.ReadAhead.{ReadAhead, nothing_ahead, ahead_on, HandsOnAt, ReadsLeast, EntersNext}

-- What it reads by, how many are read together, and its board, which is gone once the walk was stopped.
pub record BoardWalk (T R J : Type 0) : Type 0 where
  pub plan : J
  pub width : ℕ
  pub board : Option (Board T (Read T R))

module _ {T R : Type 0} where
  -- what a walk still has to give: nothing once it was stopped
  abbrev pub left_on : Option (Board T (Read T R)) → ToGive (Read T R) T
  left_on None = record { to_read = []; made = [] }
  left_on (Some b) = to_give b []

  -- what it has read ahead: nothing once it was stopped
  abbrev pub ahead_of : Option (Board T (Read T R)) → ReadAhead T
  ahead_of None = nothing_ahead
  ahead_of (Some b) = ahead_on b

  -- the addresses of the specifications that are still to be entered, the next one first: none once it was stopped
  abbrev pub frontier_on : Option (Board T (Read T R)) → List (List ℕ)
  frontier_on None = []
  frontier_on (Some b) = b.frontier

  -- the address that is entered next
  abbrev pub next_on : Option (Board T (Read T R)) → List ℕ
  next_on o = next_address (frontier_on o)

  -- The reading at the next address is handed on.
  pub record HandsOnNext (old : Board T (Read T R)) (given : R) (new : Board T (Read T R)) : Type 0 where
    pub read : Read T R
    pub of : read.reading ≡ given
    pub hands_on : HandsOn spec_of (to_give old []) read (to_give new [])
    pub at : HandsOnAt (next_address old.frontier) (ahead_on old) (ahead_on new)
    pub passes : new.frontier ≡ passed old.frontier (length hands_on.front)
    pub none_in_hand : new.in_hand ≡ []
    pub running : new.stopped ≡ false

  -- What holds of a board between calls: it is running, and nothing is in hand.
  pub record Keeps (b : Board T (Read T R)) : Type 0 where
    pub running : b.stopped ≡ false
    pub none_in_hand : b.in_hand ≡ []

  -- The first specification is passed over with all that is below it. Nothing is read, and what was read early there is dropped.
  pub record SkipsFirst (old new : Option (Board T (Read T R))) : Type 0 where
    pub first : T
    pub to_read : (left_on old).to_read ≡ first ∷ (left_on new).to_read
    pub gone : List (Read T R × List T)
    pub made : IsPermutation (left_on old).made (gone ++ (left_on new).made)
    pub passes : frontier_on new ≡ passed (frontier_on old) 0
    pub queue : Leaves (next_on old) (ahead_of old).queue (ahead_of new).queue
    pub done_gone : List (List ℕ)
    pub done : IsPermutation (ahead_of old).done (done_gone ++ (ahead_of new).done)

  -- It is passed over, or nothing was left to be read and all stays as it is.
  abbrev pub SkipsNext : Option (Board T (Read T R)) → Option (Board T (Read T R)) → Type 0
  SkipsNext old new = ((frontier_on old ≡ []) × ((left_on old).to_read ≡ []) × (new ≡ old)) ⊎ SkipsFirst old new

module _ {T R J : Type 0} (w : BoardWalk T R J) where
  -- the specifications whose readings are still to be given, the next one first, without those below them
  abbrev pub to_read : List T
  to_read = (left_on w.board).to_read

  -- the readings that were made and not handed on, each with its children
  abbrev pub early_of : List (Read T R × List T)
  early_of = (left_on w.board).made

  -- what is queued and what is done
  abbrev pub read_ahead : ReadAhead T
  read_ahead = ahead_of w.board

  -- the addresses of the specifications that are still to be entered, the next one first
  abbrev pub frontier_of : List (List ℕ)
  frontier_of = frontier_on w.board

module _ {T R : Type 0} (is_reading : T → R → List T → Type 0) (width : ℕ) where
  -- Some of the least are read, at most this many, and nothing is handed on.
  pub record ReadsBatch (old new : Board T (Read T R)) : Type 0 where
    pub reads : ReadsSome is_reading width (to_give old []) (to_give new [])
    pub least : ReadsLeast spec_of (IsSound is_reading) width (ahead_on old) (ahead_on new)
    pub frontier : new.frontier ≡ old.frontier
    pub none_in_hand : new.in_hand ≡ []
    pub running : new.stopped ≡ false

  -- Some readings are made, at most this many. That of the first specification, made now or before, is given. Its children take its place, and their addresses the place of its own.
  pub record GivesFirst (old : Option (Board T (Read T R))) (given : R) (new : Option (Board T (Read T R))) : Type 0 where
    pub fresh : List (Read T R × List T)
    pub few : length fresh ≤ width
    pub sound : All (IsSound is_reading) fresh
    pub read : Read T R
    pub children : List T
    pub rest : List T
    pub of : read.reading ≡ given
    pub took : (left_on old).to_read ≡ read.of ∷ rest
    pub left : (left_on new).to_read ≡ children ++ rest
    pub leaves : IsPermutation (fresh ++ (left_on old).made) ((read, children) ∷ (left_on new).made)
    pub passes : frontier_on new ≡ passed (frontier_on old) (length children)

  -- It is given, or nothing was left to be read and all stays as it is.
  abbrev pub GivesNext : Option (Board T (Read T R)) → Option R → Option (Board T (Read T R)) → Type 0
  GivesNext old (Some given) new = GivesFirst old given new
  GivesNext old None new = ((left_on old).to_read ≡ []) × (new ≡ old)

  -- One call goes on over a board.
  pub record GoesOn (old : Board T (Read T R)) (answer : Option R) (new : Board T (Read T R)) : Type 0 where
    pub keeps : Keeps new
    pub ahead : length (to_give new []).made + 1 ≤ length (to_give old []).made + width
    pub next : GivesNext (Some old) answer (Some new)
    pub enters : EntersNext spec_of (IsSound is_reading) width (next_address old.frontier) (ahead_on old) answer (ahead_on new)

  -- What one call of a walk returns, and what is left of it after the call. The call fails only if something was left to be read, and then nothing is left.
  pub record Answers {F : Type 0} (old : Option (Board T (Read T R))) (answer : Result (Option R) F) (new : Option (Board T (Read T R))) : Type 0 where
    pub ahead : length (left_on new).made + 1 ≤ length (left_on old).made + width
    pub stopped : OnErr answer (new ≡ None)
    pub some : OnErr answer ((left_on old).to_read ≢ [])
    pub next : IfOk answer (λ o. GivesNext old o new)
    pub enters : IfOk answer (λ o. EntersNext spec_of (IsSound is_reading) width (next_on old) (ahead_of old) o (ahead_of new))

  -- The next reading isn't made yet, and is made together with others that are among the least. Nothing is handed on.
  pub record ReadsForNext (old new : Option (Board T (Read T R))) : Type 0 where
    pub some : (left_on old).to_read ≢ []
    pub unread : ¬ IsAmong (next_on old) (ahead_of old).done
    pub reads : ReadsSome is_reading width (left_on old) (left_on new)
    pub least : ReadsLeast spec_of (IsSound is_reading) width (ahead_of old) (ahead_of new)
    pub frontier : frontier_on new ≡ frontier_on old
    pub read : IsAmong (next_on new) (ahead_of new).done

  -- What a call that prepares the next reading does: some are read for it, or all stays as it is. The next reading is then ready, or nothing is left to be read. The call fails only if something was left to be read, and then nothing is left.
  pub record Prepares {F : Type 0} (old : Option (Board T (Read T R))) (result : Result (Unit {0}) F) (new : Option (Board T (Read T R))) : Type 0 where
    pub stopped : OnErr result (new ≡ None)
    pub some : OnErr result ((left_on old).to_read ≢ [])
    pub reads : OnOk result ((new ≡ old) ⊎ ReadsForNext old new)
    pub ready : OnOk result (((left_on new).to_read ≡ []) ⊎ IsAmong (next_on new) (ahead_of new).done)
