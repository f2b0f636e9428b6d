-- What an iterator over differences yields.
use Rattle.std.specs.Prelude.{◌≡◌, ◌+◌, ◌⊎◌, ℕ, Bool, true, false, cond, ◌||◌, List, [], ◌∷◌, ◌++◌, Option, Some, None, Result, Ok, Err, IfNone}
use Rattle.std.specs.Iterator.{Count}
use Rattle.jwalk_changes.specs.declared.facts.Facts.{Facts}
use Rattle.jwalk_changes.specs.declared.change.Change.{Change}
use Rattle.jwalk_changes.specs.declared.change.NotAscending.{NotAscending}
use Rattle.jwalk_changes.specs.declared.change.NotAscending.TheVariants.{Old, New, Unknown}
use Rattle.jwalk_changes.specs.declared.side.Ahead.TheVariants.{Unasked}
use Rattle.jwalk_changes.specs.declared.iter.Changes.{Changes}
use Rattle.jwalk_changes.specs.Differences.{Ascends, IsDifferences}
use Rattle.jwalk_changes.specs.Side.{MayBeLeft, CanGoOnAt, Passes, is_fallen, is_over, items_of, turns_left}

module _ {I J K O N U : Type 0} where
  -- the iterators that are asked
  abbrev pub old_of : Changes I J K O N U → I
  old_of s = items_of s.olds

  abbrev pub new_of : Changes I J K O N U → J
  new_of s = items_of s.news

  abbrev pub unknown_of : Changes I J K O N U → K
  unknown_of s = items_of s.unknown

  -- whether an error was yielded, behind which nothing comes
  abbrev pub is_stopped : Changes I J K O N U → Bool
  is_stopped s = s.stopped

  -- Nothing was taken yet.
  pub record IsFresh (s : Changes I J K O N U) : Type 0 where
    pub olds : s.olds.ahead ≡ Unasked
    pub news : s.news.ahead ≡ Unasked
    pub unknown : s.unknown.ahead ≡ Unasked
    pub runs : is_stopped s ≡ false

  -- This input has been found not to ascend.
  abbrev pub HasFallen : Changes I J K O N U → NotAscending → Type 0
  HasFallen s Old = is_fallen s.olds ≡ true
  HasFallen s New = is_fallen s.news ≡ true
  HasFallen s Unknown = is_fallen s.unknown ≡ true

  -- All inputs have ended.
  pub record AreOver (s : Changes I J K O N U) : Type 0 where
    pub olds : is_over s.olds ≡ true
    pub news : is_over s.news ≡ true
    pub unknown : is_over s.unknown ≡ true

  -- Each input may be asked and ends, as long as it is asked.
  pub record CanGoOn (can_old : I → Type 0) (left_old : I → Count) (can_new : J → Type 0) (left_new : J → Count) (can_unknown : K → Type 0) (left_unknown : K → Count) (s : Changes I J K O N U) : Type 0 where
    pub olds : CanGoOnAt can_old left_old s.olds
    pub news : CanGoOnAt can_new left_new s.news
    pub unknown : CanGoOnAt can_unknown left_unknown s.unknown

  -- at most how many differences are to come
  abbrev pub weight : (I → Count) → (J → Count) → (K → Count) → Changes I J K O N U → ℕ
  weight left_old left_new left_unknown s = cond (is_stopped s) 0 (turns_left left_old s.olds + turns_left left_new s.news + turns_left left_unknown s.unknown)

module _ {O N : Type 0} where
  -- the change in what is yielded
  abbrev pub value : Result (Change O N) NotAscending → List (Change O N)
  value (Ok c) = c ∷ []
  value (Err e) = []

  abbrev pub is_error : Result (Change O N) NotAscending → Bool
  is_error (Ok c) = false
  is_error (Err e) = true

  -- the same of what a call returns
  abbrev pub value_of : Option (Result (Change O N) NotAscending) → List (Change O N)
  value_of None = []
  value_of (Some x) = value x

  abbrev pub stops_with : Option (Result (Change O N) NotAscending) → Bool
  stops_with None = false
  stops_with (Some x) = is_error x

module _ {I J K O N U : Type 0} (next_old : I → Option O → I → Type 0) (next_new : J → Option N → J → Type 0) (next_unknown : K → Option U → K → Type 0)
    (old_path : O → List (List ℕ)) (old_facts : O → Facts) (new_path : N → List (List ℕ)) (new_facts : N → Facts) (place : U → List (List ℕ)) where
  -- From one state to another these changes were yielded: whatever is still to be compared, they are the first of the differences.
  pub record Goes (before : Changes I J K O N U) (yielded : List (Change O N)) (after : Changes I J K O N U) : Type 0 where
    pub olds : Passes next_old old_path before.olds after.olds
    pub news : Passes next_new new_path before.news after.news
    pub unknown : Passes next_unknown place before.unknown after.unknown
    pub first : (lo : List O) (ln : List N) (lu : List U) → MayBeLeft after.olds.ahead lo → MayBeLeft after.news.ahead ln → MayBeLeft after.unknown.ahead lu
        → Ascends old_path (olds.compared ++ lo) → Ascends new_path (news.compared ++ ln) → Ascends place (unknown.compared ++ lu)
        → (rest : List (Change O N)) → IsDifferences old_path old_facts new_path new_facts place lo ln lu rest
        → IsDifferences old_path old_facts new_path new_facts place (olds.compared ++ lo) (news.compared ++ ln) (unknown.compared ++ lu) (yielded ++ rest)

  -- One call: what it returns is the first of the differences that were to come; or it is an error, and the input that it names doesn't ascend; or all have ended.
  pub record Gives (before : Changes I J K O N U) (result : Option (Result (Change O N) NotAscending)) (after : Changes I J K O N U) : Type 0 where
    pub goes : Goes before (value_of result) after
    pub stops : is_stopped after ≡ (is_stopped before || stops_with result)
    pub silent : is_stopped before ≡ true → result ≡ None
    pub told : (input : NotAscending) → result ≡ Some (Err input) → HasFallen after input
    pub ends : IfNone result ((is_stopped after ≡ true) ⊎ AreOver after)
