-- What an iterator over differences yields from its beginning on.
use Rattle.std.specs.Prelude.{◌≡◌, ℕ, false, List, flat_map, Option, Some, None, Result, Err}
use Rattle.std.specs.List.{list_any}
use Rattle.std.specs.Iterator.{Drains, Yields, YieldsThen}
use Rattle.jwalk_changes.specs.declared.facts.Facts.{Facts}
use Rattle.jwalk_changes.specs.declared.change.Change.{Change}
use Rattle.jwalk_changes.specs.declared.change.NotAscending.{NotAscending}
use Rattle.jwalk_changes.specs.declared.change.NotAscending.TheVariants.{Old, New, Unknown}
use Rattle.jwalk_changes.specs.declared.change.ChangesError.{ChangesError}
use Rattle.jwalk_changes.specs.declared.change.ChangesError.TheVariants.{NotAscending as NotAscendingError, Memory}
use Rattle.jwalk_changes.specs.declared.iter.Changes.{Changes}
use Rattle.jwalk_changes.specs.Differences.{Ascends, IsDifferences}
use Rattle.jwalk_changes.specs.Coming.{old_of, new_of, unknown_of, value, is_error, IsFresh, Gives}

module _ {I X : Type 0} (next : I → Option X → I → Type 0) (path : X → List (List ℕ)) where
  -- An iterator yielded items that don't ascend.
  abbrev pub DoesNotAscend : I → Type 0
  DoesNotAscend items = (end : I) × (taken : List X) × Yields next items taken end × (Ascends path taken → ⊥)

module _ {I J K O N U : Type 0} (next_old : I → Option O → I → Type 0) (next_new : J → Option N → J → Type 0) (next_unknown : K → Option U → K → Type 0)
    (old_path : O → List (List ℕ)) (old_facts : O → Facts) (new_path : N → List (List ℕ)) (new_facts : N → Facts) (place : U → List (List ℕ)) where
  -- The three inputs ascend, and these are all differences of what they yielded.
  pub record ComparesAll (old : I) (new : J) (unknown : K) (changes : List (Change O N)) : Type 0 where
    pub olds : List O
    pub news : List N
    pub places : List U
    pub old_yields : Drains next_old old olds
    pub new_yields : Drains next_new new news
    pub unknown_yields : Drains next_unknown unknown places
    pub olds_ascend : Ascends old_path olds
    pub news_ascend : Ascends new_path news
    pub places_ascend : Ascends place places
    pub differences : IsDifferences old_path old_facts new_path new_facts place olds news places changes

  -- The input that an error names doesn't ascend.
  abbrev pub IsTrueOf : I → J → K → NotAscending → Type 0
  IsTrueOf old new unknown Old = DoesNotAscend next_old old_path old
  IsTrueOf old new unknown New = DoesNotAscend next_new new_path new
  IsTrueOf old new unknown Unknown = DoesNotAscend next_unknown place unknown

  -- the same of an error for which memory may have run out
  abbrev pub IsTrueOfError : I → J → K → ChangesError → Type 0
  IsTrueOfError old new unknown (NotAscendingError input) = IsTrueOf old new unknown input
  IsTrueOfError old new unknown Memory = Unit {0}

  -- Where calls from the beginning yielded these and then `None`, and none is an error, they are all differences.
  abbrev pub AllAreYielded : Type 0
  AllAreYielded = (start end : Changes I J K O N U) (yielded : List (Result (Change O N) NotAscending)) → IsFresh start
      → YieldsThen (Gives next_old next_new next_unknown old_path old_facts new_path new_facts place) start yielded None end → list_any is_error yielded ≡ false
      → ComparesAll (old_of start) (new_of start) (unknown_of start) (flat_map value yielded)

  -- Where they yielded these and then an error, the input that it names doesn't ascend.
  abbrev pub ErrorsAreTrue : Type 0
  ErrorsAreTrue = (start end : Changes I J K O N U) (yielded : List (Result (Change O N) NotAscending)) (input : NotAscending) → IsFresh start
      → YieldsThen (Gives next_old next_new next_unknown old_path old_facts new_path new_facts place) start yielded (Some (Err input)) end
      → IsTrueOf (old_of start) (new_of start) (unknown_of start) input

module _ {O N U : Type 0} (old_path : O → List (List ℕ)) (new_path : N → List (List ℕ)) (place : U → List (List ℕ)) where
  -- The list that an error names doesn't ascend.
  abbrev pub IsTrueOfLists : List O → List N → List U → ChangesError → Type 0
  IsTrueOfLists old new unknown (NotAscendingError Old) = Ascends old_path old → ⊥
  IsTrueOfLists old new unknown (NotAscendingError New) = Ascends new_path new → ⊥
  IsTrueOfLists old new unknown (NotAscendingError Unknown) = Ascends place unknown → ⊥
  IsTrueOfLists old new unknown Memory = Unit {0}
