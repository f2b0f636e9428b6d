-- The whole walk, by recursion on the depth that is left.
use Rattle.std.specs.Prelude.{ℕ, zero, suc, ◌-◌, nat_le, Bool, true, List, [], ◌∷◌, map, flat_map, filter, Option, Some, None, Ok, Err}
use Rattle.jwalk_model.specs.Entry.{Item, with_error}
use Rattle.jwalk_model.specs.ReadDir.{Spec, Reading, Outcome, spec_of}

-- where the items below an item come from: nowhere, from a directory to be read, or from a reading that was made
pub data Source (R E : Type 0) : Type 0 where
  nothing : Source R E
  unread : Spec R → Source R E
  was_read : Spec R → Outcome R E → Source R E

-- an item with its source
pub record Pair (R E : Type 0) : Type 0 where
  pub item : Item R E
  pub source : Source R E

module _ {R E : Type 0} where
  abbrev pub source_of : Option (Spec R) → Source R E
  source_of None = nothing
  source_of (Some spec) = unread spec

  -- an item of a list that was left with this state
  abbrev pub pair : R → Item R E → Pair R E
  pair state item = record { item = item; source = source_of (spec_of state item) }

  -- each item of a reading with the specification of its directory, if it has one
  abbrev pub paired : Reading R E → List (Pair R E)
  paired r = map (pair r.state) r.list

  abbrev pub pairs_of : Outcome R E → List (Pair R E)
  pairs_of (Ok r) = paired r
  pairs_of (Err f) = []

  -- an item as it is yielded once its directory was read: with the error of a reading that failed
  abbrev pub after_reading : Outcome R E → Item R E → Item R E
  after_reading (Ok r) item = item
  after_reading (Err f) item = with_error f item

  -- whether an item is yielded from a least depth on: every error is
  abbrev pub is_answered : ℕ → Item R E → Bool
  is_answered min_depth (Ok e) = nat_le min_depth e.depth
  is_answered min_depth (Err f) = true

  -- a listing without the entries above the least depth
  abbrev pub answers : ℕ → List (Item R E) → List (Item R E)
  answers min_depth = filter (is_answered min_depth)

-- how many levels may still come from a source, under a greatest depth
abbrev pub levels_of : {R E : Type 0} → ℕ → Source R E → ℕ
levels_of max_depth nothing = 0
levels_of max_depth (unread spec) = max_depth - spec.depth
levels_of max_depth (was_read spec outcome) = max_depth - spec.depth

-- What a walk lists, by the outcome of each reading.
module _ {R E : Type 0} (reading : Spec R → Outcome R E) where
  -- the item of a pair as it is yielded
  abbrev pub stands : Item R E → Source R E → Item R E
  stands item nothing = item
  stands item (unread spec) = after_reading (reading spec) item
  stands item (was_read spec outcome) = after_reading outcome item

  -- the pairs that a source gives
  abbrev pub opened : Source R E → List (Pair R E)
  opened nothing = []
  opened (unread spec) = pairs_of (reading spec)
  opened (was_read spec outcome) = pairs_of outcome

  -- all that is below a source, for n levels
  unfoldable pub below : ℕ → Source R E → List (Item R E)
  below zero source = []
  below (suc levels) source = flat_map (λ p. stands p.item p.source ∷ below levels p.source) (opened source)

  -- each item, followed by all that is below it
  abbrev pub listing : ℕ → List (Pair R E) → List (Item R E)
  listing max_depth = flat_map (λ p. stands p.item p.source ∷ below (levels_of max_depth p.source) p.source)
