-- What is taken together, read, and finished.
use Rattle.std.specs.Prelude.{◌≡◌, List, map, length, reverse, IfOk, Result}
use Rattle.std.specs.declared.alloc.AllocError.{AllocError}
use Rattle.jwalk_order.specs.IndexPath.{address}
use Rattle.jwalk_order.specs.Ordered.{address_of}
use Rattle.jwalk_order.specs.declared.ordered.Ordered.{Ordered}
use Rattle.jwalk_order.specs.Addressed.{Addressed, addressed}
use Rattle.tree_walk.specs.declared.read.Read.{Read}
use Rattle.tree_walk.specs.declared.batch.Made.{Made}
use Rattle.tree_walk.specs.Reads.{IsSound}

-- what was taken and is in hand, the last first
abbrev pub hand_of : {T A : Type 0} → List (Ordered T A) → List (Addressed T)
hand_of taken = map addressed (reverse taken)

module _ {T R A : Type 0} where
  -- what was read of it and is still in hand, until it is finished
  abbrev pub held_by : List (Made T R A) → List (Addressed T)
  held_by made = map (λ m. record { at = address m.address; value = m.read.of; child_count = 0 }) (reverse made)

  -- a reading with its children
  abbrev pub with_children : Made T R A → Read T R × List T
  with_children m = (m.read, m.children.items)

  -- the same, at its address
  abbrev pub made_at : Made T R A → Addressed (Read T R × List T)
  made_at m = record { at = address m.address; value = with_children m; child_count = length m.children.items }

  module _ (is_reading : T → R → List T → Type 0) where
    -- It is made of what was taken: at its address, a reading of it.
    pub record IsMadeOf (taken : Ordered T A) (made : Made T R A) : Type 0 where
      pub at : address made.address ≡ address_of taken
      pub of : made.read.of ≡ taken.value
      pub sound : IsSound is_reading (with_children made)

    -- It is so, unless memory ran out.
    abbrev pub MakesOf : Ordered T A → Result (Made T R A) AllocError → Type 0
    MakesOf taken result = IfOk result (IsMadeOf taken)
