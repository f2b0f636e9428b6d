-- What the slot of a walk's board is made for.
use Rattle.std.specs.Prelude.{ℕ}
use Rattle.keyed_slot.specs.Keyed.{tag_of}
use Rattle.keyed_slot.specs.declared.slot.KeyedSlot.{KeyedSlot}
use Rattle.tree_crew.specs.declared.board_tag.BoardTag.{BoardTag}
use Rattle.tree_crew.specs.Origin.{Origin}

module _ {X A T J B M : Type 0} where
  -- where the readings of the walk come from
  abbrev pub origin_at : KeyedSlot X A (BoardTag T J B) M → Origin T J
  origin_at slot = (tag_of slot).origin.value

  -- how many of them may be ready or in hand
  abbrev pub limit_at : KeyedSlot X A (BoardTag T J B) M → ℕ
  limit_at slot = (tag_of slot).limit.value
