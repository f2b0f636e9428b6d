-- A slot, its key and a loan as a clause sees them.
use Rattle.std.specs.Prelude.{◌≡◌, ℕ, Bool, true, cond, List, [], ◌∷◌, map, Option, None}
use Rattle.keyed_slot.specs.declared.slot.KeyedSlot.{KeyedSlot}
use Rattle.keyed_slot.specs.declared.slot.Key.{Key}
use Rattle.keyed_slot.specs.declared.slot.Loan.{Loan}
use Rattle.keyed_slot.specs.declared.slot.Receipt.{Receipt}
use Rattle.keyed_slot.specs.declared.slot.Empty.{Empty}

-- A seat that has the value out carries the slot's one place, and another carries none.
abbrev pub Carries : {X : Type 0} → Bool → List (ℕ × Option X) → Type 0
Carries out carried = map (λ place. place.0) carried ≡ cond out (0 ∷ []) []

module _ {X T M : Type 0} where
  -- the mark that the key knows
  abbrev pub key_mark : Key X T M → M
  key_mark key = key.seat.me.0.mark

  -- whether the value is out with the key
  abbrev pub is_out : Key X T M → Bool
  is_out key = key.seat.me.0.holds

  -- the mark of what was lent
  abbrev pub loan_mark : Loan X T M → M
  loan_mark loan = loan.seat.me.0.mark

  -- the value that was lent
  abbrev pub lent : Loan X T M → Option X
  lent loan = loan.seat.me.0.took

  -- what the receipt says was lent, and what was put back for it
  abbrev pub receipt_of : Receipt X T M → Option X × Option X
  receipt_of receipt = (receipt.seat.me.0.took, receipt.seat.me.0.put)

  -- what was last taken by the key, and what was put back for it
  abbrev pub handled : Key X T M → Option X × Option X
  handled key = (key.seat.me.0.took, key.seat.me.0.put)

  module _ {A : Type 0} where
    -- what the slot is made for
    abbrev pub tag_of : KeyedSlot X A T M → T
    tag_of slot = slot.table.shared.key.tag.value

    -- It is the key of the slot.
    pub record Opens (key : Key X T M) (slot : KeyedSlot X A T M) : Type 0 where
      pub table : key.seat.table_id ≡ slot.table.shared.table_id
      pub has_key : key.seat.me.0.has_key ≡ true
      pub tag : key.seat.me.0.tag ≡ tag_of slot
      pub carries : Carries (is_out key) key.seat.me.1

    -- The receipt is for what was put back into the slot.
    abbrev pub IsReceiptOf : Receipt X T M → KeyedSlot X A T M → Type 0
    IsReceiptOf receipt slot = receipt.seat.table_id ≡ slot.table.shared.table_id

    -- The value wasn't in this slot.
    pub record WasEmpty (empty : Empty X T M) (slot : KeyedSlot X A T M) : Type 0 where
      pub table : empty.seat.table_id ≡ slot.table.shared.table_id
      pub none : empty.seat.me.0.took ≡ None

    -- The value is owed to the slot.
    pub record IsOwed (loan : Loan X T M) (slot : KeyedSlot X A T M) : Type 0 where
      pub table : loan.seat.table_id ≡ slot.table.shared.table_id
      pub out : loan.seat.me.0.holds ≡ true
      pub carries : Carries true loan.seat.me.1
