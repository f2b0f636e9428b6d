-- Classes of bytes in brackets.
use Prim.Native.Nat.{zero}
use Rattle.std.specs.Prelude.{ℕ, suc, ◌-◌, Bool, true, false, ◌&&◌, ◌||◌, ◌==◌, List, [], ◌∷◌, ◌++◌, Option, Some, None, not, length, if◌then◌else◌}
use Rattle.jwalk_ignore_rules.specs.Pattern.ItemRead.{is_close, item_in}
use Rattle.jwalk_ignore_rules.specs.Pattern.ClassItem.{lists}
use Rattle.jwalk_ignore_rules.specs.declared.pattern.class_item.ClassItem.{ClassItem}
use Rattle.jwalk_ignore_rules.specs.declared.pattern.class.Class.{Class}

-- a class by value: whether it has all other bytes, whether its items take letters in either case, and the items
pub record ClassValue : Type 0 where
  pub negated : Bool
  pub either_case : Bool
  pub items : List ClassItem

-- a class by value
abbrev pub class_value : {A : Type 0} → Class A → ClassValue
class_value class = record { negated = class.negated; either_case = class.either_case; items = class.items.items }

-- whether a class has a byte
abbrev pub has : ClassValue → ℕ → Bool
has class byte =
    let listed = lists class.either_case class.items byte in
    if class.negated then not listed else listed

-- the same class with letters in either case
abbrev pub class_in_either_case : ClassValue → ClassValue
class_in_either_case class = record class { either_case = true }

-- whether a byte behind this many items closes a class: as the first item it does not
abbrev pub closes : ℕ → ℕ → Bool
closes byte count = is_close byte && not (count == 0)

-- the items of a class up to its closing bracket, of which these were read, and what is behind it; none if there is no
-- such bracket or an item is malformed. `last` is the last byte of the item in front, which takes `skip` bytes more.
abbrev pub items_in : List ClassItem → Option ℕ → ℕ → List ℕ → Option (List ClassItem × List ℕ)
items_in items last skip [] = None
items_in items last (suc skip) (byte ∷ behind) = items_in items last skip behind
items_in items last zero (byte ∷ behind) =
    if closes byte (length items) then Some (items, behind)
    else elim (item_in last (byte ∷ behind)) [
      | None ↦ None
      | Some read ↦ items_in (items ++ read.item ∷ []) read.last (read.len - 1) behind
    ]

-- a class of these items, and what is behind it
abbrev pub class_of : Bool → Option (List ClassItem × List ℕ) → Option (ClassValue × List ℕ)
class_of negated None = None
class_of negated (Some listed) = Some (record { negated = negated; either_case = false; items = listed.0 }, listed.1)

-- a class behind its opening bracket, and what is behind its closing bracket; none if it is malformed
abbrev pub class_in : List ℕ → Option (ClassValue × List ℕ)
class_in [] = None
class_in (byte ∷ behind) = if byte == 33 || byte == 94 then class_of true (items_in [] None 0 behind) else class_of false (items_in [] None 0 (byte ∷ behind))
