-- What contracts see of an `Ordered`, beside its public fields.
use Rattle.std.specs.Prelude.{◌≡◌, ℕ, false, List, All}
use Rattle.std.specs.Ordering.{on}
use Rattle.std.specs.declared.cmp.Ordering.{Ordering}
use Rattle.jwalk_order.specs.IndexPath.{address, reversed_cmp, is_before}
use Rattle.jwalk_order.specs.declared.ordered.Ordered.{Ordered}

module _ {T A : Type 0} where
  -- its address
  abbrev pub address_of : Ordered T A → List ℕ
  address_of item = address item.index_path

  -- how many children it has
  abbrev pub child_count_of : Ordered T A → ℕ
  child_count_of item = item.child_count

  -- the order of `Ordered`: that of the addresses only
  abbrev pub ordered_cmp : Ordered T A → Ordered T A → Ordering
  ordered_cmp = on (λ item. item.index_path) reversed_cmp

  -- No item comes before it.
  abbrev pub IsLeast : Ordered T A → List (Ordered T A) → Type 0
  IsLeast x items = All (λ y. is_before (address_of y) (address_of x) ≡ false) items
