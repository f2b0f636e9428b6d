-- A value at an address, as contracts see an `Ordered`.
use Rattle.std.specs.Prelude.{◌≡◌, ℕ, ◌+◌, false, List, [], ◌∷◌, ◌++◌, map, All}
use Rattle.jwalk_order.specs.Frontier.{children_from}
use Rattle.jwalk_order.specs.IndexPath.{is_before}
use Rattle.jwalk_order.specs.Ordered.{address_of, child_count_of}
use Rattle.jwalk_order.specs.declared.ordered.Ordered.{Ordered}

pub record Addressed (V : Type 0) : Type 0 where
  pub at : List ℕ
  pub value : V
  -- how many children the address has
  pub child_count : ℕ

module _ {V A : Type 0} where
  abbrev pub addressed : Ordered V A → Addressed V
  addressed item = record { at = address_of item; value = item.value; child_count = child_count_of item }

module _ {V : Type 0} where
  -- their addresses
  abbrev pub addresses_of : List (Addressed V) → List (List ℕ)
  addresses_of = map (λ x. x.at)

  -- the addresses of all their children
  abbrev pub child_addresses : List (Addressed V) → List (List ℕ)
  child_addresses [] = []
  child_addresses (x ∷ xs) = children_from 0 x.at x.child_count ++ child_addresses xs

  -- Nothing comes before the address.
  abbrev pub IsFirst : List ℕ → List (Addressed V) → Type 0
  IsFirst a items = All (λ y. is_before y.at a ≡ false) items

  -- values at the children of an address, from an index on
  abbrev pub numbered : List ℕ → ℕ → List V → List (Addressed V)
  numbered a i [] = []
  numbered a i (x ∷ xs) = record { at = a ++ i ∷ []; value = x; child_count = 0 } ∷ numbered a (i + 1) xs
