-- What is taken away at an address and below it.
use Rattle.std.specs.Prelude.{◌≡◌, ◌≢◌, ℕ, true, false, List, [], ◌++◌, All}
use Rattle.std.specs.List.Sorted.{IsPermutation}
use Rattle.jwalk_order.specs.IndexPath.{is_within}
use Rattle.jwalk_order.specs.Addressed.{Addressed, addresses_of, IsFirst}
use Rattle.jwalk_order.specs.Addresses.{IsAmong}

module _ {V : Type 0} where
  -- What comes first doesn't lie at or below the address.
  pub record BeginsOutside (a : List ℕ) (items : List (Addressed V)) : Type 0 where
    pub first : List ℕ
    pub there : IsAmong first (addresses_of items)
    pub least : IsFirst first items
    pub outside : is_within a first ≡ false

  -- The first items go while they lie at or below the address.
  pub record Leaves (a : List ℕ) (old new : List (Addressed V)) : Type 0 where
    pub gone : List (Addressed V)
    pub leave : IsPermutation old (gone ++ new)
    pub within : All (λ x. is_within a x.at ≡ true) gone

  -- The first items go while they lie at or below the address, up to the first that doesn't.
  pub record RemovesWithin (a : List ℕ) (old new : List (Addressed V)) : Type 0 where
    pub leaves : Leaves a old new
    pub stops : new ≢ [] → BeginsOutside a new
