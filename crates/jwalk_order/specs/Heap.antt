-- A heap of values by address, as a value.
use Rattle.std.specs.Prelude.{ℕ, List}
use Rattle.jwalk_order.specs.Addressed.{Addressed}

pub record Heap (V : Type 0) : Type 0 where
  -- in no particular order
  pub items : List (Addressed V)
  -- how many pushes are sure to succeed
  pub room : ℕ
