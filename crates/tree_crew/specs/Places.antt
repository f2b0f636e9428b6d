-- The places of a crew.
use Rattle.std.specs.Prelude.{ℕ}

pub record Places : Type 0 where
  -- how many walks it serves now
  pub in_use : ℕ
  -- how many it serves at once
  pub places : ℕ
