-- The options of walks.
use Rattle.std.proofs.Common.{◌≡◌, ℕ, Bool, true, false, if◌then◌else◌, ap₂, refl}
use Rattle.std.specs.Prelude.{max, nat_lt}
use Rattle.std.proofs.Math.Nat.{max-zero}
use Rattle.jwalk.specs.jwalk_model.Options.{Options, Parallelism, serial, with_max_depth}

serial_either_way : (b : Bool) → (if b then serial else serial) ≡ serial
serial_either_way true = refl
serial_either_way false = refl

-- a greatest depth leaves all else as it is, where the least depth is 0 and directories are read one at a time
pub at_most : (depth : ℕ) (o : Options) → with_max_depth depth (record o { min_depth = 0; parallelism = serial }) ≡ record o { min_depth = 0; max_depth = depth; parallelism = serial }
at_most depth o = ap₂ (λ (d : ℕ) (p : Parallelism). record o { min_depth = 0; max_depth = d; parallelism = p }) (max-zero depth) (serial_either_way (nat_lt (max depth 0) 2))
