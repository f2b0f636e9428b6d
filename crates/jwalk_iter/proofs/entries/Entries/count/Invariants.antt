use Rattle.std.proofs.Common.{◌≡◌, ◌-◌, ◌^◌, min, length}
use Rattle.jwalk_iter.proofs.entries.Entries.count.Given as goal

abbrev pub invariant-loop : goal.invariant-loop
invariant-loop g l = l.count ≡ min (length l.yielded) (2 ^ 64 - 1)
