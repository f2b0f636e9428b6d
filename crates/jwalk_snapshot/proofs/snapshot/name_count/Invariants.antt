use Rattle.std.proofs.Common.{◌≡◌, ◌+◌, ◌^◌, ◌<◌, drop}
use Rattle.std.specs.List.{sum_by}
use Rattle.jwalk_snapshot.proofs.ListFacts.{names_in}
use Rattle.jwalk_snapshot.proofs.snapshot.name_count.Given as goal

-- the names so far and those in what is left are all
abbrev pub invariant-loop-block : goal.invariant-loop-block
invariant-loop-block l = (l.count + sum_by names_in (drop l.block-index l.blocks) ≡ sum_by names_in l.blocks) × (l.count < 2 ^ 64)
