use Rattle.std.proofs.Common.{◌≡◌, length}
use Rattle.seek_found.specs.Accounts.{id_named}
use Rattle.seek_found.proofs.accounts.id_named.Given as goal

-- the lines that are left say what all do
abbrev pub invariant-loop-rest : goal.invariant-loop-rest
invariant-loop-rest l = id_named l.rest l.name ≡ id_named l.accounts l.name

-- fewer are left each time
abbrev pub decreases-loop-rest : goal.decreases-loop-rest
decreases-loop-rest l = length l.rest
