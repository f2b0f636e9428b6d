use Rattle.std.proofs.Common.{◌≡◌, length}
use Rattle.jwalk_ignore_rules.specs.Pattern.Names.{names_of}
use Rattle.jwalk_ignore_rules.proofs.pattern.names.split_last_name.Given as goal

-- the names of what is left are all names
abbrev pub invariant-loop-rest : goal.invariant-loop-rest
invariant-loop-rest l = names_of l.path ≡ names_of l.rest

abbrev pub decreases-loop-rest : goal.decreases-loop-rest
decreases-loop-rest l = length l.rest
