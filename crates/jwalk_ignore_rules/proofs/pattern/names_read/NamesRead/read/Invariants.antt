use Rattle.std.proofs.Common.{◌≡◌, ◌≤◌, ℕ, [], length}
use Rattle.jwalk_ignore_rules.specs.Pattern.NamePattern.{globs_value}
use Rattle.jwalk_ignore_rules.specs.Pattern.NamesRead.{parts_in, read_value}
use Rattle.jwalk_ignore_rules.proofs.pattern.names_read.NamesRead.read.Given as goal

-- what is read behind what was read is all
abbrev pub invariant-tokens : goal.invariant-tokens
invariant-tokens g l = (n : ℕ) × (length l.rest ≤ n)
    × (parts_in (length l.text) (record { parts = globs_value l.fn.parts.items; name = [] }) l.text ≡ parts_in n (read_value l.read) l.rest)

abbrev pub decreases-tokens : goal.decreases-tokens
decreases-tokens g l = length l.rest
