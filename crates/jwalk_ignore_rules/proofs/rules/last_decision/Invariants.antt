use Rattle.std.proofs.Common.{◌≡◌, List, ◌++◌, length, map}
use Rattle.jwalk_ignore_rules.specs.Pattern.{Pattern, pattern_value}
use Rattle.jwalk_ignore_rules.specs.Rules.{NoneMatches}
use Rattle.jwalk_ignore_rules.proofs.rules.last_decision.Given as goal

-- the patterns behind those that are left don't match
abbrev pub invariant-patterns : goal.invariant-patterns
invariant-patterns g l = (behind : List Pattern) × (map pattern_value l.patterns ≡ map pattern_value l.rest ++ behind) × NoneMatches behind l.path l.is_dir

abbrev pub decreases-patterns : goal.decreases-patterns
decreases-patterns g l = length l.rest
