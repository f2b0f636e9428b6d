use Rattle.std.proofs.Common.{length, map}
use Rattle.jwalk_ignore_rules.specs.Pattern.{pattern_value}
use Rattle.jwalk_ignore_rules.specs.Rules.LastNames.{OthersMatch}
use Rattle.jwalk_ignore_rules.proofs.LastMatchFacts.{IsFront, IsLeft}
use Rattle.jwalk_ignore_rules.proofs.rules.patterns.Patterns.last_other.Given as goal

-- what is left is the front of the others, and what matches is left
abbrev pub invariant-others : goal.invariant-others
invariant-others g l = record {
  front : IsFront l.self.last_names.others.items l.rest;
  left : OthersMatch (map pattern_value l.self.items.items) l.self.last_names l.path l.is_dir l.from
      → IsLeft (map pattern_value l.self.items.items) l.path l.is_dir l.from l.self.last_names.others.items l.rest;
}

abbrev pub decreases-others : goal.decreases-others
decreases-others g l = length l.rest
