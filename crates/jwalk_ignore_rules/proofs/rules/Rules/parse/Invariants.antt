use Rattle.std.proofs.Common.{◌≡◌, ◌++◌, map, length}
use Rattle.std.specs.List.{filter_map}
use Rattle.jwalk_ignore_rules.specs.Pattern.{pattern_value}
use Rattle.jwalk_ignore_rules.specs.Rules.Line.{lines_of, pattern_of_line, patterns_of}
use Rattle.jwalk_ignore_rules.proofs.rules.Rules.parse.Given as goal

-- the patterns that were read, and those of the lines that are left, are all
abbrev pub invariant-lines : goal.invariant-lines
invariant-lines g l = patterns_of l.bytes ≡ map pattern_value l.patterns.items.items ++ filter_map pattern_of_line (lines_of l.rest)

abbrev pub decreases-lines : goal.decreases-lines
decreases-lines g l = length l.rest
