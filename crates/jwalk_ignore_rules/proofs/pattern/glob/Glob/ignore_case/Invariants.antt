use Rattle.jwalk_ignore_rules.specs.Pattern.ByteTest.{in_either_case, test_value}
use Rattle.jwalk_ignore_rules.specs.Pattern.Fits.{part_map}
use Rattle.jwalk_ignore_rules.proofs.ChangedFacts.{IsChangedTo}
use Rattle.jwalk_ignore_rules.proofs.pattern.glob.Glob.ignore_case.Given as goal

-- those so far take letters in either case
abbrev pub invariant-loop-part : goal.invariant-loop-part
invariant-loop-part g l = IsChangedTo (part_map test_value) (part_map in_either_case) l.fn.self.parts.items l.part-index l.part-items
