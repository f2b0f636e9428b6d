use Rattle.std.proofs.Common.{◌≡◌, map, take}
use Rattle.jwalk_ignore_rules.specs.Pattern.Glob.{parts_value}
use Rattle.jwalk_ignore_rules.proofs.OnlyFacts.{plain}
use Rattle.jwalk_ignore_rules.proofs.pattern.glob.Glob.only_name.Given as goal

-- the parts so far are the bytes of the name
abbrev pub invariant-loop-part : goal.invariant-loop-part
invariant-loop-part g l = parts_value (take l.part-index l.part-items) ≡ map plain l.name.items
