use Rattle.jwalk_ignore_rules.specs.declared.pattern.part.Part.TheVariants.{One}
use Rattle.jwalk_ignore_rules.specs.Pattern.Glob.{glob_value}
use Rattle.jwalk_ignore_rules.specs.Pattern.NamePattern.{globs_value}
use Rattle.jwalk_ignore_rules.proofs.FitsFacts.{mapped_last}
use Rattle.jwalk_ignore_rules.proofs.OnlyFacts.{ends_with_byte}
use Rattle.jwalk_ignore_rules.proofs.pattern.last_byte_of.Goals as goal

pub returns-in-Some-One-default : goal.returns-in-Some-One-default
returns-in-Some-One-default g c = λ byte is.
    let at = c.in-Some-One-default in
    let ends = mapped_last glob_value c.args.parts.now at.field-0-1.now at.field-0-0.now (One at.glob) at.ensures.cases.0 at.field-0-0-is in
    ends_with_byte (globs_value c.args.parts.now) (globs_value at.field-0-1.now) (glob_value at.glob) byte ends (c.last_byte.ensures byte is)
