use Rattle.std.proofs.Common.{◌∙◌, sym}
use Rattle.jwalk_ignore_rules.specs.declared.pattern.part.Part.TheVariants.{One}
use Rattle.jwalk_ignore_rules.specs.Pattern.{EndsWith, pattern_value}
use Rattle.jwalk_ignore_rules.specs.Pattern.Glob.{glob_value, TakesOnly}
use Rattle.jwalk_ignore_rules.specs.Pattern.NamePattern.{globs_value}
use Rattle.jwalk_ignore_rules.proofs.FitsFacts.{mapped_last}
use Rattle.jwalk_ignore_rules.proofs.OnlyFacts.{ends_with, on_some}
use Rattle.jwalk_ignore_rules.proofs.pattern.Pattern.last_name.Goals as goal

pub returns-in-Some-One-default : goal.returns-in-Some-One-default
returns-in-Some-One-default g c =
    let front = c.in-Some-One-default.field-0-1.now in
    let glob = c.in-Some-One-default.glob in
    let is = mapped_last glob_value c.args.self.now.parts.items front c.in-Some-One-default.field-0-0.now (One glob)
    (sym c.deref.ensures.value ∙ c.in-Some-One-default.ensures.cases.0) c.in-Some-One-default.field-0-0-is in
    on_some (λ name. TakesOnly (glob_value glob) name.items) (λ name. EndsWith (pattern_value c.args.self.now) name.items)
    (λ name only. ends_with (pattern_value c.args.self.now) (globs_value front) (glob_value glob) name.items is only) c.only_name.result c.only_name.ensures
