use Rattle.std.proofs.Common.{◌≡◌, ◌∙◌, ap, subst, sym}
use Rattle.jwalk_ignore_rules.specs.declared.pattern.byte_test.ByteTest.TheVariants.{Byte}
use Rattle.jwalk_ignore_rules.specs.declared.pattern.part.Part.TheVariants.{One}
use Rattle.jwalk_ignore_rules.specs.Pattern.ByteTest.{test_value}
use Rattle.jwalk_ignore_rules.specs.Pattern.Glob.{parts_value, EachEndsWith}
use Rattle.jwalk_ignore_rules.proofs.FitsFacts.{mapped_last}
use Rattle.jwalk_ignore_rules.proofs.OnlyFacts.{each_ends_with}
use Rattle.jwalk_ignore_rules.proofs.pattern.glob.Glob.last_byte.Goals as goal

pub returns-in-Some-One-Byte-default : goal.returns-in-Some-One-Byte-default
returns-in-Some-One-Byte-default g c = λ x is.
    let at = c.in-Some-One-Byte-default in
    let parts = c.args.self.now.parts.items in
    let ends = mapped_last test_value parts at.field-0-1.now at.field-0-0.now (One (Byte at.byte))
    (sym c.deref.ensures.value ∙ at.ensures.cases.0) (at.field-0-0-is ∙ ap One at.field-0-0-0-is) in
    let same : at.byte ≡ x = cc in
    subst (EachEndsWith (parts_value parts)) same (each_ends_with (parts_value parts) (parts_value at.field-0-1.now) at.byte ends)
