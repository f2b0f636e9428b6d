use Rattle.std.proofs.Common.{◌≡◌, ◌∙◌, take, ap, sym, arith}
use Rattle.std.proofs.lemmas.List.{take_all}
use Rattle.jwalk_ignore_rules.specs.Pattern.Glob.{glob_value, parts_value}
use Rattle.jwalk_ignore_rules.proofs.OnlyFacts.{only_plain}
use Rattle.jwalk_ignore_rules.proofs.pattern.glob.Glob.only_name.Goals as goal

pub returns : goal.returns
returns g c =
    let all = c.deref-part-items.result.now in
    let whole : take c.loop-part.part-index all ≡ all = take_all c.loop-part.part-index all (omega (arith, c.loop-part-test.false)) in
    only_plain (glob_value c.args.self.now) c.loop-part.name.items (ap parts_value (sym c.deref-part-items.ensures.value ∙ sym whole) ∙ c.loop-part.invariant)
