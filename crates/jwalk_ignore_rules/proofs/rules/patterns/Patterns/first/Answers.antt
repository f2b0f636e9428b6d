use Rattle.std.proofs.Common.{◌∙◌, map, take, ap, sym}
use Rattle.std.specs.Prelude.{min}
use Rattle.std.proofs.lemmas.List.{take-map, take_min}
use Rattle.jwalk_ignore_rules.specs.Pattern.{pattern_value}
use Rattle.jwalk_ignore_rules.proofs.rules.patterns.Patterns.first.Goals as goal

pub returns : goal.returns
returns g c =
    let all = c.deref.result.now in
    ap (λ n. map pattern_value (take n all)) (c.min.ensures ∙ ap (λ n. min c.args.count n) (c.len.ensures ∙ sym c.deref.ensures.len))
    ∙ ap (map pattern_value) (take_min c.args.count all) ∙ sym (take-map pattern_value c.args.count all) ∙ ap (λ xs. take c.args.count (map pattern_value xs)) c.deref.ensures.value
