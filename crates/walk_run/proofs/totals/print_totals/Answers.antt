use Rattle.std.proofs.Common.{◌≡◌, ◌∙◌, ◌&&◌, ℕ, List, Option, is_ok, ap, subst}
use Rattle.std.specs.Iterator.{Drains}
use Rattle.std.specs.Io.KnownBytes.{Appends}
use Rattle.std.specs.List.{list_all}
use Rattle.jwalk_usage.specs.declared.report.Usage.{Usage}
use Rattle.walk_run.specs.Totals.{usage_line}
use Rattle.walk_run.proofs.NotingFacts.{all_passed_on}
use Rattle.walk_run.proofs.totals.print_totals.Goals as goal

-- the line of a usage is that of the totals that it is
same_line : (old new : Option (List ℕ)) (usage totals : Usage) → usage ≡ totals → Appends old new (usage_line usage) → Appends old new (usage_line totals)
same_line old new usage totals is = subst (λ u. Appends old new (usage_line u)) is

pub returns-clause-printed : goal.returns-clause-printed
returns-clause-printed g c =
    let made = c.new-noting.ensures in
    let counted = c.in-Ok.ensures.totals in
    let passed = all_passed_on g.I.Iterator.next_gives counted.0 c.new-noting.result c.usage_kept_of_rest.new.answers counted.1 in (
      counted.0,
      subst (λ s. Drains g.I.Iterator.next_gives s counted.0) made.source passed.0,
      c.is_clean.ensures ∙ passed.1 ∙ ap (λ b. b && list_all is_ok counted.0) made.clean,
      same_line _ _ _ _ counted.2.totals c.in_ok-write_line-in-Ok.ensures.written,
    )
