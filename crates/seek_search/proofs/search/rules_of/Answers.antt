use Rattle.std.proofs.Common.{◌∙◌, ap, sym}
use Rattle.seek_search.specs.Search.{settings_asked}
use Rattle.seek_search.proofs.RunFacts.{no_items}
use Rattle.seek_search.proofs.search.rules_of.Goals as goal

pub returns-then-is_empty-clause-settings : goal.returns-then-is_empty-clause-settings
returns-then-is_empty-clause-settings g c =
    c.rules_in-rules.ensures.settings ∙ ap (λ l. settings_asked l c.args.asked.now) (sym (no_items c.args.lines.now (sym c.is_empty.ensures ∙ c.if-is_empty.true)))
