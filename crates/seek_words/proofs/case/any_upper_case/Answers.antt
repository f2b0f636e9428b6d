use Rattle.std.proofs.Common.{rules, tests, sym, ◌∙◌}
use Rattle.std.proofs.lemmas.Iterator.{YieldsList-from_slice}
use Rattle.std.proofs.lemmas.Iterator.Search.{any_from_yields_List}
use Rattle.seek_words.specs.Case.{has_upper_case}
use Rattle.seek_words.proofs.ExtensionFacts.{list_any-map}
use Rattle.seek_words.proofs.case.any_upper_case.Goals as goal

pub returns : goal.returns
returns c =
    any_from_yields_List (λ it. has_upper_case c.args.glob c.args.fixed it.now) _ _ _ c.any.ensures.ran
    (YieldsList-from_slice c.args.patterns.now c.iter.ensures.rest) (λ x b q k. search (rules, tests))
    ∙ sym (list_any-map (λ it. it.now) (has_upper_case c.args.glob c.args.fixed) c.args.patterns.now)
