use Rattle.std.proofs.Common.{rules, tests, sym, ◌∙◌}
use Rattle.std.proofs.lemmas.Iterator.{YieldsList-from_slice}
use Rattle.std.proofs.lemmas.Iterator.Search.{any_from_yields_List}
use Rattle.jwalk_ignore_rules.specs.Pattern.{pattern_value}
use Rattle.jwalk_ignore_rules.specs.Rules.Matching.{matches}
use Rattle.seek_words.proofs.ExtensionFacts.{list_any-map}
use Rattle.seek_found.proofs.glob.any_matches.Goals as goal

pub returns : goal.returns
returns c =
    any_from_yields_List (λ it. matches (pattern_value it) c.args.path.now c.args.is_dir) _ _ _ c.any.ensures.ran
    (YieldsList-from_slice c.args.patterns.now c.iter.ensures.rest) (λ x b q k. search (rules, tests))
    ∙ sym (list_any-map pattern_value (λ pattern. matches pattern c.args.path.now c.args.is_dir) c.args.patterns.now)
