use Rattle.std.proofs.Common.{rules, tests, sym, ◌∙◌}
use Rattle.std.proofs.lemmas.Iterator.{YieldsList-from_slice}
use Rattle.std.proofs.lemmas.Iterator.Search.{any_from_yields_List}
use Rattle.seek_words.specs.Extension.{has_extension}
use Rattle.seek_words.proofs.ExtensionFacts.{list_any-map}
use Rattle.seek_words.proofs.extension.has_any.Goals as goal

pub returns : goal.returns
returns c =
    any_from_yields_List (λ it. has_extension c.args.name.now it.now) _ _ _ c.any.ensures.ran
    (YieldsList-from_slice c.args.extensions.now c.iter.ensures.rest) (λ x b q k. search (rules, tests))
    ∙ sym (list_any-map (λ it. it.now) (has_extension c.args.name.now) c.args.extensions.now)
