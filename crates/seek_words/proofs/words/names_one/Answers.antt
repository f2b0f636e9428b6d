use Rattle.std.proofs.Common.{rules, tests, sym, ◌∙◌, ◌||◌, bytes_eq}
use Rattle.std.proofs.lemmas.Iterator.{YieldsList-from_slice}
use Rattle.std.proofs.lemmas.Iterator.Search.{any_from_yields_List}
use Rattle.seek_words.proofs.ExtensionFacts.{list_any-map}
use Rattle.seek_words.proofs.words.names_one.Goals as goal

pub returns : goal.returns
returns c =
    any_from_yields_List (λ it. bytes_eq it.now c.args.a.now || bytes_eq it.now c.args.b.now) _ _ _ c.any.ensures.ran
    (YieldsList-from_slice c.args.names.now c.iter.ensures.rest) (λ x b q k. search (rules, tests))
    ∙ sym (list_any-map (λ it. it.now) (λ name. bytes_eq name c.args.a.now || bytes_eq name c.args.b.now) c.args.names.now)
