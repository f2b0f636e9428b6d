use Rattle.std.proofs.Common.{rules, tests, sym, ◌∙◌, bytes_eq, string_bytes}
use Rattle.std.proofs.lemmas.Iterator.{YieldsList-from_slice}
use Rattle.std.proofs.lemmas.Iterator.Search.{any_from_yields_List}
use Rattle.jwalk_callbacks.proofs.SkipFacts.{list_any-map}
use Rattle.jwalk_callbacks.proofs.skip_names.is_listed.Goals as goal

pub returns : goal.returns
returns g c =
    any_from_yields_List (λ other. bytes_eq c.args.name.now (string_bytes other)) _ _ _ c.any.ensures.ran
    (YieldsList-from_slice c.args.names.now c.iter.ensures.rest) (λ x b q k. search (rules, tests))
    ∙ sym (list_any-map string_bytes (bytes_eq c.args.name.now) c.args.names.now)
