use Rattle.std.proofs.Common.{rules, tests, sym, ap, ◌∙◌}
use Rattle.std.specs.Prelude.{option_map}
use Rattle.std.proofs.lemmas.Iterator.{YieldsList-from_slice}
use Rattle.std.proofs.lemmas.Iterator.Search.{find_from_yields_List}
use Rattle.jwalk.specs.jwalk_job.Entry.{item}
use Rattle.jwalk_ignore.specs.Callback.IgnoreFiles.{is_git}
use Rattle.jwalk_ignore.proofs.ListFacts.{find-map, option_map-twice}
use Rattle.jwalk_ignore.proofs.callback.listed.git_of.Goals as goal

pub returns : goal.returns
returns g c =
    option_map-twice (λ found. found.now) item c.find.result
    ∙ ap (option_map item) (find_from_yields_List (λ found. is_git (item found)) _ _ _ c.find.ensures.ran
    (YieldsList-from_slice c.args.list.now c.iter.ensures.rest) (λ x b q k. search (rules, tests)))
    ∙ sym (find-map item is_git c.args.list.now)
