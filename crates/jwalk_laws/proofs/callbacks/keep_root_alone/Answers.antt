use Rattle.std.proofs.Common.{◌∙◌, ap, map, sym}
use Rattle.jwalk.specs.jwalk_job.Entry.{item}
use Rattle.jwalk_laws.specs.Callbacks.{emptied, root_alone}
use Rattle.jwalk_laws.proofs.CallbackFacts.{list_made, made_empty}
use Rattle.jwalk_laws.proofs.callbacks.keep_root_alone.Goals as goal

pub returns : goal.returns
returns c = list_made _ _ _ c.processed.result (c.processed.ensures root_alone
    (λ depth path state state' list list' answer deep gives. made_empty depth path answer state state' (map item list.items) (map item list'.items) (ap (λ v. map item v.items) (sym gives.9) ∙ gives.10.1.1 ∙ ap (λ v. emptied depth (map item v.items)) gives.7)))
