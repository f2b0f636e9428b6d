use Rattle.std.proofs.Common.{refl, rules, tests}
use Rattle.jwalk.specs.jwalk_callbacks.FilterEntry.{filtering}
use Rattle.jwalk_laws.specs.Callbacks.{no_target}
use Rattle.jwalk_laws.proofs.CallbackFacts.{list_made}
use Rattle.jwalk_laws.proofs.callbacks.drop_target.Goals as goal

pub returns : goal.returns
returns c = list_made _ _ _ c.processed.result (c.processed.ensures (filtering no_target) (no_target, λ depth name type answer fits text k. search (rules, tests), λ depth path state list. refl))
