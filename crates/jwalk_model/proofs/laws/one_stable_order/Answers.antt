use Rattle.jwalk_model.proofs.SortingFacts.{orders_are_arranged}
use Rattle.jwalk_model.proofs.laws.one_stable_order.Goals as goal

pub returns : goal.returns
returns g c = orders_are_arranged
