use Rattle.jwalk_contents_first.proofs.OrderFacts.{same_items}
use Rattle.jwalk_contents_first.proofs.laws.same_items.Goals as goal

pub returns : goal.returns
returns g c = same_items
