use Rattle.jwalk_contents_first.proofs.OrderFacts.{depths_keep_order}
use Rattle.jwalk_contents_first.proofs.laws.depths_keep_order.Goals as goal

pub returns : goal.returns
returns g c = depths_keep_order
