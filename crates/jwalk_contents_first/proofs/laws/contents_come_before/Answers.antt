use Rattle.jwalk_contents_first.proofs.OrderFacts.{contents_come_before}
use Rattle.jwalk_contents_first.proofs.laws.contents_come_before.Goals as goal

pub returns : goal.returns
returns g c = contents_come_before
