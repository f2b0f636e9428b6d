use Rattle.jwalk_subtotals.proofs.StateFacts.{subtotals_same}
use Rattle.jwalk_subtotals.proofs.laws.states_do_not_count.Goals as goal

pub returns : goal.returns
returns g c = subtotals_same
