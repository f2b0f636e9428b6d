use Rattle.jwalk_subtotals.proofs.RootFacts.{subtotals_add_up}
use Rattle.jwalk_subtotals.proofs.laws.subtotals_add_up.Goals as goal

pub returns : goal.returns
returns g c = subtotals_add_up
