use Rattle.jwalk_subtotals.proofs.RootFacts.{roots_are_all}
use Rattle.jwalk_subtotals.proofs.laws.roots_are_all.Goals as goal

pub returns : goal.returns
returns g c = roots_are_all
