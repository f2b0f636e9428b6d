use Rattle.jwalk_subtotals.proofs.ErrorFacts.{entries_alone}
use Rattle.jwalk_subtotals.proofs.laws.errors_are_yielded.Goals as goal

pub returns : goal.returns
returns g c = entries_alone
