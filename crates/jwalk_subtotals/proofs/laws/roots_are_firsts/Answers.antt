use Rattle.jwalk_subtotals.proofs.FirstFacts.{roots_are_firsts}
use Rattle.jwalk_subtotals.proofs.laws.roots_are_firsts.Goals as goal

pub returns : goal.returns
returns g c = roots_are_firsts
