use Rattle.jwalk_usage_laws.proofs.TotalFacts.{kept_totals_are_totals}
use Rattle.jwalk_usage_laws.proofs.totals.kept_totals_are_totals.Goals as goal

pub returns : goal.returns
returns c = kept_totals_are_totals
