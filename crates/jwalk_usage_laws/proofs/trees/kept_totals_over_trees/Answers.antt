use Rattle.jwalk_usage_laws.proofs.TreeFacts.{kept_totals_over_trees}
use Rattle.jwalk_usage_laws.proofs.trees.kept_totals_over_trees.Goals as goal

pub returns : goal.returns
returns c = kept_totals_over_trees
