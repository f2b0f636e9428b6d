use Rattle.jwalk_usage_laws.proofs.TreeFacts.{trees_agree}
use Rattle.jwalk_usage_laws.proofs.trees.trees_agree.Goals as goal

pub returns : goal.returns
returns c = trees_agree
