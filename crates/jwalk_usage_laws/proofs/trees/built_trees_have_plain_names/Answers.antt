use Rattle.jwalk_usage_laws.proofs.BuildFacts.{built_trees_have_plain_names}
use Rattle.jwalk_usage_laws.proofs.trees.built_trees_have_plain_names.Goals as goal

pub returns : goal.returns
returns c = built_trees_have_plain_names
