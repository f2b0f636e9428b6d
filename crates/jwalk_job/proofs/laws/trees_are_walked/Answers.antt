use Rattle.jwalk_job.proofs.WalkedTrees.{trees_walked}
use Rattle.jwalk_job.proofs.laws.trees_are_walked.Goals as goal

pub returns : goal.returns
returns g c = trees_walked
