use Rattle.jwalk_ignore_laws.proofs.WalkFacts.{walks_are_the_same}
use Rattle.jwalk_ignore_laws.proofs.walks.walks_are_the_same.Goals as goal

pub returns : goal.returns
returns c = walks_are_the_same
