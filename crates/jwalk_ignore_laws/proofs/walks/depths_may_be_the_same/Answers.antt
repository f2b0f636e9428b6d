use Rattle.jwalk_ignore_laws.proofs.WalkFacts.{depths_may_be_the_same}
use Rattle.jwalk_ignore_laws.proofs.walks.depths_may_be_the_same.Goals as goal

pub returns : goal.returns
returns c = depths_may_be_the_same
