use Rattle.jwalk_ignore_laws.proofs.WayFacts.{rules_are_the_same}
use Rattle.jwalk_ignore_laws.proofs.starts.rules_are_the_same.Goals as goal

pub returns : goal.returns
returns c = rules_are_the_same
