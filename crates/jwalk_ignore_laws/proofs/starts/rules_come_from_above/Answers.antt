use Rattle.jwalk_ignore_laws.proofs.StartFacts.{rules_come_from_above}
use Rattle.jwalk_ignore_laws.proofs.starts.rules_come_from_above.Goals as goal

pub returns : goal.returns
returns c = rules_come_from_above
