use Rattle.jwalk_ignore_laws.proofs.StartFacts.{folders_are_above}
use Rattle.jwalk_ignore_laws.proofs.starts.folders_are_above.Goals as goal

pub returns : goal.returns
returns c = folders_are_above
