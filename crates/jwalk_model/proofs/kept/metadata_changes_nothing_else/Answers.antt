use Rattle.jwalk_model.proofs.KeptFacts.{metadata_changes_nothing_else}
use Rattle.jwalk_model.proofs.kept.metadata_changes_nothing_else.Goals as goal

pub returns : goal.returns
returns g c = metadata_changes_nothing_else
