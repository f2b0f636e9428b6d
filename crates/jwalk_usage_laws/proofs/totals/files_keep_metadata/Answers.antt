use Rattle.jwalk_usage_laws.proofs.TotalFacts.{files_keep_metadata}
use Rattle.jwalk_usage_laws.proofs.totals.files_keep_metadata.Goals as goal

pub returns : goal.returns
returns c = files_keep_metadata
