use Rattle.jwalk_indexed_fs_laws.proofs.AddedFacts.{records_add_up}
use Rattle.jwalk_indexed_fs_laws.proofs.records.records_add_up.Goals as goal

pub returns : goal.returns
returns c = records_add_up
