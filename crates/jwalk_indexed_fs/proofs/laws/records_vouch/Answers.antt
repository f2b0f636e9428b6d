use Rattle.jwalk_indexed_fs.proofs.RecordFacts.{records_vouch}
use Rattle.jwalk_indexed_fs.proofs.laws.records_vouch.Goals as goal

pub returns : goal.returns
returns c = records_vouch
