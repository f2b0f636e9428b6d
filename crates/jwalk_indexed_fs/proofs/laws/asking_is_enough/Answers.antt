use Rattle.jwalk_indexed_fs.proofs.WalkFacts.{asking_is_enough}
use Rattle.jwalk_indexed_fs.proofs.laws.asking_is_enough.Goals as goal

pub returns : goal.returns
returns g c = asking_is_enough
