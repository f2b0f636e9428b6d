use Rattle.jwalk_indexed_fs.proofs.WalkFacts.{types_are_enough}
use Rattle.jwalk_indexed_fs.proofs.laws.types_are_enough.Goals as goal

pub returns : goal.returns
returns g c = types_are_enough
