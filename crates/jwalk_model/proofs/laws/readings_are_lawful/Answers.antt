use Rattle.jwalk_model.proofs.ReadingFacts.{readings_lawful}
use Rattle.jwalk_model.proofs.laws.readings_are_lawful.Goals as goal

pub returns : goal.returns
returns g c = readings_lawful
