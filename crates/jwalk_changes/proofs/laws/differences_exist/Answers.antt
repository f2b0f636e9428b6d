use Rattle.jwalk_changes.proofs.LawFacts.{differences_exist}
use Rattle.jwalk_changes.proofs.laws.differences_exist.Goals as goal

pub returns : goal.returns
returns g c = differences_exist g.O.AtPath.path g.O.Entry.facts g.N.AtPath.path g.N.Entry.facts g.U.AtPath.path
