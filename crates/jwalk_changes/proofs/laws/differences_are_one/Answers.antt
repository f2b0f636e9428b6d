use Rattle.jwalk_changes.proofs.AlikeFacts.{differences_are_one}
use Rattle.jwalk_changes.proofs.laws.differences_are_one.Goals as goal

pub returns : goal.returns
returns g c = differences_are_one g.O.AtPath.path g.O.Entry.facts g.N.AtPath.path g.N.Entry.facts g.U.AtPath.path
