use Rattle.jwalk_changes.proofs.AlikeFacts.{none_if_equal}
use Rattle.jwalk_changes.proofs.laws.none_if_equal.Goals as goal

pub returns : goal.returns
returns g c = none_if_equal g.O.AtPath.path g.O.Entry.facts g.N.AtPath.path g.N.Entry.facts g.U.AtPath.path
