use Rattle.jwalk_changes.proofs.AppliedFacts.{applied_give_new}
use Rattle.jwalk_changes.proofs.laws.applied_give_new.Goals as goal

pub returns : goal.returns
returns g c = applied_give_new g.X.AtPath.path g.X.Entry.facts g.U.AtPath.path
