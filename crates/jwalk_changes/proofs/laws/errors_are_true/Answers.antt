use Rattle.jwalk_changes.proofs.WholeFacts.{errors_true}
use Rattle.jwalk_changes.proofs.laws.errors_are_true.Goals as goal

pub returns : goal.returns
returns g c = errors_true g.I.Iterator.next_gives g.J.Iterator.next_gives g.K.Iterator.next_gives g.O.AtPath.path g.O.Entry.facts g.N.AtPath.path g.N.Entry.facts g.U.AtPath.path
