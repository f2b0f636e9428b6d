use Rattle.jwalk_changes.proofs.WholeFacts.{all_yielded}
use Rattle.jwalk_changes.proofs.laws.all_are_yielded.Goals as goal

pub returns : goal.returns
returns g c = all_yielded g.I.Iterator.next_gives g.J.Iterator.next_gives g.K.Iterator.next_gives g.O.AtPath.path g.O.Entry.facts g.N.AtPath.path g.N.Entry.facts g.U.AtPath.path
