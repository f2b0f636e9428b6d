use Rattle.jwalk_contents_first.proofs.WholeFacts.{first_yielded}
use Rattle.jwalk_contents_first.proofs.laws.first_are_yielded.Goals as goal

pub returns : goal.returns
returns g c = first_yielded g.I.Iterator.next_gives
