use Rattle.jwalk_subtotals.proofs.WholeFacts.{first_yielded}
use Rattle.jwalk_subtotals.proofs.laws.first_are_yielded.Goals as goal

pub returns : goal.returns
returns g c = first_yielded g.I.Iterator.next_gives
