use Rattle.jwalk_subtotals.proofs.WholeFacts.{all_yielded_beside}
use Rattle.jwalk_subtotals.proofs.laws.all_are_yielded_beside.Goals as goal

pub returns : goal.returns
returns g c = all_yielded_beside g.I.Iterator.next_gives
