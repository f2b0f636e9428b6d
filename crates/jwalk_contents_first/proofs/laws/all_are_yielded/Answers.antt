use Rattle.jwalk_contents_first.proofs.WholeFacts.{all_yielded}
use Rattle.jwalk_contents_first.proofs.laws.all_are_yielded.Goals as goal

pub returns : goal.returns
returns g c = all_yielded g.I.Iterator.next_gives
