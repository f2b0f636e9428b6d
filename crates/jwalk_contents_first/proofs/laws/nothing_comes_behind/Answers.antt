use Rattle.jwalk_contents_first.proofs.WholeFacts.{nothing_behind}
use Rattle.jwalk_contents_first.proofs.laws.nothing_comes_behind.Goals as goal

pub returns : goal.returns
returns g c = nothing_behind g.I.Iterator.next_gives
