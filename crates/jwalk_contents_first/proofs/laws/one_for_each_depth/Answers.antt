use Rattle.jwalk_contents_first.proofs.WholeFacts.{each_depth}
use Rattle.jwalk_contents_first.proofs.laws.one_for_each_depth.Goals as goal

pub returns : goal.returns
returns g c = each_depth g.I.Iterator.next_gives
