use Rattle.jwalk_contents_first.proofs.TurnFacts.{silent_turn}
use Rattle.jwalk_contents_first.proofs.iter.ContentsFirst.turn.Goals as goal

pub returns-then-self : goal.returns-then-self
returns-then-self g c = silent_turn g.I.Iterator.next_gives g.I.Iterator.can_next g.I.Iterator.remaining c.args.self.now c.if-self.true c.requires.can
