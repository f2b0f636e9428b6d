use Rattle.jwalk_subtotals.proofs.TurnFacts.{silent_turn}
use Rattle.jwalk_subtotals.proofs.iter.Subtotals.turn.Goals as goal

pub returns-then-self : goal.returns-then-self
returns-then-self g c = silent_turn g.I.Iterator.next_gives g.I.Iterator.can_next g.I.Iterator.remaining c.args.self.now c.if-self.true c.requires
