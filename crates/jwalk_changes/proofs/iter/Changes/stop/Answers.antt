use Rattle.jwalk_changes.proofs.TurnFacts.{stops_at}
use Rattle.jwalk_changes.proofs.iter.Changes.stop.Goals as goal

pub returns : goal.returns
returns g c = stops_at g.I.Iterator.next_gives g.J.Iterator.next_gives g.K.Iterator.next_gives g.I.Iterator.can_next g.I.Iterator.remaining g.J.Iterator.can_next g.J.Iterator.remaining g.K.Iterator.can_next g.K.Iterator.remaining g.O.AtPath.path g.O.Entry.facts g.N.AtPath.path g.N.Entry.facts g.U.AtPath.path c.args.self.now c.args.input c.requires.can c.requires.runs c.requires.fallen
