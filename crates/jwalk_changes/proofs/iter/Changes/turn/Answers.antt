use Rattle.jwalk_changes.proofs.TurnFacts.{ends_stopped, ends_same}
use Rattle.jwalk_changes.proofs.iter.Changes.turn.Goals as goal

pub returns-then-self : goal.returns-then-self
returns-then-self g c = ends_stopped g.I.Iterator.next_gives g.J.Iterator.next_gives g.K.Iterator.next_gives g.I.Iterator.can_next g.I.Iterator.remaining g.J.Iterator.can_next g.J.Iterator.remaining g.K.Iterator.can_next g.K.Iterator.remaining g.O.AtPath.path g.O.Entry.facts g.N.AtPath.path g.N.Entry.facts g.U.AtPath.path c.args.self.now c.requires c.if-self.true

pub returns-in-End : goal.returns-in-End
returns-in-End g c =
    ends_same g.I.Iterator.next_gives g.J.Iterator.next_gives g.K.Iterator.next_gives g.I.Iterator.can_next g.I.Iterator.remaining g.J.Iterator.can_next g.J.Iterator.remaining g.K.Iterator.can_next g.K.Iterator.remaining g.O.AtPath.path g.O.Entry.facts g.N.AtPath.path g.N.Entry.facts g.U.AtPath.path
    c.args.self.now c.ask.new.self c.if-ask.ensures.unchanged c.requires c.if-ask.ensures.all_asked c.in-End.ensures
