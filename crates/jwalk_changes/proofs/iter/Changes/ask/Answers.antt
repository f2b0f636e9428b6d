use Rattle.jwalk_changes.proofs.TurnFacts.{asks_old, asks_new, asks_unknown}
use Rattle.jwalk_changes.proofs.iter.Changes.ask.Goals as goal

pub returns-in-Unasked-clause-asked : goal.returns-in-Unasked-clause-asked
returns-in-Unasked-clause-asked g c =
    asks_old g.I.Iterator.next_gives g.J.Iterator.next_gives g.K.Iterator.next_gives g.I.Iterator.can_next g.I.Iterator.remaining g.J.Iterator.can_next g.J.Iterator.remaining g.K.Iterator.can_next g.K.Iterator.remaining g.O.AtPath.path g.O.Entry.facts g.N.AtPath.path g.N.Entry.facts g.U.AtPath.path
    c.args.self.now c.advance.new.self c.requires.can c.requires.ascend.runs c.in-Unasked.is c.advance.ensures.passes c.advance.ensures.can c.advance.ensures.falls

pub returns-in-Unasked-ahead-clause-asked : goal.returns-in-Unasked-ahead-clause-asked
returns-in-Unasked-ahead-clause-asked g c =
    let a = c.advance-in-Unasked-ahead in
    asks_new g.I.Iterator.next_gives g.J.Iterator.next_gives g.K.Iterator.next_gives g.I.Iterator.can_next g.I.Iterator.remaining g.J.Iterator.can_next g.J.Iterator.remaining g.K.Iterator.can_next g.K.Iterator.remaining g.O.AtPath.path g.O.Entry.facts g.N.AtPath.path g.N.Entry.facts g.U.AtPath.path
    c.args.self.now a.new.self c.requires.can c.requires.ascend.runs c.in-Unasked-ahead.is a.ensures.passes a.ensures.can a.ensures.falls

pub returns-in-Unasked-ahead-2-clause-asked : goal.returns-in-Unasked-ahead-2-clause-asked
returns-in-Unasked-ahead-2-clause-asked g c =
    let a = c.advance-in-Unasked-ahead-2 in
    asks_unknown g.I.Iterator.next_gives g.J.Iterator.next_gives g.K.Iterator.next_gives g.I.Iterator.can_next g.I.Iterator.remaining g.J.Iterator.can_next g.J.Iterator.remaining g.K.Iterator.can_next g.K.Iterator.remaining g.O.AtPath.path g.O.Entry.facts g.N.AtPath.path g.N.Entry.facts g.U.AtPath.path
    c.args.self.now a.new.self c.requires.can c.requires.ascend.runs c.in-Unasked-ahead-2.is a.ensures.passes a.ensures.can a.ensures.falls
