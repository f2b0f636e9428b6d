use Rattle.std.proofs.Common.{Some}
use Rattle.jwalk_changes.proofs.TurnFacts.{tells_old}
use Rattle.jwalk_changes.proofs.iter.Changes.tell_old.Goals as goal

pub returns-in-Some : goal.returns-in-Some
returns-in-Some g c =
    tells_old g.I.Iterator.next_gives g.J.Iterator.next_gives g.K.Iterator.next_gives g.I.Iterator.can_next g.I.Iterator.remaining g.J.Iterator.can_next g.J.Iterator.remaining g.K.Iterator.can_next g.K.Iterator.remaining g.O.AtPath.path g.O.Entry.facts g.N.AtPath.path g.N.Entry.facts g.U.AtPath.path
    c.args.self.now c.advance.new.self (Some c.in-Some.old) c.requires.can c.requires.asked c.requires.step c.in-Some.ensures.passes c.in-Some.ensures.compared c.in-Some.ensures.can c.in-Some.ensures.falls
