use Rattle.std.proofs.Common.{sym, subst}
use Rattle.jwalk_changes.specs.declared.iter.Turn.{Turn}
use Rattle.jwalk_changes.specs.Steps.{Turns}
use Rattle.jwalk_changes.proofs.TurnFacts.{tells_both}
use Rattle.jwalk_changes.proofs.iter.Changes.tell_both.Goals as goal

pub returns : goal.returns
returns g c =
    let s = c.args.self.now in
    let x = c.advance-old.new.self in
    let y = c.advance-new.new.self in
    subst (λ (t : Turn g.row.O.Denot g.row.N.Denot). Turns g.I.Iterator.next_gives g.J.Iterator.next_gives g.K.Iterator.next_gives g.I.Iterator.can_next g.I.Iterator.remaining g.J.Iterator.can_next g.J.Iterator.remaining g.K.Iterator.can_next g.K.Iterator.remaining g.O.AtPath.path g.O.Entry.facts g.N.AtPath.path g.N.Entry.facts g.U.AtPath.path s t (record s { olds = x; news = y })) (sym c.told_both.ensures)
    (tells_both g.I.Iterator.next_gives g.J.Iterator.next_gives g.K.Iterator.next_gives g.I.Iterator.can_next g.I.Iterator.remaining g.J.Iterator.can_next g.J.Iterator.remaining g.K.Iterator.can_next g.K.Iterator.remaining g.O.AtPath.path g.O.Entry.facts g.N.AtPath.path g.N.Entry.facts g.U.AtPath.path
    s x y c.advance-old.result c.advance-new.result c.requires.can c.requires.asked c.requires.step c.advance-old.ensures.passes c.advance-new.ensures.passes
    c.advance-old.ensures.compared c.advance-new.ensures.compared c.advance-old.ensures.can c.advance-new.ensures.can c.advance-old.ensures.falls c.advance-new.ensures.falls)
