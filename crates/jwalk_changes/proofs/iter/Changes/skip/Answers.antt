use Rattle.std.proofs.Common.{◌∙◌, ap}
use Rattle.jwalk_changes.specs.declared.iter.Step.TheVariants.{Skip}
use Rattle.jwalk_changes.proofs.TurnFacts.{skip_an_old, skip_a_new, skip_both}
use Rattle.jwalk_changes.proofs.iter.Changes.skip.Goals as goal

pub returns-in-Old : goal.returns-in-Old
returns-in-Old g c =
    skip_an_old g.I.Iterator.next_gives g.J.Iterator.next_gives g.K.Iterator.next_gives g.I.Iterator.can_next g.I.Iterator.remaining g.J.Iterator.can_next g.J.Iterator.remaining g.K.Iterator.can_next g.K.Iterator.remaining g.O.AtPath.path g.O.Entry.facts g.N.AtPath.path g.N.Entry.facts g.U.AtPath.path
    c.args.self.now c.advance.new.self c.requires.can c.requires.asked (c.requires.step ∙ ap Skip c.in-Old.is) c.advance.ensures.passes c.advance.ensures.can c.advance.ensures.falls

pub returns-in-New : goal.returns-in-New
returns-in-New g c =
    let a = c.advance-in-New in
    skip_a_new g.I.Iterator.next_gives g.J.Iterator.next_gives g.K.Iterator.next_gives g.I.Iterator.can_next g.I.Iterator.remaining g.J.Iterator.can_next g.J.Iterator.remaining g.K.Iterator.can_next g.K.Iterator.remaining g.O.AtPath.path g.O.Entry.facts g.N.AtPath.path g.N.Entry.facts g.U.AtPath.path
    c.args.self.now a.new.self c.requires.can c.requires.asked (c.requires.step ∙ ap Skip c.in-New.is) a.ensures.passes a.ensures.can a.ensures.falls

pub returns-in-Both : goal.returns-in-Both
returns-in-Both g c =
    let a = c.advance-in-Both in
    let b = c.advance-in-Both-2 in
    skip_both g.I.Iterator.next_gives g.J.Iterator.next_gives g.K.Iterator.next_gives g.I.Iterator.can_next g.I.Iterator.remaining g.J.Iterator.can_next g.J.Iterator.remaining g.K.Iterator.can_next g.K.Iterator.remaining g.O.AtPath.path g.O.Entry.facts g.N.AtPath.path g.N.Entry.facts g.U.AtPath.path
    c.args.self.now a.new.self b.new.self c.requires.can c.requires.asked (c.requires.step ∙ ap Skip c.in-Both.is) a.ensures.passes b.ensures.passes a.ensures.can b.ensures.can a.ensures.falls b.ensures.falls
