use Rattle.std.proofs.Common.{refl}
use Rattle.jwalk_changes.proofs.RunFacts.{reaches_start, reaches_on, yields_after, nearer_after, ends_after}
use Rattle.jwalk_changes.proofs.iter.ChangesIterator.next.Goals as goal

pub loop-yielded-init : goal.loop-yielded-init
loop-yielded-init g c = reaches_start g.I.Iterator.next_gives g.J.Iterator.next_gives g.K.Iterator.next_gives g.I.Iterator.can_next g.I.Iterator.remaining g.J.Iterator.can_next g.J.Iterator.remaining g.K.Iterator.can_next g.K.Iterator.remaining g.O.AtPath.path g.O.Entry.facts g.N.AtPath.path g.N.Entry.facts g.U.AtPath.path c.args.self.now c.requires

pub turn-requires : goal.turn-requires
turn-requires g c = c.loop-yielded.invariant.can_go_on

pub returns-in-Yields-clause-steps : goal.returns-in-Yields-clause-steps
returns-in-Yields-clause-steps g c = yields_after g.I.Iterator.next_gives g.J.Iterator.next_gives g.K.Iterator.next_gives g.I.Iterator.can_next g.I.Iterator.remaining g.J.Iterator.can_next g.J.Iterator.remaining g.K.Iterator.can_next g.K.Iterator.remaining g.O.AtPath.path g.O.Entry.facts g.N.AtPath.path g.N.Entry.facts g.U.AtPath.path c.args.self.now c.loop-yielded.self c.turn.new.self c.in-Yields.yielded c.loop-yielded.invariant c.in-Yields.ensures

pub returns-in-Yields-clause-goes : goal.returns-in-Yields-clause-goes
returns-in-Yields-clause-goes g c = nearer_after g.I.Iterator.next_gives g.J.Iterator.next_gives g.K.Iterator.next_gives g.I.Iterator.can_next g.I.Iterator.remaining g.J.Iterator.can_next g.J.Iterator.remaining g.K.Iterator.can_next g.K.Iterator.remaining g.O.AtPath.path g.O.Entry.facts g.N.AtPath.path g.N.Entry.facts g.U.AtPath.path c.args.self.now c.loop-yielded.self c.turn.new.self c.in-Yields.yielded c.loop-yielded.invariant c.in-Yields.ensures

pub loop-yielded-smaller : goal.loop-yielded-smaller
loop-yielded-smaller g c = c.in-GoesOn.ensures.falls refl

pub loop-yielded-preserved : goal.loop-yielded-preserved
loop-yielded-preserved g c = reaches_on g.I.Iterator.next_gives g.J.Iterator.next_gives g.K.Iterator.next_gives g.I.Iterator.can_next g.I.Iterator.remaining g.J.Iterator.can_next g.J.Iterator.remaining g.K.Iterator.can_next g.K.Iterator.remaining g.O.AtPath.path g.O.Entry.facts g.N.AtPath.path g.N.Entry.facts g.U.AtPath.path c.args.self.now c.loop-yielded.self c.turn.new.self c.loop-yielded.invariant c.in-GoesOn.ensures

pub returns-in-Ends-clause-steps : goal.returns-in-Ends-clause-steps
returns-in-Ends-clause-steps g c = ends_after g.I.Iterator.next_gives g.J.Iterator.next_gives g.K.Iterator.next_gives g.I.Iterator.can_next g.I.Iterator.remaining g.J.Iterator.can_next g.J.Iterator.remaining g.K.Iterator.can_next g.K.Iterator.remaining g.O.AtPath.path g.O.Entry.facts g.N.AtPath.path g.N.Entry.facts g.U.AtPath.path c.args.self.now c.loop-yielded.self c.turn.new.self c.loop-yielded.invariant c.in-Ends.ensures
