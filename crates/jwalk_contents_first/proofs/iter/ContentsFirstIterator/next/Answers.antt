use Rattle.std.proofs.Common.{refl}
use Rattle.jwalk_contents_first.proofs.RunFacts.{reaches_start, reaches_on, yields_after, nearer_after, ends_after}
use Rattle.jwalk_contents_first.proofs.iter.ContentsFirstIterator.next.Goals as goal

pub loop-self-init : goal.loop-self-init
loop-self-init g c = reaches_start g.I.Iterator.next_gives g.I.Iterator.can_next g.I.Iterator.remaining c.args.self.now c.requires

pub turn-requires-clause-can : goal.turn-requires-clause-can
turn-requires-clause-can g c = c.loop-self.invariant.can_go_on

pub returns-in-Some-clause-steps : goal.returns-in-Some-clause-steps
returns-in-Some-clause-steps g c = yields_after g.I.Iterator.next_gives g.I.Iterator.can_next g.I.Iterator.remaining c.args.self.now c.loop-self.self c.take.new.self c.in-Some.yielded c.loop-self.invariant c.in-Some.ensures

pub returns-in-Some-clause-goes : goal.returns-in-Some-clause-goes
returns-in-Some-clause-goes g c = nearer_after g.I.Iterator.next_gives g.I.Iterator.can_next g.I.Iterator.remaining c.args.self.now c.loop-self.self c.take.new.self c.in-Some.yielded c.loop-self.invariant c.in-Some.ensures

pub loop-self-preserved-in_default : goal.loop-self-preserved-in_default
loop-self-preserved-in_default g c = reaches_on g.I.Iterator.next_gives g.I.Iterator.can_next g.I.Iterator.remaining c.args.self.now c.loop-self.self c.take.new.self c.loop-self.invariant c.in_default.ensures

pub returns-in-Yields-clause-steps : goal.returns-in-Yields-clause-steps
returns-in-Yields-clause-steps g c = yields_after g.I.Iterator.next_gives g.I.Iterator.can_next g.I.Iterator.remaining c.args.self.now c.loop-self.self c.turn.new.self c.in-Yields.yielded c.loop-self.invariant c.in-Yields.ensures

pub returns-in-Yields-clause-goes : goal.returns-in-Yields-clause-goes
returns-in-Yields-clause-goes g c = nearer_after g.I.Iterator.next_gives g.I.Iterator.can_next g.I.Iterator.remaining c.args.self.now c.loop-self.self c.turn.new.self c.in-Yields.yielded c.loop-self.invariant c.in-Yields.ensures

pub loop-self-smaller : goal.loop-self-smaller
loop-self-smaller g c = c.in-GoesOn.ensures.falls refl

pub loop-self-preserved : goal.loop-self-preserved
loop-self-preserved g c = reaches_on g.I.Iterator.next_gives g.I.Iterator.can_next g.I.Iterator.remaining c.args.self.now c.loop-self.self c.turn.new.self c.loop-self.invariant c.in-GoesOn.ensures

pub returns-in-Ends-clause-steps : goal.returns-in-Ends-clause-steps
returns-in-Ends-clause-steps g c = ends_after g.I.Iterator.next_gives g.I.Iterator.can_next g.I.Iterator.remaining c.args.self.now c.loop-self.self c.turn.new.self c.loop-self.invariant c.in-Ends.ensures
