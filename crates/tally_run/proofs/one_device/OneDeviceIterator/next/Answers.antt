use Rattle.std.proofs.Common.{◌∙◌, sym}
use Rattle.tally_run.proofs.DeviceFacts.{drops_none, drops_one, stays_one}
use Rattle.tally_run.proofs.one_device.OneDeviceIterator.next.Goals as goal

pub loop-answer-init : goal.loop-answer-init
loop-answer-init g c = drops_none g.I.Iterator.next_gives g.I.Iterator.can_next g.I.Iterator.remaining c.args.self.now c.requires

pub loop-answer-preserved-else-stays : goal.loop-answer-preserved-else-stays
loop-answer-preserved-else-stays g c =
    drops_one g.I.Iterator.next_gives g.I.Iterator.can_next g.I.Iterator.remaining c.args.self.now c.loop-answer.self c.stays.new.self c.next.new.self c.in-Some.answer
    c.loop-answer.invariant c.in-Some.ensures.steps c.in-Some.ensures.goes c.stays.ensures.begun (sym c.stays.ensures.stays ∙ c.if-stays.false)

pub returns-then-stays-clause-steps : goal.returns-then-stays-clause-steps
returns-then-stays-clause-steps g c =
    stays_one g.I.Iterator.next_gives g.I.Iterator.can_next g.I.Iterator.remaining c.args.self.now c.loop-answer.self c.stays.new.self c.next.new.self c.in-Some.answer
    c.loop-answer.invariant c.in-Some.ensures.steps c.in-Some.ensures.goes c.stays.ensures.begun (sym c.stays.ensures.stays ∙ c.if-stays.true)
