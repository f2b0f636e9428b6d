use Rattle.std.specs.Iterator.{size}
use Rattle.tally_run.specs.OneDevice.{source_of}
use Rattle.tally_run.proofs.DeviceFacts.{Drops}
use Rattle.tally_run.proofs.one_device.OneDeviceIterator.next.Given as goal

-- what was taken so far was dropped
abbrev pub invariant-loop-answer : goal.invariant-loop-answer
invariant-loop-answer g l = Drops g.I.Iterator.next_gives g.I.Iterator.can_next g.I.Iterator.remaining l.fn.self l.self

-- at most how many answers are left
abbrev pub decreases-loop-answer : goal.decreases-loop-answer
decreases-loop-answer g l = size (g.I.Iterator.remaining (source_of l.self))
