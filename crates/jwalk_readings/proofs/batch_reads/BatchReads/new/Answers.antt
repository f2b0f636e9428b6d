use Rattle.std.proofs.Common.{ap}
use Rattle.std.proofs.lemmas.List.Elements.{All-nil}
use Rattle.tree_walk.specs.BoardWalk.{frontier_on}
use Rattle.jwalk_readings.specs.BatchReads.{to_read_on, early_on, ahead_of}
use Rattle.jwalk_readings.proofs.batch_reads.BatchReads.new.Goals as goal

pub invariant_of-result : goal.invariant_of-result
invariant_of-result g c = rw c.new.ensures.nothing (All-nil _)

pub returns-clause-to_read : goal.returns-clause-to_read
returns-clause-to_read g c = ap to_read_on c.new.ensures.nothing

pub returns-clause-early : goal.returns-clause-early
returns-clause-early g c = ap early_on c.new.ensures.nothing

pub returns-clause-read_ahead : goal.returns-clause-read_ahead
returns-clause-read_ahead g c = ap ahead_of c.new.ensures.nothing

pub returns-clause-frontier : goal.returns-clause-frontier
returns-clause-frontier g c = ap frontier_on c.new.ensures.nothing
