use Rattle.jwalk_readings.proofs.BeginFacts.{begun_early, begun_made, begun_to_read, begun_ahead, none_to_read, none_ahead}
use Rattle.jwalk_readings.proofs.batch_reads.BatchReads.begin.Goals as goal

pub invariant_of-self : goal.invariant_of-self
invariant_of-self g c = begun_made _ _ c.begin.result c.begin.new.self.board c.begin.ensures.early c.begin.ensures.stopped

pub returns-clause-to_read : goal.returns-clause-to_read
returns-clause-to_read g c = begun_to_read c.begin.result c.args.roots.items c.begin.new.self.board c.begin.ensures.to_read

pub returns-clause-early : goal.returns-clause-early
returns-clause-early g c = begun_early c.begin.result c.begin.new.self.board c.begin.ensures.early c.begin.ensures.stopped

pub returns-clause-read_ahead : goal.returns-clause-read_ahead
returns-clause-read_ahead g c = begun_ahead c.begin.result c.args.roots.items c.begin.new.self.board c.begin.ensures.read_ahead

pub returns-clause-stopped : goal.returns-clause-stopped
returns-clause-stopped g c = none_to_read c.begin.result c.begin.new.self.board c.begin.ensures.stopped

pub returns-clause-nothing_ahead : goal.returns-clause-nothing_ahead
returns-clause-nothing_ahead g c = none_ahead c.begin.result c.begin.new.self.board c.begin.ensures.stopped
