use Rattle.jwalk_readings.specs.Reads.{IsMade, MadeAsGiven}
use Rattle.jwalk_readings.proofs.SkipFacts.{skipped_to_read, skipped_frontier, skipped_early, skipped_done}
use Rattle.jwalk_readings.proofs.batch_reads.BatchReads.skip_next.Goals as goal

pub invariant_of-self : goal.invariant_of-self
invariant_of-self g c = rw c.skip_next.ensures.plan (skipped_early _ _ (IsMade g.C.ReadDirState.Clone c.self.inside.walk.plan) c.skip_next.ensures.skips c.self.invariant)

pub returns-clause-to_read : goal.returns-clause-to_read
returns-clause-to_read g c = rw (← c.self.view_is) (skipped_to_read _ _ c.skip_next.ensures.skips)

pub returns-clause-done : goal.returns-clause-done
returns-clause-done g c = rw (← c.self.view_is) (skipped_done _ _ c.skip_next.ensures.skips)

pub returns-clause-frontier : goal.returns-clause-frontier
returns-clause-frontier g c = rw (← c.self.view_is) (skipped_frontier _ _ c.skip_next.ensures.skips)

pub returns-clause-steady : goal.returns-clause-steady
returns-clause-steady g c =
    rw (← c.self.view_is, c.skip_next.ensures.plan) (λ given steady. record { steady = steady.steady; early = skipped_early _ _ (MadeAsGiven g.S.FileSystem given c.self.inside.walk.plan) c.skip_next.ensures.skips steady.early })
