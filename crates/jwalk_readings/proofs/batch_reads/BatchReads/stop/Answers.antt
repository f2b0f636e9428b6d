use Rattle.std.proofs.Common.{refl}
use Rattle.std.proofs.lemmas.List.Elements.{All-nil}
use Rattle.jwalk_readings.proofs.batch_reads.BatchReads.stop.Goals as goal

pub invariant_of-self : goal.invariant_of-self
invariant_of-self g c = rw c.stop.ensures (All-nil _)

pub returns-clause-job : goal.returns-clause-job
returns-clause-job g c = rw (← c.self.view_is, c.stop.ensures) refl

pub returns-clause-width : goal.returns-clause-width
returns-clause-width g c = rw (← c.self.view_is, c.stop.ensures) refl

pub returns-clause-to_read : goal.returns-clause-to_read
returns-clause-to_read g c = rw c.stop.ensures refl

pub returns-clause-early : goal.returns-clause-early
returns-clause-early g c = rw c.stop.ensures refl

pub returns-clause-read_ahead : goal.returns-clause-read_ahead
returns-clause-read_ahead g c = rw c.stop.ensures refl

pub returns-clause-frontier : goal.returns-clause-frontier
returns-clause-frontier g c = rw c.stop.ensures refl

pub returns-clause-steady : goal.returns-clause-steady
returns-clause-steady g c = rw (← c.self.view_is, c.stop.ensures) (λ given steady. record { steady = steady.steady; early = All-nil _ })
