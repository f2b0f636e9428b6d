use Rattle.jwalk_usage.proofs.report.Usage.add.Goals as goal

pub returns-in-Ok-clause-faults : goal.returns-in-Ok-clause-faults
returns-in-Ok-clause-faults g c = rw c.in-Ok.is c.add_entry.ensures.faults
