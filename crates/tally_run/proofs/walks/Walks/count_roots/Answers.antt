use Rattle.tally_run.proofs.RootFacts.{roots_counted}
use Rattle.tally_run.proofs.walks.Walks.count_roots.Goals as goal

pub returns : goal.returns
returns g c = roots_counted c.new-known.ensures c.new-files.ensures c.in_ok-counted.ensures
