use Rattle.tally_run.proofs.WrittenFacts.{asked_written}
use Rattle.tally_run.proofs.run.tally_all.Goals as goal

pub returns : goal.returns
returns g c =
    let made = c.in_ok-walks.ensures in
    asked_written _ _ _ _ c.in_ok-walks.walks made.asked made.disk made.texts made.crew c.in_ok-results.ensures c.in_ok-clean.ensures c.in_ok-finish.ensures
