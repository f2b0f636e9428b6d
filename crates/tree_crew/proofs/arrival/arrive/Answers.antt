use Rattle.tree_crew.proofs.ArrivalFacts.{arrives}
use Rattle.tree_crew.proofs.arrival.arrive.Goals as goal

pub returns-in-Ok : goal.returns-in-Ok
returns-in-Ok g c = arrives _ _ _ _ c.in-Ok.ensures.handed_out _ c.checked.ensures
