use Rattle.jwalk_model.proofs.StatesFacts.{states_change_nothing_else}
use Rattle.jwalk_model.proofs.states.states_change_nothing_else.Goals as goal

pub returns : goal.returns
returns g c = states_change_nothing_else
