use Rattle.jwalk_job.proofs.read_dir_spec.first_state.Goals as goal

pub returns-in_ok-clone-in-Some : goal.returns-in_ok-clone-in-Some
returns-in_ok-clone-in-Some g c = rw c.in-Some.is c.in_ok-clone-in-Some.ensures.cases

pub returns-in_ok-clone-in-None : goal.returns-in_ok-clone-in-None
returns-in_ok-clone-in-None g c = rw c.in-None.is c.in_ok-clone-in-None.ensures.cases
