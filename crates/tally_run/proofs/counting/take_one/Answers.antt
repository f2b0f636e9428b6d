use Rattle.tally_run.proofs.CountingFacts.{error_taken}
use Rattle.tally_run.proofs.counting.take_one.Goals as goal

pub returns-in_ok-take_error-in-Err-clause-taken : goal.returns-in_ok-take_error-in-Err-clause-taken
returns-in_ok-take_error-in-Err-clause-taken g c = error_taken c.args.root.now c.args.shown c.args.yielded c.in-Err.error c.in-Err.is _ _
