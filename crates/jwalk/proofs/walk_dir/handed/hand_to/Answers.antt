use Rattle.jwalk.proofs.EachFacts.{may_call}
use Rattle.jwalk.proofs.walk_dir.handed.hand_to.Goals as goal

pub for_each-requires-clause-callable : goal.for_each-requires-clause-callable
for_each-requires-clause-callable g c = record { at = λ xs t q x u yields folds step. may_call g.F.FnMut _ (λ p x q called. (tt, called)) xs c.args.f q x c.requires.callable folds }

pub returns : goal.returns
returns g c = c.for_each.ensures.ran
