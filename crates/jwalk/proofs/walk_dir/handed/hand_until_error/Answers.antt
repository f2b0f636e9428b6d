use Rattle.std.proofs.Common.{◌≡◌, refl}
use Rattle.jwalk.proofs.EachFacts.{may_call, calls_until}
use Rattle.jwalk.proofs.walk_dir.handed.hand_until_error.Goals as goal

pub try_for_each-requires-clause-callable : goal.try_for_each-requires-clause-callable
try_for_each-requires-clause-callable g c = record { at = λ xs t q x u yields folds step. may_call g.F.FnMut _ (λ p x q goes. (goes.0, goes.1)) xs c.args.f q x c.requires.callable folds }

pub returns : goal.returns
returns g c =
    let ran = c.try_for_each.ensures.ran in
    calls_until g.F.FnMut (λ it. it ≡ c.args.walk) _ (λ e. e.0) c.args.f _ c.args.walk _ refl ran.0 ran.1 ran.2 ran.3 ran.4 ran.5
