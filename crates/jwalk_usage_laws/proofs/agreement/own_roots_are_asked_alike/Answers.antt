use Rattle.jwalk_usage_laws.proofs.AgreementFacts.{own_roots_are_asked_alike}
use Rattle.jwalk_usage_laws.proofs.agreement.own_roots_are_asked_alike.Goals as goal

pub returns : goal.returns
returns c = own_roots_are_asked_alike
