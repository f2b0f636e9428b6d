use Rattle.jwalk_usage_laws.proofs.AgreementFacts.{kept_is_what_asking_returns}
use Rattle.jwalk_usage_laws.proofs.agreement.kept_is_what_asking_returns.Goals as goal

pub returns : goal.returns
returns c = kept_is_what_asking_returns
