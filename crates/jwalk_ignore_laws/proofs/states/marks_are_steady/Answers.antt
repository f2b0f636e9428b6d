use Rattle.std.proofs.Common.{ap, ap₂, refl}
use Rattle.jwalk_model.specs.Counted.{both}
use Rattle.jwalk_ignore.specs.Callback.Given.{lists_kept}
use Rattle.jwalk_ignore.specs.Callback.States.{beside}
use Rattle.jwalk_ignore.specs.Rules.ChainWorth.{bool_worth, chain_worth}
use Rattle.jwalk_ignore_laws.proofs.states.marks_are_steady.Goals as goal

pub returns : goal.returns
returns c = record {
  file_system = tt;
  callback = (tt, (λ state. bool_worth (beside state)), ((λ state. refl), (λ old new same. ap bool_worth same)), lists_kept, (λ depth path state list h. h), (λ depth path state list. refl), (λ depth path state list. refl));
  clones = λ x y is. ap₂ (λ chain b. both (chain_worth chain) (bool_worth b)) is.0 is.1;
  default = λ x is. ap bool_worth is;
}
