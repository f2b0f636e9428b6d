-- Rules that are in force, beside states of another callback.
use Rattle.std.specs.Prelude.{Bool, false}
use Rattle.jwalk.specs.jwalk_job.Given.{Given}
use Rattle.jwalk_model.specs.Counted.{Worth, both}
use Rattle.jwalk_ignore.specs.Callback.Given.{ignoring-KeepsDepthsOf, lists_kept}
use Rattle.jwalk_ignore.specs.Callback.IgnoreViews.{ignoring}
use Rattle.jwalk_ignore.specs.Callback.Settings.{Settings}
use Rattle.jwalk_ignore.specs.Callback.States.{beside, first_rules}
use Rattle.jwalk_ignore.specs.Rules.ChainWorth.{bool_worth, chain_worth}
use Rattle.jwalk_ignore.specs.Rules.Texts.{Texts}
use Rattle.jwalk_ignore_rules.specs.declared.rules.chain.Chain.{Chain}

-- what the state of a directory counts as: the rules in force, beside its mark
abbrev pub rules_and_mark : {A : Type 0} → Chain A × Bool → Worth
rules_and_mark state = both (chain_worth (first_rules state)) (bool_worth (beside state))

-- what is given of a walk with rules alone, whose directories and entries have marks
abbrev pub rules_and_marks : {A : Type 0} → Settings → Texts → Given (Chain A × Bool) Bool
rules_and_marks settings texts = record {
  read_dir_state = rules_and_mark;
  dir_entry_state = bool_worth;
  processed = ignoring settings texts lists_kept;
  keeps_depths = ignoring-KeepsDepthsOf settings texts lists_kept (λ depth path state list h. h);
  new_entry = bool_worth false;
}
