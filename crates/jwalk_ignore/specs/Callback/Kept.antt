-- What is given of walks from which lines leave something out, with ignore files and without.
use Rattle.std.specs.Prelude.{ℕ, false, List}
use Rattle.jwalk.specs.jwalk_model.Counted.{Worth, blank}
use Rattle.jwalk.specs.jwalk_model.Entry.{Item}
use Rattle.jwalk.specs.jwalk_model.FileSystem.{Functions}
use Rattle.jwalk.specs.jwalk_model.Job.{Job, Processing}
use Rattle.jwalk.specs.jwalk_model.Options.{Options, with_skip_hidden}
use Rattle.jwalk.specs.jwalk_model.Walk.{whole_walk}
use Rattle.jwalk.specs.jwalk_job.Given.{Given}
use Rattle.jwalk_ignore.specs.Callback.Excluding.{Excluded, excluding, excluding-KeepsDepthsOf}
use Rattle.jwalk_ignore.specs.Callback.Given.{ignoring-KeepsDepthsOf, no_rules_yet, rules_alone}
use Rattle.jwalk_ignore.specs.Callback.IgnoreViews.{ignoring}
use Rattle.jwalk_ignore.specs.Rules.Chain.{Chain}
use Rattle.jwalk_ignore.specs.Rules.Texts.{Texts}
use Rattle.jwalk_ignore.specs.Callback.Settings.{Settings}

-- readings that make this of lists
abbrev pub job_with : Functions → Options → Processing Worth Worth → Job Worth Worth
job_with fs options processed = record { fs = fs; options = options; processed = processed; default = blank }

-- what is given of walks without ignore files: states count as nothing
abbrev pub given_excluding : {R E : Type 0} → Excluded → Given R E
given_excluding excluded = record {
  read_dir_state = λ _. blank;
  dir_entry_state = λ _. blank;
  processed = excluding excluded;
  keeps_depths = excluding-KeepsDepthsOf excluded;
  new_entry = blank;
}

-- and of walks that honour them: states of directories count as the rules that they hold
abbrev pub given_kept : {R E : Type 0} → (R → Chain) → Settings → Texts → Excluded → Given R E
given_kept rules_in settings texts excluded = record {
  read_dir_state = rules_alone rules_in;
  dir_entry_state = λ _. blank;
  processed = ignoring settings texts (excluding excluded);
  keeps_depths = ignoring-KeepsDepthsOf settings texts (excluding excluded) (excluding-KeepsDepthsOf excluded);
  new_entry = blank;
}

-- all that a walk yields that honours ignore files. It is shown hidden names, and drops them itself unless they are asked for.
abbrev pub ignoring_walk : Functions → Texts → Settings → Excluded → Options → List ℕ → List (Item Worth Worth)
ignoring_walk fs texts settings excluded options root =
    whole_walk (job_with fs (with_skip_hidden false options) (ignoring settings texts (excluding excluded))) root no_rules_yet
