-- What is given of a walk that honours ignore files, and has no other callback.
use Rattle.std.specs.Prelude.{true, false, []}
use Rattle.jwalk.specs.jwalk_model.Counted.{Worth, blank, both}
use Rattle.jwalk.specs.jwalk_model.FileSystem.{Functions}
use Rattle.jwalk.specs.jwalk_model.Job.{Job, KeepsDepthsOf, Processing}
use Rattle.jwalk.specs.jwalk_model.Options.{Options}
use Rattle.jwalk.specs.jwalk_model.ReadDir.{list_depth}
use Rattle.jwalk.specs.jwalk_job.Given.{Given}
use Rattle.jwalk_ignore.specs.Rules.Chain.{Chain, no_rules}
use Rattle.jwalk_ignore.specs.Rules.ChainWorth.{chain_worth, rules_of, with_chain}
use Rattle.jwalk_ignore.specs.Callback.IgnoreViews.{ignoring}
use Rattle.jwalk_ignore.specs.Callback.IgnoreFiles.{Made, by_rules}
use Rattle.jwalk_ignore.specs.Callback.MadeDepths.{by_rules_at}
use Rattle.jwalk_ignore.specs.Rules.Texts.{Texts}
use Rattle.jwalk_ignore.specs.Callback.Settings.{Settings}

-- A callback that is given what rules leave keeps depths with them.
pub ignoring-KeepsDepthsOf : (settings : Settings) (texts : Texts) (next : Processing Worth Worth) → KeepsDepthsOf next → KeepsDepthsOf (ignoring settings texts next)
ignoring-KeepsDepthsOf settings texts next keeps depth path state list h =
    let left : Made Worth Worth = by_rules settings texts depth path (rules_of state) list in
    keeps depth path (with_chain left.chain state) left.list (by_rules_at (list_depth depth) settings texts depth path (rules_of state) list h)

-- what a new callback is set to: hidden names are dropped, `.gitignore` counts in repositories alone, rules above the root count, `.fdignore` doesn't, errors stay, and no rules are given
abbrev pub first_settings : Settings
first_settings = record { keeps_hidden = false; anywhere = false; version_control = true; above_the_root = true; fdignore = false; drops_errors = false; given = [] }

-- lists stay as they are
abbrev pub lists_kept : Processing Worth Worth
lists_kept depth path state list = record { state = state; list = list }

-- what the state of a directory counts as: the rules that it holds, beside nothing
abbrev pub rules_alone : {R : Type 0} → (R → Chain) → R → Worth
rules_alone rules_in state = both (chain_worth (rules_in state)) blank

-- what is given: states of directories count as the rules in force alone, and rules drop what they ignore
abbrev pub ignoring_alone : {R E : Type 0} → (R → Chain) → Settings → Texts → Given R E
ignoring_alone rules_in settings texts = record {
  read_dir_state = rules_alone rules_in;
  dir_entry_state = λ _. blank;
  processed = ignoring settings texts lists_kept;
  keeps_depths = ignoring-KeepsDepthsOf settings texts lists_kept (λ depth path state list h. h);
  new_entry = blank;
}

-- readings of a file system that honour ignore files
abbrev pub job_ignoring : Settings → Texts → Functions → Options → Job Worth Worth
job_ignoring settings texts fs options = record { fs = fs; options = options; processed = ignoring settings texts lists_kept; default = blank }

-- the state of a root without rules
abbrev pub no_rules_yet : Worth
no_rules_yet = both (chain_worth no_rules) blank
