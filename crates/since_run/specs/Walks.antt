-- What of a tree a walk yields, by what is chosen.
use Rattle.std.specs.Prelude.{ℕ, Bool, true, false, not, ◌&&◌, List, if◌then◌else◌}
use Rattle.jwalk.specs.jwalk_model.Counted.{Worth, blank}
use Rattle.jwalk.specs.jwalk_model.Entry.{Item}
use Rattle.jwalk.specs.jwalk_model.FileSystem.{Functions}
use Rattle.jwalk.specs.jwalk_model.Options.{Options, defaults, with_max_depth}
use Rattle.jwalk.specs.jwalk_model.Walk.{stateless_walk, whole_walk}
use Rattle.jwalk_ignore.specs.Callback.Excluding.{Excluded, excluded_by, excluding}
use Rattle.jwalk_ignore.specs.Callback.Given.{first_settings}
use Rattle.jwalk_ignore.specs.Callback.Kept.{ignoring_walk, job_with}
use Rattle.jwalk_ignore.specs.Callback.Settings.{Settings}
use Rattle.jwalk_ignore.specs.Rules.Texts.{Texts}
use Rattle.since_parts.specs.Choice.{depth_of, lines_in}
use Rattle.since_parts.specs.declared.choice.Choice.{Choice}

-- the options of the walk: all that is chosen, in the order of names. Entries keep their metadata, unless names and types are enough
abbrev pub options_for : Bool → Choice → Options
options_for quick choice =
    with_max_depth (depth_of choice) (record defaults { sort = true; skip_hidden = choice.exclude_hidden; same_file_system = choice.one_file_system; keep_metadata = not quick })

-- what the lines that are chosen leave out below a root, with its errors; where a walk without ignore files skips hidden names, theirs are left out too
abbrev pub excluded_for : Choice → List ℕ → Excluded
excluded_for choice root = record (excluded_by (lines_in choice) root) {
  drops_errors = true;
  drops_hidden = choice.exclude_hidden && not choice.ignore;
}

-- how ignore files are used
abbrev pub settings_for : Choice → Settings
settings_for choice = record first_settings { keeps_hidden = not choice.exclude_hidden; drops_errors = true }

-- all that is chosen below a root, whatever ignore files say
abbrev pub all_below : Functions → Choice → List ℕ → List (Item Worth Worth)
all_below fs choice root = whole_walk (job_with fs (options_for false choice) (excluding (excluded_for choice root))) root blank

-- what ignore files leave of it
abbrev pub kept_below : Functions → Texts → Choice → List ℕ → List (Item Worth Worth)
kept_below fs texts choice root = ignoring_walk fs texts (settings_for choice) (excluded_for choice root) (options_for false choice) root

-- all that is chosen below a root
abbrev pub chosen_below : Functions → Texts → Choice → List ℕ → List (Item Worth Worth)
chosen_below fs texts choice root = if choice.ignore then kept_below fs texts choice root else all_below fs choice root

-- the same by names and types alone, where no rules are chosen
abbrev pub typed_below : Functions → Choice → List ℕ → List (Item Worth Worth)
typed_below fs choice root = stateless_walk fs (options_for true choice) root
