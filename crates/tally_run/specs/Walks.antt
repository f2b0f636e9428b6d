-- What is counted below a root, and how.
use Rattle.std.specs.Prelude.{◌≡◌, ℕ, ◌-◌, ◌^◌, true, not, ◌&&◌, List, map, Option, Result, if◌then◌else◌}
use Rattle.std.specs.Iterator.{Drains}
use Rattle.std.specs.List.{list_all}
use Rattle.std.specs.declared.clone.Clone as Clone
use Rattle.std.specs.declared.default.Default as Default
use Rattle.jwalk.specs.jwalk_model.Counted.{Worth, blank}
use Rattle.jwalk.specs.jwalk_model.declared.metadata.Identity.{Identity}
use Rattle.jwalk.specs.jwalk_model.Entry.{Item}
use Rattle.jwalk.specs.jwalk_model.FileSystem.{Functions}
use Rattle.jwalk.specs.jwalk_model.Options.{Options, defaults}
use Rattle.jwalk.specs.jwalk_model.Walk.{whole_walk}
use Rattle.jwalk.specs.jwalk_fs.declared.file_system.FileSystem as FileSystem
use Rattle.jwalk.specs.jwalk_job.declared.process_read_dir.ProcessReadDir as ProcessReadDir
use Rattle.jwalk.specs.jwalk_job.declared.dir_entry.DirEntry.{DirEntry}
use Rattle.jwalk.specs.jwalk_job.declared.error.Error.{Error}
use Rattle.jwalk.specs.jwalk_job.Entry.{item}
use Rattle.jwalk.specs.jwalk_job.Given.{Given, counted_item}
use Rattle.jwalk.specs.jwalk_job.Job.{IsSteady}
use Rattle.jwalk.specs.DirEntryIter.{DirEntryIter}
use Rattle.jwalk.specs.WalkDir.{Starts, callback_of, file_system_of, job_for, root_of, state_of}
use Rattle.jwalk.specs.declared.walk_dir.WalkDirGeneric.{WalkDirGeneric}
use Rattle.jwalk_ignore.specs.Callback.Excluding.{Excluded, excluded_by, excluding}
use Rattle.jwalk_ignore.specs.Callback.Given.{first_settings}
use Rattle.jwalk_ignore.specs.Callback.Kept.{ignoring_walk, job_with}
use Rattle.jwalk_ignore.specs.Rules.Texts.{Texts}
use Rattle.jwalk_ignore.specs.Callback.Settings.{Settings}
use Rattle.jwalk_subtotals.specs.Counted.{HaveSame, files_after}
use Rattle.jwalk_subtotals.specs.Files.{files_of}
use Rattle.jwalk_subtotals.specs.Subtotals.{subtotals_beside}
use Rattle.jwalk_subtotals.specs.declared.options.SubtotalOptions.{SubtotalOptions}
use Rattle.program_parts.specs.Values.{texts_of}
use Rattle.program_walks.specs.Crew.{CallsOf}
use Rattle.tally_words.specs.declared.asked.Asked.{Asked}
use Rattle.tally_run.specs.Counting.{is_clean}
use Rattle.tally_run.specs.FollowedRoot.{functions_from}
use Rattle.tally_run.specs.OneDevice.{on_devices}
use Rattle.tally_run.specs.Results.{Takes, rows_of}
use Rattle.tally_run.specs.Shown.{shown_asked}
use Rattle.tally_run.specs.declared.counting.Counted.{Counted}
use Rattle.tally_run.specs.declared.results.Results.{Results}

-- what of subtotals is asked for: all of them
abbrev pub subtotals_asked : Asked → SubtotalOptions
subtotals_asked asked = record { apparent = asked.apparent; each_name = asked.each_name; all = true; max_depth = 2 ^ 64 - 1 }

-- those that are taken: of directories and of what could not be read, and of all entries only where they are written
abbrev pub subtotals_taken : Asked → SubtotalOptions
subtotals_taken asked = record (subtotals_asked asked) { all = asked.all }

-- the options of walks, by what is asked for. Whether a crew reads makes no difference to what they yield.
abbrev pub options_asked : Asked → Options
options_asked asked = record defaults {
  sort = asked.sort;
  skip_hidden = asked.exclude_hidden;
  follow_links = asked.follow;
  same_file_system = asked.one_file_system;
  keep_metadata = true;
}

-- what is left out below a root, with its errors; where a walk without ignore files skips hidden names, theirs are left out too
abbrev pub excluded_asked : Asked → List ℕ → Excluded
excluded_asked asked root = record (excluded_by (texts_of asked.excludes.items) root) {
  drops_errors = true;
  drops_hidden = asked.exclude_hidden && not asked.ignore;
}

-- how ignore files are used
abbrev pub settings_asked : Asked → Settings
settings_asked asked = record first_settings { keeps_hidden = not asked.exclude_hidden; drops_errors = true }

-- all that a walk below a root yields, whatever ignore files say. A root that is a link is what it leads to.
abbrev pub all_below : Functions → Asked → List ℕ → List (Item Worth Worth)
all_below fs asked root = whole_walk (job_with (functions_from root fs) (options_asked asked) (excluding (excluded_asked asked root))) root blank

-- what ignore files leave of it
abbrev pub kept_below : Functions → Texts → Asked → List ℕ → List (Item Worth Worth)
kept_below fs texts asked root = ignoring_walk (functions_from root fs) texts (settings_asked asked) (excluded_asked asked root) (options_asked asked) root

-- all that is counted below a root: on its own device alone, if one file system is asked for
abbrev pub counted_below : Functions → Texts → Asked → List ℕ → List (Item Worth Worth)
counted_below fs texts asked root = on_devices asked.one_file_system (if asked.ignore then kept_below fs texts asked root else all_below fs asked root)

-- What is written of the subtotals of answers below a root is taken, beside the files that were counted before. It is known whether one has an error, and which files are counted now.
pub record TakesSubtotals {R E : Type 0} (asked : Asked) (root : List ℕ) (known : List Identity) (answered : List (Item R E)) (old : Results) (before : Option (List ℕ)) (new : Results) (after : Option (List ℕ)) (counted : Counted) : Type 0 where
  pub taken : Takes (rows_of root (shown_asked asked) (subtotals_beside (subtotals_asked asked) known answered)) old before new after
  pub tells : counted.clean ≡ list_all is_clean (subtotals_beside (subtotals_asked asked) known answered)
  pub remembered : HaveSame (files_of counted.files) (files_after (subtotals_asked asked) known answered)

-- An iterator yielded answers until its end, and these are counted.
pub record CountsAnswers {C A I R E : Type 0} (next : I → Option (Result (DirEntry C A R E) (Error A)) → I → Type 0) (answers : I) (asked : Asked) (root : List ℕ) (known : List Identity) (old : Results) (before : Option (List ℕ)) (new : Results) (after : Option (List ℕ)) (counted : Counted) : Type 0 where
  pub yielded : List (Result (DirEntry C A R E) (Error A))
  pub drains : Drains next answers yielded
  pub takes : TakesSubtotals asked root known (map item yielded) old before new after counted

-- A walk was begun and yielded these answers until its end.
abbrev pub WalkYields : {C S P A W L R E : Type 0} → CallsOf C S P A L R E → WalkDirGeneric C S P A W R E → List (Item R E) → Type 0
WalkYields {C} {S} {P} {A} {W} {L} {R} {E} calls walk answered =
    (it : DirEntryIter C S P A L R E) × Starts walk it × (yielded : List (Result (DirEntry C A R E) (Error A))) × Drains calls it yielded × (map item yielded ≡ answered)

-- A walk yielded answers until its end, and these are counted, but for those on other devices if one file system is asked for. If none has an error, and what the walk goes over always answers the same, the answers are the whole walk.
pub record CountsWalk {C S P A W L R E : Type 0} (files : FileSystem.Ghosts S) (process : ProcessReadDir.Ghosts P C A R E) (clone : Clone.Ghosts R) (defaults : Default.Ghosts E) (calls : CallsOf C S P A L R E) (walk : WalkDirGeneric C S P A W R E) (asked : Asked) (root : List ℕ) (known : List Identity) (old : Results) (before : Option (List ℕ)) (new : Results) (after : Option (List ℕ)) (counted : Counted) : Type 0 where
  pub answered : List (Item R E)
  pub walked : WalkYields calls walk answered
  pub whole : counted.clean ≡ true → (given : Given R E) → IsSteady files process clone defaults (file_system_of walk) (callback_of walk) given
      → map (counted_item given) answered ≡ whole_walk (job_for files given walk) (root_of walk) (given.read_dir_state (state_of walk))
  pub takes : TakesSubtotals asked root known (on_devices asked.one_file_system answered) old before new after counted

-- Answers of a walk are counted, and these are possible. If none has an error, and what the walk goes over always returns the same, they are all that is below a root, by value.
pub record CountsBelow (fixed : Type 0) (are : List (Item Worth Worth) → Type 0) (below : List (Item Worth Worth)) (asked : Asked) (root : List ℕ) (known : List Identity) (old : Results) (before : Option (List ℕ)) (new : Results) (after : Option (List ℕ)) (counted : Counted) : Type 0 where
  pub answered : List (Item Worth Worth)
  pub such : are answered
  pub whole : fixed → counted.clean ≡ true → answered ≡ below
  pub takes : TakesSubtotals asked root known answered old before new after counted
