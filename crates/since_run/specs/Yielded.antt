-- The answers of walks, whatever the disk and the texts return.
use Rattle.std.specs.Prelude.{◌≡◌, ℕ, false, true, List, Option, Result, is_some}
use Rattle.std.specs.Arc.{arc_value}
use Rattle.std.specs.Iterator.{Drains}
use Rattle.std.specs.declared.alloc.Global.{Global}
use Rattle.std.specs.declared.sync.Arc.{Arc}
use Rattle.jwalk.specs.jwalk_model.Counted.{Worth}
use Rattle.jwalk.specs.jwalk_model.Entry.{Item}
use Rattle.jwalk.specs.jwalk_model.Options.{with_skip_hidden}
use Rattle.jwalk.specs.jwalk_job.Given.{Given, counted_list}
use Rattle.jwalk.specs.jwalk_job.declared.dir_entry.DirEntry.{DirEntry}
use Rattle.jwalk.specs.jwalk_job.declared.error.Error.{Error}
use Rattle.jwalk.specs.jwalk_job.declared.process_read_dir.NoProcess.{NoProcess}
use Rattle.jwalk.specs.jwalk_fs.declared.file_system.FileSystem as FileSystem
use Rattle.jwalk.specs.WalkDir.{callback_of, described, file_system_of, options_of, root_of, state_of, Starts}
use Rattle.jwalk.specs.declared.crew.Crew.{Crew}
use Rattle.jwalk.specs.declared.crew.Session.{Session}
use Rattle.jwalk.specs.DirEntryIter.{DirEntryIter}
use Rattle.jwalk.specs.declared.walk_dir.WalkDirGeneric.{WalkDirGeneric}
use Rattle.jwalk_ignore.specs.Callback.Excluding.{excluded_of}
use Rattle.jwalk_ignore.specs.Callback.IgnoreViews.{next_of, settings_of, texts_of}
use Rattle.jwalk_ignore.specs.Callback.States.{rules_held}
use Rattle.jwalk_ignore.specs.Rules.Chain.{no_rules}
use Rattle.jwalk_ignore.specs.declared.callback.excluding.Excluding.{Excluding}
use Rattle.jwalk_ignore.specs.declared.callback.ignore_files.IgnoreFiles.{IgnoreFiles}
use Rattle.jwalk_ignore.specs.declared.callback.states.RulesState.{RulesState}
use Rattle.jwalk_ignore_rules.specs.declared.rules.texts.Texts as Texts
use Rattle.jwalk_indexed_fs.specs.declared.indexed_fs.IndexedFs.{IndexedFs}
use Rattle.program_walks.specs.Crew.{CrewCallsOf, ReadsBy, with_crew}
use Rattle.since_parts.specs.declared.choice.Choice.{Choice}
use Rattle.since_run.specs.Walks.{excluded_for, options_for, settings_for}

-- A walk with these facts was begun and yielded answers until its end. These are the answers, by what their states count as.
pub record Walked {T C S P R E : Type 0} (calls : CrewCallsOf T C S P Global R E) (is : WalkDirGeneric C S P Global (Crew T) R E → Type 0) (answers : List (Item Worth Worth)) : Type 0 where
  pub walk : WalkDirGeneric C S P Global (Crew T) R E
  pub is_so : is walk
  pub it : DirEntryIter C S P Global (Session T C S P Global R E) R E
  pub starts : Starts walk it
  pub yielded : List (Result (DirEntry C Global R E) (Error Global))
  pub drains : Drains calls it yielded
  pub given : Given R E
  pub counted : counted_list given yielded ≡ answers

-- the callback of walks that honour the ignore files of these texts
abbrev pub Honours : Type 0 → Type 0
Honours X = IgnoreFiles (Arc X Global) Excluding

-- the states of walks without ignore files, and of walks with them
abbrev pub NoStates : Type 0
NoStates = Unit {0} × Unit {0}

abbrev pub OnlyRules : Type 0
OnlyRules = RulesState × Unit {0}

-- What a disk and ignore files return, and the walks over them: one without ignore files, one with them, and one by names and types over a disk with the records of a snapshot.
pub record Walks (T Z X : Type 0) : Type 1 where
  pub files : FileSystem.Ghosts Z
  pub texts : Texts.Ghosts X
  pub plain : CrewCallsOf T NoStates (Arc Z Global) Excluding Global (Unit {0}) (Unit {0})
  pub honouring : CrewCallsOf T OnlyRules (Arc Z Global) (Honours X) Global RulesState (Unit {0})
  pub quick : CrewCallsOf T NoStates (Arc (IndexedFs Z) Global) NoProcess Global (Unit {0}) (Unit {0})

-- The walk over this disk below this root, of what is chosen, without ignore files. This crew reads for it, if there is one.
pub record IsPlain {T C Z R E : Type 0} (disk : Z) (crew : Option (Arc (Crew T) Global)) (choice : Choice) (root : List ℕ) (walk : WalkDirGeneric C (Arc Z Global) Excluding Global (Crew T) R E) : Type 0 where
  pub over : arc_value (file_system_of walk) ≡ disk
  pub below : root_of walk ≡ root
  pub options : options_of walk ≡ with_crew (is_some crew) (options_for false choice)
  pub by : ReadsBy crew (described walk).crew
  pub excluded : excluded_of (callback_of walk) ≡ excluded_for choice root

-- The same walk that honours the ignore files of these texts. It begins without rules, and is shown hidden names.
pub record IsHonouring {T C Z X E : Type 0} (disk : Z) (texts : X) (crew : Option (Arc (Crew T) Global)) (choice : Choice) (root : List ℕ) (walk : WalkDirGeneric C (Arc Z Global) (Honours X) Global (Crew T) RulesState E) : Type 0 where
  pub over : arc_value (file_system_of walk) ≡ disk
  pub below : root_of walk ≡ root
  pub options : options_of walk ≡ with_skip_hidden false (with_crew (is_some crew) (options_for false choice))
  pub by : ReadsBy crew (described walk).crew
  pub texts_read : arc_value (texts_of (callback_of walk)) ≡ texts
  pub settings : settings_of (callback_of walk) ≡ settings_for choice
  pub excluded : excluded_of (next_of (callback_of walk)) ≡ excluded_for choice root
  pub begins : rules_held (state_of walk) ≡ no_rules

-- The walk over this disk below this root by names and types alone, without rules.
pub record IsTyped {T C Z N R E : Type 0} (disk : Z) (crew : Option (Arc (Crew T) Global)) (choice : Choice) (root : List ℕ) (walk : WalkDirGeneric C (Arc Z Global) N Global (Crew T) R E) : Type 0 where
  pub over : arc_value (file_system_of walk) ≡ disk
  pub below : root_of walk ≡ root
  pub options : options_of walk ≡ with_crew (is_some crew) (options_for true choice)
  pub by : ReadsBy crew (described walk).crew
