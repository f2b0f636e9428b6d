-- The answers of the walks that a call counts, whatever the disk and the texts return.
use Rattle.std.specs.Prelude.{◌≡◌, ℕ, Bool, false, List, Option, Result, is_some, MatchBool}
use Rattle.std.specs.Arc.{arc_value}
use Rattle.std.specs.Iterator.{Drains}
use Rattle.std.specs.declared.sync.Arc.{Arc}
use Rattle.jwalk.specs.jwalk_model.Counted.{Worth}
use Rattle.jwalk.specs.jwalk_model.Entry.{Item}
use Rattle.jwalk.specs.jwalk_model.FileSystem.{Functions}
use Rattle.jwalk.specs.jwalk_model.Options.{with_skip_hidden}
use Rattle.jwalk.specs.jwalk_job.Given.{Given, counted_list}
use Rattle.jwalk.specs.jwalk_job.declared.dir_entry.DirEntry.{DirEntry}
use Rattle.jwalk.specs.jwalk_job.declared.error.Error.{Error}
use Rattle.jwalk.specs.WalkDir.{callback_of, described, file_system_of, options_of, root_of, state_of, Starts}
use Rattle.jwalk.specs.declared.crew.Crew.{Crew}
use Rattle.jwalk.specs.declared.crew.Session.{Session}
use Rattle.jwalk.specs.DirEntryIter.{DirEntryIter}
use Rattle.jwalk.specs.declared.walk_dir.WalkDirGeneric.{WalkDirGeneric}
use Rattle.jwalk_ignore.specs.Callback.Excluding.{excluded_of}
use Rattle.jwalk_ignore.specs.Callback.IgnoreViews.{next_of, settings_of, texts_of}
use Rattle.jwalk_ignore.specs.Callback.States.{rules_held}
use Rattle.jwalk_ignore.specs.Rules.Chain.{no_rules}
use Rattle.jwalk_ignore.specs.declared.callback.excluding.Excluding.{Excluding}
use Rattle.jwalk_ignore.specs.declared.callback.ignore_files.IgnoreFiles.{IgnoreFiles}
use Rattle.jwalk_ignore.specs.declared.callback.states.RulesState.{RulesState}
use Rattle.program_walks.specs.Crew.{CrewCallsOf, ReadsBy, with_crew}
use Rattle.program_walks.specs.Folders.{IsCrewAt}
use Rattle.tally_words.specs.declared.asked.Asked.{Asked}
use Rattle.tally_run.specs.FollowedRoot.{disk_in, root_in}
use Rattle.tally_run.specs.OneDevice.{on_devices}
use Rattle.tally_run.specs.Walks.{excluded_asked, options_asked, settings_asked}
use Rattle.tally_run.specs.declared.followed_root.FollowedRoot.{FollowedRoot}

-- A walk with these facts was begun and yielded answers until its end. These are the answers, by what their states count as, but for those on other devices if one file system is asked for.
pub record Walked {T C S P A R E : Type 0} (calls : CrewCallsOf T C S P A R E) (is : WalkDirGeneric C S P A (Crew T) R E → Type 0) (one : Bool) (answers : List (Item Worth Worth)) : Type 0 where
  pub walk : WalkDirGeneric C S P A (Crew T) R E
  pub is_so : is walk
  pub it : DirEntryIter C S P A (Session T C S P A R E) R E
  pub starts : Starts walk it
  pub yielded : List (Result (DirEntry C A R E) (Error A))
  pub drains : Drains calls it yielded
  pub given : Given R E
  pub counted : on_devices one (counted_list given yielded) ≡ answers

-- the callback of walks that honour the ignore files of these texts
abbrev pub Honours : Type 0 → Type 0 → Type 0
Honours X B = IgnoreFiles (Arc X B) Excluding

-- The walk over this disk below this root, without ignore files. This crew reads for it, if there is one.
pub record IsPlain {T C Z B A R E : Type 0} (disk : Z) (crew : Option (Arc (Crew T) A)) (asked : Asked) (root : List ℕ) (walk : WalkDirGeneric C (Arc (FollowedRoot Z) B) Excluding A (Crew T) R E) : Type 0 where
  pub over : disk_in (file_system_of walk) ≡ disk
  pub leads_on : root_in (file_system_of walk) ≡ root
  pub below : root_of walk ≡ root
  pub options : options_of walk ≡ with_crew (is_some crew) (options_asked asked)
  pub by : ReadsBy crew (described walk).crew
  pub excluded : excluded_of (callback_of walk) ≡ excluded_asked asked root

-- The walk over this disk below this root that honours the ignore files of these texts. It begins without rules, and is shown hidden names.
pub record IsHonouring {T C Z B X A E : Type 0} (disk : Z) (texts : X) (crew : Option (Arc (Crew T) A)) (asked : Asked) (root : List ℕ) (walk : WalkDirGeneric C (Arc (FollowedRoot Z) B) (Honours X B) A (Crew T) RulesState E) : Type 0 where
  pub over : disk_in (file_system_of walk) ≡ disk
  pub leads_on : root_in (file_system_of walk) ≡ root
  pub below : root_of walk ≡ root
  pub options : options_of walk ≡ with_skip_hidden false (with_crew (is_some crew) (options_asked asked))
  pub by : ReadsBy crew (described walk).crew
  pub texts_read : arc_value (texts_of (callback_of walk)) ≡ texts
  pub settings : settings_of (callback_of walk) ≡ settings_asked asked
  pub excluded : excluded_of (next_of (callback_of walk)) ≡ excluded_asked asked root
  pub begins : rules_held (state_of walk) ≡ no_rules

module _ {T C Z B X A E G H F : Type 0} (plain : CrewCallsOf T G (Arc (FollowedRoot Z) B) Excluding A H F) (honouring : CrewCallsOf T C (Arc (FollowedRoot Z) B) (Honours X B) A RulesState E) where
  -- The answers are those of the walk that is asked for below this root, for which this crew reads, if there is one.
  abbrev pub YieldedBy : Z → X → Option (Arc (Crew T) A) → Asked → List ℕ → List (Item Worth Worth) → Type 0
  YieldedBy disk texts crew asked root answers =
      MatchBool asked.ignore (Walked honouring (IsHonouring disk texts crew asked root) asked.one_file_system answers) (Walked plain (IsPlain disk crew asked root) asked.one_file_system answers)

  -- The same, where the crew reads below directories that others may be in alone.
  pub record YieldedBelow (fixed : Type 0) (fs : Functions) (disk : Z) (texts : X) (crew : Option (Arc (Crew T) A)) (asked : Asked) (root : List ℕ) (answers : List (Item Worth Worth)) : Type 0 where
    pub reads : Option (Arc (Crew T) A)
    pub by : IsCrewAt fixed fs asked.follow crew root reads
    pub yielded : YieldedBy disk texts reads asked root answers
