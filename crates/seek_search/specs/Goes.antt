-- The answers of a search, whatever the disk and the texts answer.
use Rattle.std.specs.Prelude.{◌≡◌, ◌⊎◌, ℕ, Bool, true, false, List, Option, Some, Result, is_some, MatchBool}
use Rattle.std.specs.Arc.{arc_value}
use Rattle.std.specs.Iterator.{Drains, Yields}
use Rattle.std.specs.List.{list_all, list_any}
use Rattle.std.specs.declared.sync.Arc.{Arc}
use Rattle.jwalk.specs.jwalk_model.Counted.{Worth}
use Rattle.jwalk.specs.jwalk_model.Entry.{Item}
use Rattle.jwalk.specs.jwalk_model.FileSystem.{Functions}
use Rattle.jwalk.specs.jwalk_model.Options.{with_skip_hidden}
use Rattle.jwalk.specs.jwalk_job.Given.{counted_list}
use Rattle.jwalk_job.specs.declared.dir_entry.DirEntry.{DirEntry}
use Rattle.jwalk_job.specs.declared.error.Error.{Error}
use Rattle.jwalk.specs.WalkDir.{callback_of, described, file_system_of, options_of, root_of, state_of, stateless, BeginsAtRoot, Starts}
use Rattle.jwalk.specs.declared.crew.Crew.{Crew}
use Rattle.jwalk.specs.declared.crew.Session.{Session}
use Rattle.jwalk.specs.DirEntryIter.{DirEntryIter}
use Rattle.jwalk.specs.declared.walk_dir.WalkDirGeneric.{WalkDirGeneric}
use Rattle.jwalk_ignore.specs.Callback.IgnoreViews.{next_of, settings_of, texts_of}
use Rattle.jwalk_ignore.specs.Callback.States.{rules_held}
use Rattle.jwalk_ignore.specs.Rules.Chain.{no_rules}
use Rattle.jwalk_ignore.specs.Rules.Texts.{Texts}
use Rattle.user_excludes.specs.Home.{home_value}
use Rattle.user_excludes.specs.UserTexts.{home_of, texts_behind}
use Rattle.user_excludes.specs.declared.home.Home.{Home}
use Rattle.user_excludes.specs.declared.user_texts.UserTexts.{UserTexts}
use Rattle.seek_words.specs.declared.asked.Asked.{Asked}
use Rattle.seek_words.specs.declared.screen.Screen.{Screen}
use Rattle.seek_words.specs.Sought.{Sought}
use Rattle.seek_found.specs.Found.{is_clean, IfAsked}
use Rattle.seek_found.specs.Limit.{is_hit}
use Rattle.seek_found.specs.Prune.{unpruned}
use Rattle.seek_found.specs.Roots.{AreBelow, Below, PrintsSuch}
use Rattle.seek_found.specs.declared.call.Ended.{Ended}
use Rattle.program_walks.specs.Crew.{CrewCallsOf, IsCrewOf, ReadsBy, threads_in, with_crew}
use Rattle.program_walks.specs.Folders.{IsCrewAt}
use Rattle.jwalk.specs.jwalk_callbacks.Both.{first_of, second_of}
use Rattle.jwalk.specs.jwalk_callbacks.declared.both.Both.{Both}
use Rattle.jwalk_ignore.specs.Callback.Excluding.{excluded_of}
use Rattle.seek_search.specs.Printing.{IsFront}
use Rattle.seek_search.specs.RulesRead.{home_asked, lines_asked}
use Rattle.seek_search.specs.Search.{excluded_asked, form_before, limit_asked, named_below, options_asked, roots_asked, settings_asked, sought_before, threads_asked}
use Rattle.jwalk_ignore.specs.declared.callback.excluding.Excluding.{Excluding}
use Rattle.seek_search.specs.KeptLinks.{functions_kept}
use Rattle.seek_search.specs.declared.kept_links.KeptLinks.{KeptLinks}
use Rattle.jwalk_ignore.specs.declared.callback.ignore_files.IgnoreFiles.{IgnoreFiles}
use Rattle.jwalk_ignore.specs.declared.callback.states.RulesState.{RulesState}

-- A walk with these facts was begun, with the root's entry or an error, and called until it ended, or some calls were made
-- if the search may stop. These are its answers, whatever the states are, without those below a find if these aren't
-- looked for.
pub record Yielded {T C S P A R E : Type 0} (calls : CrewCallsOf T C S P A R E) (is : WalkDirGeneric C S P A (Crew T) R E → Type 0) (sought : Sought) (may_stop : Type 0) (answers : List (Item Worth Worth)) : Type 0 where
  pub walk : WalkDirGeneric C S P A (Crew T) R E
  pub is_so : is walk
  pub it : DirEntryIter C S P A (Session T C S P A R E) R E
  pub starts : Starts walk it
  pub begins : BeginsAtRoot it
  pub yielded : List (Result (DirEntry C A R E) (Error A))
  pub called : Drains calls it yielded ⊎ (may_stop × ((end : DirEntryIter C S P A (Session T C S P A R E) R E) × Yields calls it yielded end))
  pub counted : unpruned sought (counted_list stateless yielded) ≡ answers

-- the callback of walks without ignore files
abbrev pub LeavesOut : Type 0
LeavesOut = Both Excluding Excluding

-- the callback of walks that honour the ignore files of these texts
abbrev pub Honours : Type 0 → Type 0 → Type 0
Honours X B = IgnoreFiles (Arc X B) Excluding

-- The walk over this disk below this root, without ignore files. It leaves out what these lines name, and then what `-E`
-- does. This crew reads for it, if there is one.
pub record IsPlain {T C S B A R E : Type 0} (disk : S) (crew : Option (Arc (Crew T) A)) (lines : List ℕ) (asked : Asked) (root : List ℕ) (walk : WalkDirGeneric C (Arc S B) LeavesOut A (Crew T) R E) : Type 0 where
  pub over : arc_value (file_system_of walk) ≡ disk
  pub below : root_of walk ≡ root
  pub options : options_of walk ≡ with_crew (is_some crew) (options_asked asked)
  pub by : ReadsBy crew (described walk).crew
  pub named : excluded_of (first_of (callback_of walk)) ≡ named_below lines root
  pub excluded : excluded_of (second_of (callback_of walk)) ≡ excluded_asked asked root

-- The walk over this disk below this root that honours the ignore files of these texts, and at last these lines. It
-- begins without rules, and is shown hidden names. It drops these itself, unless they are asked for. This crew reads for
-- it, if there is one.
pub record IsHonouring {T C S B X A E : Type 0} (disk : S) (texts : X) (crew : Option (Arc (Crew T) A)) (lines : List ℕ) (asked : Asked) (root : List ℕ) (walk : WalkDirGeneric C (Arc S B) (Honours X B) A (Crew T) RulesState E) : Type 0 where
  pub over : arc_value (file_system_of walk) ≡ disk
  pub below : root_of walk ≡ root
  pub options : options_of walk ≡ with_skip_hidden false (with_crew (is_some crew) (options_asked asked))
  pub by : ReadsBy crew (described walk).crew
  pub texts_read : arc_value (texts_of (callback_of walk)) ≡ texts
  pub settings : settings_of (callback_of walk) ≡ settings_asked lines asked
  pub excluded : excluded_of (next_of (callback_of walk)) ≡ excluded_asked asked root
  pub begins : rules_held (state_of walk) ≡ no_rules

module _ {T C S B X A E G H F : Type 0} (plain : CrewCallsOf T G (Arc S B) LeavesOut A H F) (honouring : CrewCallsOf T C (Arc S B) (Honours X B) A RulesState E) where
  -- The answers are those of the walk that is asked for below this root, for which this crew reads, if there is one: all
  -- of them, unless the search may stop.
  abbrev pub YieldedBy : S → X → Option (Arc (Crew T) A) → List ℕ → Asked → Sought → Below
  YieldedBy disk texts crew lines asked sought may_stop root answers =
      MatchBool asked.no_ignore (Yielded plain (IsPlain disk crew lines asked root) sought may_stop answers) (Yielded honouring (IsHonouring disk texts crew lines asked root) sought may_stop answers)

  -- The same. `is_crew` says which crew may read below a root.
  pub record YieldedBelow (disk : S) (texts : X) (is_crew : List ℕ → Option (Arc (Crew T) A) → Type 0) (lines : List ℕ) (asked : Asked) (sought : Sought) (may_stop : Type 0) (root : List ℕ) (answers : List (Item Worth Worth)) : Type 0 where
    pub reads : Option (Arc (Crew T) A)
    pub by : is_crew root reads
    pub yielded : YieldedBy disk texts reads lines asked sought may_stop root answers

module _ {T C Z B X A E G H F : Type 0} (plain : CrewCallsOf T G (Arc (KeptLinks Z) B) LeavesOut A H F) (honouring : CrewCallsOf T C (Arc (KeptLinks Z) B) (Honours X B) A RulesState E) where
  -- The answers are those of the walks below the roots that are asked for, one root after another. Links that lead
  -- nowhere stay links. This crew reads below the roots that directories may be in, as is known if the disk is fixed.
  abbrev pub AreYielded : Z → Type 0 → Functions → X → Option (Arc (Crew T) A) → List ℕ → Asked → Sought → Type 0 → List (Item Worth Worth) → Type 0
  AreYielded disk fixed fs texts crew lines asked sought may_stop =
      AreBelow (YieldedBelow plain honouring (record { disk = disk; follow = asked.follow }) texts (IsCrewAt fixed (functions_kept asked.follow fs) asked.follow crew) lines asked sought) may_stop (roots_asked asked)

  -- The line of each answer that is looked for was printed, up to the limit, and the result says whether all answers
  -- are clean. The crew that reads has the threads that are asked for, or else as many as can run at a time, which are
  -- `cores`. The absolute path is tested, and printed, if that is asked for; it is known if the texts always answer
  -- the same, which `told` says. If empty entries are looked for, or the disk is asked where links lead, this holds if
  -- the disk always answers the same, which `fixed` says.
  pub record PrintsYielded (disk : Z) (fixed told : Type 0) (fs : Functions) (values : Texts) (cores : ℕ) (texts : X) (lines : List ℕ) (screen : Screen) (asked : Asked) (takes : List ℕ → Bool → Bool) (old new : Option (List ℕ)) (clean : Bool) : Type 0 where
    pub crew : Option (Arc (Crew T) A)
    pub is_crew : IsCrewOf (threads_in cores (threads_asked asked)) crew
    pub front : Option (List ℕ)
    pub in_front : IsFront told values asked.full_path front
    pub shown : Option (List ℕ)
    pub is_shown : IsFront told values asked.absolute shown
    pub left : Option ℕ
    pub printed : IfAsked fixed (sought_before fs front asked takes) (form_before (functions_kept asked.follow fs) shown screen asked) → PrintsSuch (AreYielded disk fixed fs texts crew lines asked (sought_before fs front asked takes) (left ≡ Some 0)) (sought_before fs front asked takes) (form_before (functions_kept asked.follow fs) shown screen asked) (limit_asked asked) left old new clean

  -- The search ended by what it was asked for: `full` says whether one of the answers is looked for, and if so, the search
  -- may stop there. `clean` says whether all answers are clean.
  pub record Finds (disk : Z) (fixed told : Type 0) (fs : Functions) (values : Texts) (cores : ℕ) (texts : X) (lines : List ℕ) (asked : Asked) (takes : List ℕ → Bool → Bool) (ended : Ended) : Type 0 where
    pub crew : Option (Arc (Crew T) A)
    pub is_crew : IsCrewOf (threads_in cores (threads_asked asked)) crew
    pub front : Option (List ℕ)
    pub in_front : IsFront told values asked.full_path front
    pub answers : List (Item Worth Worth)
    pub yielded : AreYielded disk fixed fs texts crew lines asked (sought_before fs front asked takes) (ended.full ≡ true) answers
    pub one : list_any (is_hit (sought_before fs front asked takes)) answers ≡ ended.full
    pub all : ended.clean ≡ list_all is_clean answers

-- What is known of a search by these texts, in whose repositories are the user's excludes if they are asked for, and by
-- lines of ignore files. If the texts always answer the same, the lines are those of the files that are asked for.
pub record ByRead {X : Type 0} (texts : X) (told : Type 0) (values : Texts) (home : Home) (asked : Asked) (is : UserTexts X → List ℕ → Type 0) : Type 0 where
  pub reads : UserTexts X
  pub behind : texts_behind reads ≡ texts
  pub own : home_of reads ≡ home_asked (home_value home) asked
  pub lines : List ℕ
  pub named : told → lines ≡ lines_asked values asked
  pub known : is reads lines
