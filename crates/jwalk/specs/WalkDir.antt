-- A walk as its builder describes it.
use Rattle.std.specs.Prelude.{◌≡◌, ◌⊎◌, ◌≤◌, ◌+◌, ℕ, true, false, List, [], ◌∷◌, map, length, Option, Some, None, IfSome, IsSome, Result, Ok, Err, string_bytes}
use Rattle.std.specs.Arc.{arc_value}
use Rattle.std.specs.declared.clone.Clone as Clone
use Rattle.std.specs.declared.default.Default as Default
use Rattle.std.specs.declared.sync.Arc.{Arc}
use Rattle.std.specs.declared.time.Duration.{Duration}
use Rattle.jwalk_model.specs.Error.{busy}
use Rattle.jwalk_model.specs.Options.{Options, crew}
use Rattle.jwalk_model.specs.Entry.{Item, AtDepth}
use Rattle.jwalk_model.specs.Listing.{paired}
use Rattle.jwalk_model.specs.Counted.{Worth, blank}
use Rattle.jwalk_model.specs.Job.{Job, root_list}
use Rattle.jwalk_fs.specs.declared.file_system.FileSystem as FileSystem
use Rattle.jwalk_job.specs.declared.process_read_dir.ProcessReadDir as ProcessReadDir
use Rattle.jwalk_job.specs.declared.error.Error.{Error}
use Rattle.jwalk_job.specs.declared.dir_entry.DirEntry.{DirEntry}
use Rattle.jwalk_job.specs.Entry.{item}
use Rattle.jwalk_job.specs.Options.{options_value, width_of}
use Rattle.jwalk_job.specs.Given.{Given, IsOfRoot, counted_item, KeepsLists}
use Rattle.jwalk_job.specs.Job as job
use Rattle.jwalk_job.specs.Job.{file_system, callback, IsSteady}
use Rattle.jwalk_readings.specs.ReadAhead.{BeginsWith}
use Rattle.jwalk_iter.specs.DirEntryIter as iter
use Rattle.tree_crew.specs.declared.crew.Crew.{Crew}
use Rattle.tree_crew.specs.Crew.{limit_of}
use Rattle.jwalk_readings.specs.declared.readers.Readers as Readers
use Rattle.tree_crew.specs.declared.crew.NotStarted.{NotStarted}
use Rattle.tree_crew.specs.declared.crew.NotStarted.TheVariants.{Busy, Memory}
use Rattle.jwalk.specs.CrewStart.{busy_pair}
use Rattle.jwalk_iter.specs.DirEntryIter.{DirEntryIter, by_crew, job_of, items_of, held, held_by, IsWithin, IsSourced, IsPlaced, IsRefused}
use Rattle.jwalk.specs.declared.walk_dir.WalkDirGeneric.{WalkDirGeneric}

-- the item is the error that reports a busy crew
abbrev pub ReportsBusy : {R E : Type 0} → Item R E → Type 0
ReportsBusy (Ok e) = ⊥
ReportsBusy (Err f) = f ≡ busy

-- none of the answers reports a busy crew
abbrev pub NoneBusy : {C A R E : Type 0} → List (Result (DirEntry C A R E) (Error A)) → Type 0
NoneBusy [] = Unit {0}
NoneBusy (x ∷ answered) = (¬ ReportsBusy (item x)) × NoneBusy answered

-- no callback, and states that count as nothing
abbrev pub stateless : {R E : Type 0} → Given R E
stateless = record {
  read_dir_state = λ _. blank;
  dir_entry_state = λ _. blank;
  processed = λ depth path state list. record { state = state; list = list };
  keeps_depths = λ depth path state list h. h;
  new_entry = blank;
}

-- What a builder describes: the walk that it is to begin.
pub record Described (S P A W R : Type 0) : Type 0 where
  pub options : Options
  pub file_system : S
  pub callback : P
  pub root : List ℕ
  pub state : R
  pub crew : Option (Arc W A × Option Duration)

-- the same with another callback
abbrev pub with_callback : {S P Q A W R : Type 0} → Q → Described S P A W R → Described S Q A W R
with_callback new d = record {
  options = d.options;
  file_system = d.file_system;
  callback = new;
  root = d.root;
  state = d.state;
  crew = d.crew;
}

-- the same with another state for the root's list
abbrev pub with_state : {S P A W R Q : Type 0} → Q → Described S P A W R → Described S P A W Q
with_state new d = record {
  options = d.options;
  file_system = d.file_system;
  callback = d.callback;
  root = d.root;
  state = new;
  crew = d.crew;
}

-- the same with another crew, and how long the walk waits for a place of it
abbrev pub with_crew : {S P A V W R : Type 0} → Option (Arc W A × Option Duration) → Described S P A V R → Described S P A W R
with_crew new d = record {
  options = d.options;
  file_system = d.file_system;
  callback = d.callback;
  root = d.root;
  state = d.state;
  crew = new;
}

module _ {C S P A W R E : Type 0} where
  -- the file system that it walks
  abbrev pub file_system_of : WalkDirGeneric C S P A W R E → S
  file_system_of walk = walk.fs

  -- its callback
  abbrev pub callback_of : WalkDirGeneric C S P A W R E → P
  callback_of walk = walk.process

  -- the root's path
  abbrev pub root_of : WalkDirGeneric C S P A W R E → List ℕ
  root_of walk = string_bytes walk.root

  -- the state that the root's list is given
  abbrev pub state_of : WalkDirGeneric C S P A W R E → R
  state_of walk = walk.root_read_dir_state

  -- the options
  abbrev pub options_of : WalkDirGeneric C S P A W R E → Options
  options_of walk = options_value walk.options

  -- all that it describes
  abbrev pub described : WalkDirGeneric C S P A W R E → Described S P A W R
  described walk = record {
    options = options_of walk;
    file_system = file_system_of walk;
    callback = callback_of walk;
    root = root_of walk;
    state = state_of walk;
    crew = walk.crew;
  }

  -- A call of the builder returns one that is as this description says, part by part.
  pub record Sets (set : Described S P A W R) (new : WalkDirGeneric C S P A W R E) : Type 0 where
    pub options : options_of new ≡ set.options
    pub file_system : file_system_of new ≡ set.file_system
    pub callback : callback_of new ≡ set.callback
    pub root : root_of new ≡ set.root
    pub state : state_of new ≡ set.state
    pub crew : new.crew ≡ set.crew

  -- what its readings are made of, over a fixed file system and what is given
  abbrev pub job_for : FileSystem.Ghosts S → Given R E → WalkDirGeneric C S P A W R E → Job Worth Worth
  job_for files given walk = record {
    fs = files.functions (file_system_of walk);
    options = options_of walk;
    processed = given.processed;
    default = given.new_entry;
  }

  -- A walk that begins, whatever its file system returns. It is over the builder's file system, callback and options, and no entry it holds is too deep. What it has to read are the directories of what it holds, each below its item, as many together as the options say. Where no crew reads, only these are queued, in order, and are to be entered, and none is read yet. It holds a list of the root's depth, or the error that says that memory ran out at the start.
  pub record Starts {L : Type 0} (walk : WalkDirGeneric C S P A W R E) (it : DirEntryIter C S P A L R E) : Type 0 where
    pub file_system : file_system (job_of it) ≡ file_system_of walk
    pub callback : callback (job_of it) ≡ callback_of walk
    pub options : job.options_of (job_of it) ≡ options_of walk
    pub within : IsWithin it
    pub sourced : IsSourced it
    pub placed : IsPlaced it
    pub start : IsRefused it ⊎ AtDepth 0 (items_of it)
    pub width : iter.width_of it ≡ width_of (options_of walk).parallelism
    pub ahead : iter.by_crew it ≡ false → BeginsWith (iter.unread_of it) (iter.frontier_of it) (iter.read_ahead it)

-- A walk's crew keeps its bound: at most one reading more is made and not handed on.
abbrev pub KeepsBound : {H C S P A L R E : Type 0} → Readers.Ghosts L C S P A R E → WalkDirGeneric C S P A (Crew H) R E → DirEntryIter C S P A L R E → Type 0
KeepsBound readers walk it = IfSome walk.crew (λ own. iter.most_ahead readers it ≤ limit_of (arc_value own.0) + 1)

-- The callback leaves lists as they are, so that the walk holds one item: the root's, or the error that it began with.
abbrev pub HoldsOne : {C S P A W L R E : Type 0} → ProcessReadDir.Ghosts P C A R E → WalkDirGeneric C S P A W R E → DirEntryIter C S P A L R E → Type 0
HoldsOne {R = R} {E = E} process walk it = (given : Given R E) → process.Makes (callback_of walk) given → KeepsLists given.processed → length (held it) ≡ 1

-- The walk begins with the root's entry or an error, and no other entry, or with the error that memory ran out.
abbrev pub BeginsAtRoot : {C S P A L R E : Type 0} → DirEntryIter C S P A L R E → Type 0
BeginsAtRoot it = IsRefused it ⊎ IsOfRoot (items_of it)

-- So it does if the callback drops nothing from the root's list, and adds errors alone, whatever the file system returns.
abbrev pub HoldsRoot : {C S P A W L R E : Type 0} → ProcessReadDir.Ghosts P C A R E → WalkDirGeneric C S P A W R E → DirEntryIter C S P A L R E → Type 0
HoldsRoot process walk it = process.KeepsRoot (callback_of walk) → BeginsAtRoot it

module _ {C S P A W L R E : Type 0} (files : FileSystem.Ghosts S) (process : ProcessReadDir.Ghosts P C A R E) (clone : Clone.Ghosts R) (defaults : Default.Ghosts E) where
  -- The iterator holds the root's list.
  abbrev pub Holds : WalkDirGeneric C S P A W R E → DirEntryIter C S P A L R E → Type 0
  Holds walk it = (given : Given R E) → IsSteady files process clone defaults (file_system_of walk) (callback_of walk) given
      → held_by given it ≡ paired (root_list (job_for files given walk) (root_of walk) (given.read_dir_state (state_of walk)))

  -- The iterator holds the root's list, where the crew was busy: the error that reports it is in the place of each entry with a directory, and nothing is below it. It is so whatever that list is; by value it is the definition's.
  pub record HoldsBusy (walk : WalkDirGeneric C S P A W R E) (it : DirEntryIter C S P A L R E) : Type 0 where
    pub list : List (Item R E)
    pub depth : AtDepth 0 list
    pub holds : held it ≡ map busy_pair list
    pub value : (given : Given R E) → IsSteady files process clone defaults (file_system_of walk) (callback_of walk) given
        → map (counted_item given) list ≡ (root_list (job_for files given walk) (root_of walk) (given.read_dir_state (state_of walk))).list

  -- what it holds, by why its readings didn't begin, if they didn't
  abbrev pub HoldsUnless : Option NotStarted → WalkDirGeneric C S P A W R E → DirEntryIter C S P A L R E → Type 0
  HoldsUnless None walk it = Holds walk it
  HoldsUnless (Some Busy) walk it = HoldsBusy walk it
  HoldsUnless (Some Memory) walk it = IsRefused it

  -- A walk begins, or fails to for this reason. Only a walk that a crew is to read for finds the crew busy. Its crew reads for it, unless memory ran out.
  pub record Begins (walk : WalkDirGeneric C S P A W R E) (why_not : Option NotStarted) (it : DirEntryIter C S P A L R E) : Type 0 where
    pub holds : HoldsUnless why_not walk it
    pub busy : why_not ≡ Some Busy → (options_of walk).parallelism ≡ crew
    pub by : by_crew it ≡ true → (options_of walk).parallelism ≡ crew
    pub reads : (options_of walk).parallelism ≡ crew → IsSome walk.crew → (why_not ≡ Some Memory) ⊎ (by_crew it ≡ true)
