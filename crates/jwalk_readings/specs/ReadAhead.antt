-- What a walk has read ahead, and how entering one directory changes it.
use Rattle.std.specs.Prelude.{ℕ, List, Option, map}
use Rattle.std.specs.declared.clone.Clone as Clone
use Rattle.std.specs.declared.default.Default as Default
use Rattle.jwalk_model.specs.ReadDir.{Spec}
use Rattle.jwalk_fs.specs.declared.file_system.FileSystem as FileSystem
use Rattle.jwalk_order.specs.Addresses.{IsAmong}
use Rattle.jwalk_board.specs.Seen.{seen}
use Rattle.tree_walk.specs.ReadAhead as tree
use Rattle.jwalk_job.specs.declared.process_read_dir.ProcessReadDir as ProcessReadDir
use Rattle.jwalk_job.specs.declared.read_dir_spec.ReadDirSpec.{ReadDirSpec}
use Rattle.jwalk_job.specs.ReadDirSpec.{spec}
use Rattle.jwalk_job.specs.declared.job.Job.{Job}
use Rattle.jwalk_readings.specs.Reads.{spec_of, IsSound}

-- the directories that are not read yet, in `queue`, and the addresses of the readings that were made and not handed on, in `done`
abbrev pub ReadAhead : Type 0 → Type 0
ReadAhead R = tree.ReadAhead (Spec R)

-- nothing is left to be read
abbrev pub nothing_ahead : {R : Type 0} → ReadAhead R
nothing_ahead = tree.nothing_ahead

-- The roots are queued, at `[0]`, `[1]` and so on, and these addresses are to be entered.
abbrev pub BeginsWith : {R : Type 0} → List (Spec R) → List (List ℕ) → ReadAhead R → Type 0
BeginsWith roots frontier new = tree.BeginsWith roots frontier new

-- The reading at an address is handed on: it leaves those that are done.
abbrev pub HandsOnAt : {R : Type 0} → List ℕ → ReadAhead R → ReadAhead R → Type 0
HandsOnAt at old new = tree.HandsOnAt at old new

-- it is seen with each directory's specification
abbrev pub seen_ahead : {C A R E : Type 0} → tree.ReadAhead (ReadDirSpec C A R E) → ReadAhead R
seen_ahead a = record { queue = map (seen spec) a.queue; done = a.done }

module _ {C S P A R E : Type 0} (files : FileSystem.Ghosts S) (process : ProcessReadDir.Ghosts P C A R E) (clone : Clone.Ghosts R) (defaults : Default.Ghosts E) (job : Job C S P A R E) where
  -- The least of the queue are read, this many or all if there are fewer, and no others.
  abbrev pub ReadsLeast : ℕ → ReadAhead R → ReadAhead R → Type 0
  ReadsLeast width old new = tree.ReadsLeast spec_of (IsSound files process clone defaults job) width old new

  -- The directory at an address is entered: its reading was made before and nothing is read, or else the least are read first. Then its reading is handed on.
  abbrev pub Enters : ℕ → List ℕ → ReadAhead R → ReadAhead R → Type 0
  Enters width at old new = tree.Enters spec_of (IsSound files process clone defaults job) width at old new

  -- A directory is entered, or nothing was left to be read and all stays as it is.
  abbrev pub EntersNext : {X : Type 0} → ℕ → List ℕ → ReadAhead R → Option X → ReadAhead R → Type 0
  EntersNext width at old read new = tree.EntersNext spec_of (IsSound files process clone defaults job) width at old read new

  -- The directory at an address isn't read yet, and is read with the others that are among the least of the queue. Nothing is handed on.
  pub record MakesReady (width : ℕ) (at : List ℕ) (old new : ReadAhead R) : Type 0 where
    pub unread : ¬ IsAmong at old.done
    pub least : ReadsLeast width old new
    pub read : IsAmong at new.done
