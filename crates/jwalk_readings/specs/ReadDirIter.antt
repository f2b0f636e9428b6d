-- Readings that a crew may make, by cases of who makes them, and as a walk over any readings sees them.
use Rattle.std.specs.Prelude.{◌≡◌, ◌≤◌, ℕ, Bool, true, false, List, length, Option, Result}
use Rattle.std.specs.declared.clone.Clone as Clone
use Rattle.std.specs.declared.default.Default as Default
use Rattle.jwalk_model.specs.Error.{memory}
use Rattle.jwalk_model.specs.Entry.{Item}
use Rattle.jwalk_model.specs.ReadDir.{Spec}
use Rattle.jwalk_fs.specs.declared.file_system.FileSystem as FileSystem
use Rattle.jwalk_job.specs.declared.process_read_dir.ProcessReadDir as ProcessReadDir
use Rattle.jwalk_job.specs.declared.error.Error.{Error}
use Rattle.jwalk_job.specs.declared.job.Job.{Job}
use Rattle.jwalk_job.specs.declared.read_dir.ReadDir.{ReadDir}
use Rattle.jwalk_job.specs.Given.{Given}
use Rattle.jwalk_job.specs.Job.{callback, IsSteadyJob}
use Rattle.jwalk_order.specs.Frontier as frontier
use Rattle.jwalk_readings.specs.ReadAhead.{ReadAhead, nothing_ahead}
use Rattle.jwalk_readings.specs.BatchReads as board
use Rattle.jwalk_readings.specs.BatchReads.{IsSteadyBatches}
use Rattle.jwalk_readings.specs.CrewReads as crew
use Rattle.jwalk_readings.specs.CrewReads.{IsSteadyCrew}
use Rattle.jwalk_readings.specs.Gives as any
use Rattle.jwalk_readings.specs.Sources.{Base, source_by}
use Rattle.jwalk_readings.specs.SourceFacts.{is_source_by}
use Rattle.jwalk_readings.specs.declared.readers.Readers as Readers
use Rattle.jwalk_readings.specs.declared.readings.Readings as Readings
use Rattle.jwalk_readings.specs.declared.read_dir_iter.ReadDirIter.{ReadDirIter}
use Rattle.jwalk_readings.specs.declared.read_dir_iter.ReadDirIter.TheVariants.{Walk, CrewWalk}

module _ {C S P A L R E : Type 0} where
  -- whether a crew makes the readings
  abbrev pub by_crew : ReadDirIter C S P A L R E → Bool
  by_crew (Walk walk) = false
  by_crew (CrewWalk reads) = true

  -- what it reads with
  abbrev pub job_of : ReadDirIter C S P A L R E → Job C S P A R E
  job_of (Walk walk) = walk.job
  job_of (CrewWalk reads) = crew.job_of reads

  -- the specifications whose readings are still to be given, the next one first, without those below them
  abbrev pub to_read : ReadDirIter C S P A L R E → List (Spec R)
  to_read (Walk walk) = board.to_read walk
  to_read (CrewWalk reads) = crew.to_read reads

  -- how many directories are read together, by the walk or by each worker
  abbrev pub width_of : ReadDirIter C S P A L R E → ℕ
  width_of (Walk walk) = walk.width
  width_of (CrewWalk reads) = 1

  -- What isn't read yet, and what was read and not handed on, by address. Of a crew nothing is said.
  abbrev pub read_ahead : ReadDirIter C S P A L R E → ReadAhead R
  read_ahead (Walk walk) = board.read_ahead walk
  read_ahead (CrewWalk reads) = nothing_ahead

  -- the addresses of the readings that were made and not handed on
  abbrev pub early_of : ReadDirIter C S P A L R E → List (List ℕ)
  early_of it = (read_ahead it).done

  -- the addresses of the directories that are still to be entered, the next one first
  abbrev pub frontier_of : ReadDirIter C S P A L R E → List (List ℕ)
  frontier_of (Walk walk) = board.frontier_of walk
  frontier_of (CrewWalk reads) = crew.frontier_of reads

  -- the address of the directory that is entered next
  abbrev pub next_address : ReadDirIter C S P A L R E → List ℕ
  next_address it = frontier.next_address (frontier_of it)

  -- what stays the same while they are read
  abbrev pub base_of : ReadDirIter C S P A L R E → Base C S P A R E
  base_of it = record { by_crew = by_crew it; job = job_of it; width = width_of it }

-- at most how many readings a crew has made and not handed on: none where no crew reads
abbrev pub most_ahead : {C S P A L R E : Type 0} → Readers.Ghosts L C S P A R E → ReadDirIter C S P A L R E → ℕ
most_ahead readers (Walk walk) = 0
most_ahead readers (CrewWalk reads) = crew.most_ahead readers reads

-- a crew's number of them is what its readers counted
abbrev pub CountsAhead : {C S P A L R E : Type 0} → Readers.Ghosts L C S P A R E → ReadDirIter C S P A L R E → ℕ → Type 0
CountsAhead readers (Walk walk) count = Unit {0}
CountsAhead readers (CrewWalk reads) count = crew.CountsAhead readers reads count

-- How many readings are ahead: as many as were made where no crew reads, and at most its bound where one does.
pub record AreAhead {C S P A L R E : Type 0} (readers : Readers.Ghosts L C S P A R E) (reads : ReadDirIter C S P A L R E) (n : ℕ) : Type 0 where
  pub alone : by_crew reads ≡ false → n ≡ length (early_of reads)
  pub counted : CountsAhead readers reads n
  pub crew : by_crew reads ≡ true → n ≤ most_ahead readers reads

module _ {C S P A L R E : Type 0} (files : FileSystem.Ghosts S) (process : ProcessReadDir.Ghosts P C A R E) (clone : Clone.Ghosts R) (defaults : Default.Ghosts E) (readers : Readers.Ghosts L C S P A R E) where
  -- It is steady over what is given: its job is, and what it read early, or its crew gives, is what the definition gives.
  abbrev pub IsSteadyReads : ReadDirIter C S P A L R E → Given R E → Type 0
  IsSteadyReads (Walk walk) given = IsSteadyBatches files process clone defaults walk given
  IsSteadyReads (CrewWalk reads) given = IsSteadyCrew files process clone defaults readers reads given

  -- It is steady over all that its job is steady over.
  abbrev pub StartsSteady : ReadDirIter C S P A L R E → Type 0
  StartsSteady it = (value : Given R E) → IsSteadyJob files process clone defaults (job_of it) value → IsSteadyReads it value

  -- It stays steady over all that it was steady over.
  abbrev pub StaysSteady : ReadDirIter C S P A L R E → ReadDirIter C S P A L R E → Type 0
  StaysSteady old new = (value : Given R E) → IsSteadyReads old value → IsSteadyReads new value

  -- over what readings are steady, clones count as their originals
  pub clones_by : (it : ReadDirIter C S P A L R E) (given : Given R E) → IsSteadyReads it given → (x y : R) → clone.is_clone x y → given.read_dir_state y ≡ given.read_dir_state x
  clones_by (Walk walk) given steady = steady.steady.clones
  clones_by (CrewWalk reads) given steady = steady.steady.clones

  -- the readings as a walk over any readings sees them
  abbrev pub readings_by : Readings.Ghosts (ReadDirIter C S P A L R E) C A R E
  readings_by = record {
    Base = Base C S P A R E;
    base = base_of;
    source = source_by files process clone defaults;
    can_read = λ base. process.IsLawful (callback base.job);
    to_read = to_read;
    frontier = frontier_of;
    read_ahead = read_ahead;
    most = most_ahead readers;
    ready = AreAhead readers;
    steady = IsSteadyReads;
    sound = is_source_by files process clone defaults;
    clones = clones_by;
  }

  -- One call of an iterator over readings. By value, what it gives comes in preorder, unless memory runs out.
  abbrev pub Gives : ReadDirIter C S P A L R E → Option (Result (ReadDir C A R E) (Error A)) → ReadDirIter C S P A L R E → Type 0
  Gives = any.Gives readings_by (λ f. f ≡ memory)

  -- One call that is asked for the reading of an item's directory.
  abbrev pub GivesOf : ReadDirIter C S P A L R E → Item R E → Option (Result (ReadDir C A R E) (Error A)) → ReadDirIter C S P A L R E → Type 0
  GivesOf = any.GivesOf readings_by
