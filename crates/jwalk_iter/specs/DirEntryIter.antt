-- A walk whose readings a crew may make: what it holds, and what one of its answers does.
use Rattle.std.specs.Prelude.{◌≡◌, ℕ, Bool, List, ◌∷◌, [], Err, Option, Result}
use Rattle.std.specs.declared.clone.Clone as Clone
use Rattle.std.specs.declared.default.Default as Default
use Rattle.std.specs.declared.alloc.AllocError.{AllocError}
use Rattle.jwalk_model.specs.Error.{memory}
use Rattle.jwalk_model.specs.Entry.{Item, NoDeeper}
use Rattle.jwalk_model.specs.ReadDir.{Spec}
use Rattle.jwalk_model.specs.Counted.{Worth}
use Rattle.jwalk_model.specs.Job.{reading}
use Rattle.jwalk_model.specs.Listing.{Pair, nothing}
use Rattle.jwalk_model.specs.Held as value
use Rattle.jwalk_model.specs.Held.{weight}
use Rattle.jwalk_fs.specs.declared.file_system.FileSystem as FileSystem
use Rattle.jwalk_job.specs.declared.process_read_dir.ProcessReadDir as ProcessReadDir
use Rattle.jwalk_job.specs.declared.error.Error.{Error}
use Rattle.jwalk_job.specs.declared.dir_entry.DirEntry.{DirEntry}
use Rattle.jwalk_job.specs.declared.job.Job.{Job}
use Rattle.jwalk_job.specs.Given.{Given}
use Rattle.jwalk_job.specs.Job.{options_of, greatest_depth, job_by, IsSteadyJob}
use Rattle.jwalk_readings.specs.ReadAhead.{ReadAhead}
use Rattle.jwalk_readings.specs.CrewReads.{IsBelow}
use Rattle.jwalk_readings.specs.declared.readers.Readers as Readers
use Rattle.jwalk_readings.specs.declared.read_dir_iter.ReadDirIter.{ReadDirIter}
use Rattle.jwalk_readings.specs.ReadDirIter as readings
use Rattle.jwalk_readings.specs.ReadDirIter.{to_read, readings_by}
use Rattle.jwalk_readings.specs.Sources.{Tells}
use Rattle.jwalk_iter.specs.declared.entries.Entries.{Entries}
use Rattle.jwalk_iter.specs.Entries as entries
use Rattle.jwalk_iter.specs.Entries.{items_of, held_with, counted_with, ArePlaced, AreAllSourced, StopsWith}
pub use Rattle.jwalk_iter.specs.Entries.{TellsMemory, Position, PassesPlainly, refusal, NoneRefused, reads_of, is_refused, items_of, skip_of, skipped, dropped, none_passed, one_passed, one_entered}

abbrev pub DirEntryIter : Type 0 → Type 0 → Type 0 → Type 0 → Type 0 → Type 0 → Type 0 → Type 0
DirEntryIter C S P A L R E = Entries C A (ReadDirIter C S P A L R E) R E

module _ {C S P A L R E : Type 0} where
  -- whether a crew reads its directories
  abbrev pub by_crew : DirEntryIter C S P A L R E → Bool
  by_crew it = readings.by_crew it.reads

  abbrev pub job_of : DirEntryIter C S P A L R E → Job C S P A R E
  job_of it = readings.job_of it.reads

  -- the directories that aren't read yet
  abbrev pub unread_of : DirEntryIter C S P A L R E → List (Spec R)
  unread_of it = to_read it.reads

  -- how many directories are read together
  abbrev pub width_of : DirEntryIter C S P A L R E → ℕ
  width_of it = readings.width_of it.reads

  -- what isn't read yet, and what was read and not handed on, by address
  abbrev pub read_ahead : DirEntryIter C S P A L R E → ReadAhead R
  read_ahead it = readings.read_ahead it.reads

  -- the addresses of the directories that are still to be entered, the next one first
  abbrev pub frontier_of : DirEntryIter C S P A L R E → List (List ℕ)
  frontier_of it = readings.frontier_of it.reads

  -- the addresses of the readings that were made and not handed on
  abbrev pub early_of : DirEntryIter C S P A L R E → List (List ℕ)
  early_of it = readings.early_of it.reads

  -- the items that were received and not passed on, each with the directory below it
  abbrev pub held : DirEntryIter C S P A L R E → List (Pair R E)
  held it = held_with (unread_of it) it

  -- the same, with its states as they count
  abbrev pub held_by : Given R E → DirEntryIter C S P A L R E → List (Pair Worth Worth)
  held_by given it = counted_with given (unread_of it) it

  -- the least depth
  abbrev pub min_depth_of : DirEntryIter C S P A L R E → ℕ
  min_depth_of it = (options_of (job_of it)).min_depth

  -- at most how many answers are to come
  abbrev pub weight_of : DirEntryIter C S P A L R E → ℕ
  weight_of it = weight (greatest_depth (job_of it)) (held it)

  -- what is still to come, over a fixed file system and what is given
  abbrev pub to_come : FileSystem.Ghosts S → Given R E → DirEntryIter C S P A L R E → List (Item Worth Worth)
  to_come files given it = value.to_come (reading (job_by files given (job_of it))) (min_depth_of it) (greatest_depth (job_of it)) (held_by given it)

  -- No entry that is held is below the greatest depth.
  abbrev pub IsWithin : DirEntryIter C S P A L R E → Type 0
  IsWithin it = NoDeeper (greatest_depth (job_of it)) (items_of it)

  -- Whatever the file system returns, each directory that is to be read is the one below its item.
  abbrev pub IsPlaced : DirEntryIter C S P A L R E → Type 0
  IsPlaced it = ArePlaced IsBelow (items_of it) (unread_of it)

  -- The items that have a directory, and only they, have a source, and nothing else is unread.
  abbrev pub IsSourced : DirEntryIter C S P A L R E → Type 0
  IsSourced it = AreAllSourced (held it) (unread_of it)

  -- The answer says why the walk ends early, and nothing is held, unread or read ahead any more.
  abbrev pub Stops : Bool → Item R E → DirEntryIter C S P A L R E → Type 0
  Stops by_crew answer new = StopsWith (Tells by_crew) answer (held new) (unread_of new) (read_ahead new)

  -- A walk that ran out of memory at its start: it holds the error that says so, and nothing is unread.
  pub record IsRefused (it : DirEntryIter C S P A L R E) : Type 0 where
    pub tells : held it ≡ record { item = Err memory; source = nothing } ∷ []
    pub nothing_unread : unread_of it ≡ []

-- at most how many readings a crew has made and not handed on: none where no crew reads
abbrev pub most_ahead : {C S P A L R E : Type 0} → Readers.Ghosts L C S P A R E → DirEntryIter C S P A L R E → ℕ
most_ahead readers it = readings.most_ahead readers it.reads

-- a crew's number of them is what its readers counted
abbrev pub CountsAhead : {C S P A L R E : Type 0} → Readers.Ghosts L C S P A R E → DirEntryIter C S P A L R E → ℕ → Type 0
CountsAhead readers it count = readings.CountsAhead readers it.reads count

module _ {C S P A L R E : Type 0} (files : FileSystem.Ghosts S) (process : ProcessReadDir.Ghosts P C A R E) (clone : Clone.Ghosts R) (defaults : Default.Ghosts E) (readers : Readers.Ghosts L C S P A R E) where
  -- A walk is steady over what is given: its job is, and what it read ahead, or its crew gives, is what the definition gives. A crew's readings are those of the directories below its items.
  abbrev pub IsSteadyWalk : DirEntryIter C S P A L R E → Given R E → Type 0
  IsSteadyWalk = entries.IsSteadyWalk (readings_by files process clone defaults readers)

  -- It is steady over all that its job is steady over.
  abbrev pub StartsSteady : DirEntryIter C S P A L R E → Type 0
  StartsSteady it = (given : Given R E) → IsSteadyJob files process clone defaults (job_of it) given → IsSteadyWalk it given

  -- It stays steady over all that it was steady over.
  abbrev pub StaysSteady : DirEntryIter C S P A L R E → DirEntryIter C S P A L R E → Type 0
  StaysSteady = entries.StaysSteady (readings_by files process clone defaults readers)

  -- These items are passed one after another, and this many directories are entered with them.
  abbrev pub PassesMany : DirEntryIter C S P A L R E → Position R E → List (Item R E) → ℕ → Position R E → Type 0
  PassesMany = entries.PassesMany (readings_by files process clone defaults readers)

  -- The items that the least depth leaves out are passed, and then the answer, if there is one. With each directory that is entered what was read ahead grows by less than the width.
  abbrev pub GrowsAhead : DirEntryIter C S P A L R E → Option (Item R E) → DirEntryIter C S P A L R E → Type 0
  GrowsAhead = entries.GrowsAhead (readings_by files process clone defaults readers)

  -- One call of a walk's `next`.
  abbrev pub Answers : DirEntryIter C S P A L R E → Option (Result (DirEntry C A R E) (Error A)) → DirEntryIter C S P A L R E → Type 0
  Answers = entries.Answers (readings_by files process clone defaults readers)

  -- A call of `fill` for n answers.
  abbrev pub Fills : ℕ → DirEntryIter C S P A L R E → List (Result (DirEntry C A R E) (Error A)) → Result ℕ AllocError → List (Result (DirEntry C A R E) (Error A)) → DirEntryIter C S P A L R E → Type 0
  Fills = entries.Fills (readings_by files process clone defaults readers)

  -- Calls from here on return items until `None`, and n is their number, or `usize::MAX` if there are more.
  abbrev pub Counts : DirEntryIter C S P A L R E → ℕ → Type 0
  Counts = entries.Counts (readings_by files process clone defaults readers)

  -- One call of a walk's `skip_current_dir`.
  abbrev pub Skips : DirEntryIter C S P A L R E → DirEntryIter C S P A L R E → Type 0
  Skips = entries.Skips (readings_by files process clone defaults readers)

  -- what was still to come of what a skip drops, over what is given
  abbrev pub dropped_to_come : Given R E → DirEntryIter C S P A L R E → List (Item Worth Worth)
  dropped_to_come = entries.dropped_to_come (readings_by files process clone defaults readers)
