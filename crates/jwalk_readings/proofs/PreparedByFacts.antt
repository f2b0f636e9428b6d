-- Readings that a crew may make are prepared, as those of a walk over them.
use Rattle.std.proofs.Common.{◌≡◌, ◌⊎◌, Result, Ok, Err, OnErr, inl, inr, refl}
use Rattle.std.specs.Prelude.{OnOk}
use Rattle.std.specs.declared.clone.Clone as Clone
use Rattle.std.specs.declared.default.Default as Default
use Rattle.jwalk_fs.specs.declared.file_system.FileSystem as FileSystem
use Rattle.jwalk_job.specs.declared.process_read_dir.ProcessReadDir as ProcessReadDir
use Rattle.jwalk_readings.specs.declared.readers.Readers as Readers
use Rattle.jwalk_readings.specs.declared.read_dir_iter.ReadDirIter.{ReadDirIter}
use Rattle.jwalk_readings.specs.declared.read_dir_iter.ReadDirIter.TheVariants.{Walk, CrewWalk}
use Rattle.jwalk_readings.specs.declared.crew_reads.CrewReads.{CrewReads}
use Rattle.jwalk_readings.specs.CrewReads.{job_of as crew_job_of}
use Rattle.jwalk_readings.specs.BatchReads.{BatchReads, next_of, read_ahead, ReadsForNext}
use Rattle.jwalk_readings.specs.ReadDirIter.{by_crew, job_of, width_of, base_of, readings_by}
use Rattle.jwalk_readings.specs.Gives.{Readies}
use Rattle.jwalk_readings.proofs.BatchPrepareFacts.{ready_enters}

pub same_base : {C S P A L R E : Type 0} (old new : ReadDirIter C S P A L R E) → by_crew new ≡ by_crew old → job_of new ≡ job_of old → width_of new ≡ width_of old → base_of new ≡ base_of old
same_base old new crew job width = cc

module _ {C S P A L R E : Type 0} (files : FileSystem.Ghosts S) (process : ProcessReadDir.Ghosts P C A R E) (clone : Clone.Ghosts R) (defaults : Default.Ghosts E) (readers : Readers.Ghosts L C S P A R E) where
  -- what stays the same is the same for a walk's own batches
  pub same_batches : (old new : BatchReads C S P A R E) → new.job ≡ old.job → new.width ≡ old.width → (readings_by files process clone defaults readers).base (Walk new) ≡ (readings_by files process clone defaults readers).base (Walk old)
  same_batches old new job width = same_base {L = L} (Walk old) (Walk new) refl job width

  -- and for a crew's readings
  pub same_crews : (old new : CrewReads C S P A L R E) → crew_job_of new ≡ crew_job_of old → (readings_by files process clone defaults readers).base (CrewWalk new) ≡ (readings_by files process clone defaults readers).base (CrewWalk old)
  same_crews old new job = same_base (CrewWalk old) (CrewWalk new) refl job refl

  -- a walk's own batches are made ready
  pub batches_ready : (old new : BatchReads C S P A R E) → ReadsForNext files process clone defaults old new → Readies (readings_by files process clone defaults readers) (Walk old) (Walk new)
  batches_ready old new r = record {
    some = r.some;
    same = r.same;
    frontier = r.frontier;
    ready = λ after enters. ready_enters files process clone defaults old.job old.width (next_of old) (read_ahead old) (read_ahead new) after r.ready enters;
  }

-- what fails for a reason fails only there
pub fails_at : {F At : Type 0} {P : Type 0} (result : Result (Unit {0}) F) → (P → At) → OnErr result P → OnErr result At
fails_at (Ok done) at some = tt
fails_at (Err e) at some = at some

-- It is prepared, or all stays,
pub prepared_as : {F Old New Same Ready : Type 0} (result : Result (Unit {0}) F) → (Old → Same) → (New → Ready) → OnOk result (Old ⊎ New) → OnOk result (Same ⊎ Ready)
prepared_as (Err e) same ready prepared = tt
prepared_as (Ok done) same ready prepared = elim prepared [ inl s ↦ inl (same s) | inr r ↦ inr (ready r) ]

-- and what is ready is ready whoever reads.
pub prepared_ready : {F : Type 0} (Own Ready : Type 0) (result : Result (Unit {0}) F) → OnOk result Ready → OnOk result (Own → Ready)
prepared_ready Own Ready (Err e) ready = tt
prepared_ready Own Ready (Ok done) ready = λ own. ready
