-- What the readings of a walk come from: its own batches, or a crew.
use Rattle.std.specs.Prelude.{◌≡◌, ◌≤◌, ◌⊎◌, ℕ, Bool, true, false, List, [], ◌∷◌, Option}
use Rattle.std.specs.declared.clone.Clone as Clone
use Rattle.std.specs.declared.default.Default as Default
use Rattle.jwalk_model.specs.Error.{Failure, memory, lost}
use Rattle.jwalk_model.specs.ReadDir.{Spec, Outcome}
use Rattle.jwalk_model.specs.Job.{reading}
use Rattle.jwalk_fs.specs.declared.file_system.FileSystem as FileSystem
use Rattle.jwalk_job.specs.declared.process_read_dir.ProcessReadDir as ProcessReadDir
use Rattle.jwalk_job.specs.declared.job.Job.{Job}
use Rattle.jwalk_job.specs.Job.{options_of, greatest_depth, job_by}
use Rattle.jwalk_readings.specs.Reads.{ReadsNextBy}
use Rattle.jwalk_readings.specs.ReadAhead.{ReadAhead, Enters}
use Rattle.jwalk_readings.specs.CrewReads as crew
use Rattle.jwalk_readings.specs.CrewReads.{IsTold, IsNextBelow}
use Rattle.jwalk_readings.specs.declared.crew_reads.CrewReads.{CrewReads}
use Rattle.jwalk_readings.specs.Source.{Source, IsKnown}
use Rattle.jwalk_readings.specs.declared.readers.Readers as Readers

-- What stays the same while a walk reads.
pub record Base (C S P A R E : Type 0) : Type 0 where
  pub by_crew : Bool
  pub job : Job C S P A R E
  pub width : ℕ

-- The error says why the readings end early: memory ran out, or a crew's reading won't come.
abbrev pub Tells : Bool → Failure → Type 0
Tells false f = f ≡ memory
Tells true f = (f ≡ memory) ⊎ (f ≡ lost)

module _ {C S P A R E : Type 0} (files : FileSystem.Ghosts S) (process : ProcessReadDir.Ghosts P C A R E) (clone : Clone.Ghosts R) (defaults : Default.Ghosts E) where
  -- A directory is entered. A crew's readings are made by others.
  abbrev pub EntersBy : Bool → Job C S P A R E → ℕ → List ℕ → ReadAhead R → ReadAhead R → Type 0
  EntersBy false job width at old new = Enters files process clone defaults job width at old new
  EntersBy true job width at old new = (new ≡ old) × (1 ≤ width)

  -- Of a reading that a crew made it is known what a worker reported.
  abbrev pub ToldBy : Bool → Job C S P A R E → List ℕ → Spec R → Outcome R E → Type 0
  ToldBy false job at spec outcome = Unit {0}
  ToldBy true job at spec outcome = IsTold files process clone defaults job at spec outcome

  abbrev pub source_by : Base C S P A R E → Source R E
  source_by base = record {
    options = options_of base.job;
    width = base.width;
    copies = clone.is_clone;
    reading = λ given. reading (job_by files given base.job);
    told = ToldBy base.by_crew base.job;
    below = λ x spec. IsNextBelow base.by_crew x (spec ∷ []);
    enters = EntersBy base.by_crew base.job base.width;
    tells = Tells base.by_crew;
  }

-- what stays the same while a crew reads
abbrev pub crew_base : {C S P A L R E : Type 0} → CrewReads C S P A L R E → Base C S P A R E
crew_base it = record { by_crew = true; job = crew.job_of it; width = 1 }

-- A crew's next reading is handed on, or none is left.
abbrev pub CrewReadsNext : {C S P A L R E : Type 0} → FileSystem.Ghosts S → ProcessReadDir.Ghosts P C A R E → Clone.Ghosts R → Default.Ghosts E → Readers.Ghosts L C S P A R E → CrewReads C S P A L R E → Option (Outcome R E) → CrewReads C S P A L R E → Type 0
CrewReadsNext files process clone defaults readers old given new =
    let known = IsKnown (source_by files process clone defaults (crew_base old)) (crew.IsSteadyCrew files process clone defaults readers old) (crew.next_address old) in
    ReadsNextBy clone.is_clone known (greatest_depth (crew.job_of old)) (crew.to_read old) given (crew.to_read new)
