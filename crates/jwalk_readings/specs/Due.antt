-- Which readings are due.
use Rattle.std.specs.Prelude.{◌≡◌, ◌≢◌, ℕ, List, [], Some}
use Rattle.std.specs.declared.clone.Clone as Clone
use Rattle.std.specs.declared.default.Default as Default
use Rattle.jwalk_model.specs.Options.{ReadsAs}
use Rattle.jwalk_model.specs.ReadDir.{Spec}
use Rattle.jwalk_fs.specs.declared.file_system.FileSystem as FileSystem
use Rattle.jwalk_order.specs.Frontier.{next_address}
use Rattle.jwalk_order.specs.IndexPath.{address}
use Rattle.jwalk_job.specs.declared.process_read_dir.ProcessReadDir as ProcessReadDir
use Rattle.jwalk_job.specs.Given.{Given, counted_spec}
use Rattle.jwalk_job.specs.Job.{IsSteadyJob, options_of}
use Rattle.jwalk_job.specs.Options.{options_value}
use Rattle.jwalk_readings.specs.declared.wanted.Wanted.{Wanted}
use Rattle.jwalk_readings.specs.Origin.{Origin, spec_at}
use Rattle.jwalk_readings.specs.Wanted.{wanted_directory}

module _ {C S P A R E : Type 0} (files : FileSystem.Ghosts S) (process : ProcessReadDir.Ghosts P C A R E) (clone : Clone.Ghosts R) (defaults : Default.Ghosts E) where
  -- The wanted reading comes next: over something that the walk's job is steady over, its directory is at the first awaited address. It is wanted there, by options that read as the job's.
  pub record IsDue (origin : Origin C S P A R E) (awaited : List (List ℕ)) (wanted : Wanted A) : Type 0 where
    pub some : awaited ≢ []
    pub next : address wanted.address ≡ next_address awaited
    pub options : ReadsAs (options_of origin.job) (options_value wanted.options)
    pub of : Spec R
    pub wanted_one : of.directory ≡ wanted_directory wanted
    pub given : Given R E
    pub steady : IsSteadyJob files process clone defaults origin.job given
    pub stands : spec_at files process clone defaults origin given (next_address awaited) ≡ Some (counted_spec given of)
