-- Where the readings of a walk come from, and which directory is at an address.
use Rattle.std.specs.Prelude.{◌≡◌, ℕ, List, map, length, Option, Some, IfOk}
use Rattle.std.specs.declared.clone.Clone as Clone
use Rattle.std.specs.declared.default.Default as Default
use Rattle.jwalk_model.specs.Counted.{Worth, spec_by}
use Rattle.jwalk_model.specs.Job.{reading}
use Rattle.jwalk_model.specs.ReadDir.{Spec, children_of}
use Rattle.jwalk_fs.specs.declared.file_system.FileSystem as FileSystem
use Rattle.jwalk_order.specs.Addressed.{Addressed}
use Rattle.jwalk_job.specs.declared.process_read_dir.ProcessReadDir as ProcessReadDir
use Rattle.jwalk_job.specs.declared.job.Job.{Job}
use Rattle.jwalk_job.specs.declared.read_dir_spec.ReadDirSpec.{ReadDirSpec}
use Rattle.jwalk_job.specs.Given.{Given, counted_spec}
use Rattle.jwalk_job.specs.Job.{IsSteadyJob, job_by}
use Rattle.jwalk_job.specs.ReadDirSpec.{spec}
use Rattle.jwalk_job.specs.ReadDir.{outcome}
use Rattle.tree_crew.specs.Origin as tree
use Rattle.tree_crew.specs.Origin.{at_address}
use Rattle.jwalk_readings.specs.Message.{Message}

-- The job that reads for a walk, and the directories that the walk begins with.
pub record Origin (C S P A R E : Type 0) : Type 0 where
  pub job : Job C S P A R E
  pub roots : List (Spec R)

module _ {C S P A R E : Type 0} where
  -- the origin of a crew whose plan is a job, as a walk sees it
  abbrev pub begun : tree.Origin (ReadDirSpec C A R E) (Job C S P A R E) → Origin C S P A R E
  begun o = record { job = o.plan; roots = map spec o.roots }

-- These directories count as those, by each view of states that counts a clone as its original.
abbrev pub CountAlike : {R : Type 0} → Clone.Ghosts R → List (Spec R) → List (Spec R) → Type 0
CountAlike {R} clone these those = (view : R → Worth) → ((x y : R) → clone.is_clone x y → view y ≡ view x) → map (spec_by view) these ≡ map (spec_by view) those

module _ {C S P A R E : Type 0} (files : FileSystem.Ghosts S) (process : ProcessReadDir.Ghosts P C A R E) (clone : Clone.Ghosts R) (defaults : Default.Ghosts E) where
  -- the directory at an address of the walk, as it counts over what is given
  abbrev pub spec_at : Origin C S P A R E → Given R E → List ℕ → Option (Spec Worth)
  spec_at origin given = at_address (λ s. children_of (reading (job_by files given origin.job) s)) (map (counted_spec given) origin.roots)

  -- Over all that the job is steady over, this is the directory at an address of the walk.
  abbrev pub IsAt : Origin C S P A R E → List ℕ → Spec R → Type 0
  IsAt origin a s = (given : Given R E) → IsSteadyJob files process clone defaults origin.job given → spec_at origin given a ≡ Some (counted_spec given s)

  -- The message is of the walk's own job, and of the directory at its address. Its number of children is that of the directories that were found.
  pub record IsMessageOf (origin : Origin C S P A R E) (item : Addressed (Message C S P A R E)) : Type 0 where
    pub job : item.value.job ≡ origin.job
    pub at : IsAt origin item.at (spec item.value.of)
    pub count : IfOk item.value.outcome (λ read. item.child_count ≡ length (children_of (outcome read)))
