-- Readers that read a directory when they are asked for it.
use Rattle.std.specs.Prelude.{◌≡◌, List, All, map, reverse}
use Rattle.std.specs.declared.clone.Clone as Clone
use Rattle.std.specs.declared.default.Default as Default
use Rattle.jwalk.specs.jwalk_model.ReadDir.{Spec}
use Rattle.jwalk.specs.jwalk_fs.declared.file_system.FileSystem as FileSystem
use Rattle.jwalk.specs.jwalk_order.Addressed.{Addressed}
use Rattle.jwalk.specs.jwalk_order.IndexPath.{address}
use Rattle.jwalk.specs.jwalk_order.declared.index_path.IndexPath.{IndexPath}
use Rattle.jwalk.specs.jwalk_job.declared.process_read_dir.ProcessReadDir as ProcessReadDir
use Rattle.jwalk.specs.jwalk_job.declared.read_dir_spec.ReadDirSpec.{ReadDirSpec}
use Rattle.jwalk.specs.jwalk_job.ReadDirSpec.{spec}
use Rattle.jwalk.specs.jwalk_job.declared.job.Job.{Job}
use Rattle.jwalk.specs.jwalk_readings.Origin.{Origin, IsAt}

module _ {C A R E : Type 0} where
  -- a directory at its address
  abbrev pub placed : IndexPath A × ReadDirSpec C A R E → Addressed (Spec R)
  placed w = record { at = address w.0; value = spec w.1; child_count = 0 }

  -- those of a stack, the one on top first
  abbrev pub stacked : List (IndexPath A × ReadDirSpec C A R E) → List (Addressed (Spec R))
  stacked waiting = map placed (reverse waiting)

-- It reads for the walk that begins there: by the walk's own job, and each directory on its stack is at its address of the walk.
pub record ReadsFor {C S P A R E : Type 0} (files : FileSystem.Ghosts S) (process : ProcessReadDir.Ghosts P C A R E) (clone : Clone.Ghosts R) (defaults : Default.Ghosts E) (job : Job C S P A R E) (waiting : List (IndexPath A × ReadDirSpec C A R E)) (origin : Origin C S P A R E) : Type 0 where
  pub own : job ≡ origin.job
  pub at : All (λ w. IsAt files process clone defaults origin w.at w.value) (stacked waiting)
