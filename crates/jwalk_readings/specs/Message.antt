-- A reading by a worker as a value, and what holds of it.
use Rattle.std.specs.Prelude.{Bool, Result, is_err, IfOk}
use Rattle.std.specs.declared.alloc.AllocError.{AllocError}
use Rattle.std.specs.declared.clone.Clone as Clone
use Rattle.std.specs.declared.default.Default as Default
use Rattle.jwalk_fs.specs.declared.file_system.FileSystem as FileSystem
use Rattle.jwalk_job.specs.declared.process_read_dir.ProcessReadDir as ProcessReadDir
use Rattle.jwalk_job.specs.declared.error.Error.{Error}
use Rattle.jwalk_job.specs.declared.job.Job.{Job}
use Rattle.jwalk_job.specs.declared.read_dir.ReadDir.{ReadDir}
use Rattle.jwalk_job.specs.declared.read_dir_spec.ReadDirSpec.{ReadDirSpec}
use Rattle.jwalk_job.specs.ReadDirSpec.{spec}
use Rattle.jwalk_job.specs.ReadDir.{outcome}
use Rattle.jwalk_job.specs.Job.{IsReadingOf}
use Rattle.tree_crew.specs.Message as tree

-- the job that read, the directory that was read, and the outcome, or that memory ran out
pub record Message (C S P A R E : Type 0) : Type 0 where
  pub job : Job C S P A R E
  pub of : ReadDirSpec C A R E
  pub outcome : Result (Result (ReadDir C A R E) (Error A)) AllocError

-- whether memory ran out for it
abbrev pub ran_out : {C S P A R E : Type 0} → Message C S P A R E → Bool
ran_out m = is_err m.outcome

-- a message of a crew whose plan is a job
abbrev pub Told : (C S P A R E : Type 0) → Type 0
Told C S P A R E = tree.Message (ReadDirSpec C A R E) (Result (ReadDir C A R E) (Error A)) (Job C S P A R E)

-- the same, as a walk sees it
abbrev pub told : {C S P A R E : Type 0} → Told C S P A R E → Message C S P A R E
told m = record { job = m.plan; of = m.of; outcome = m.outcome }

module _ {C S P A R E : Type 0} (files : FileSystem.Ghosts S) (process : ProcessReadDir.Ghosts P C A R E) (clone : Clone.Ghosts R) (defaults : Default.Ghosts E) where
  -- The outcome is the job's reading of the directory, unless memory ran out.
  abbrev pub IsLawfulMessage : Message C S P A R E → Type 0
  IsLawfulMessage m = IfOk m.outcome (λ o. IsReadingOf files process clone defaults m.job (spec m.of) (outcome o))
