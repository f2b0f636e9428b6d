-- Readings of directories: what is known of one, and what it leaves to be read.
use Rattle.std.specs.Prelude.{◌≡◌, ◌<◌, ◌^◌, ℕ, List, [], ◌∷◌, ◌++◌, length, All, Option, Some, None, Result}
use Rattle.std.specs.declared.clone.Clone as Clone
use Rattle.std.specs.declared.default.Default as Default
use Rattle.jwalk_model.specs.ReadDir.{Spec, Outcome, IsLawfulReading, list_of, children_of, AreClones}
use Rattle.jwalk_fs.specs.declared.file_system.FileSystem as FileSystem
use Rattle.jwalk_job.specs.declared.process_read_dir.ProcessReadDir as ProcessReadDir
use Rattle.jwalk_job.specs.declared.read_dir_spec.ReadDirSpec.{ReadDirSpec}
use Rattle.jwalk_job.specs.declared.error.Error.{Error}
use Rattle.jwalk_job.specs.declared.job.Job.{Job}
use Rattle.jwalk_job.specs.declared.read_dir.ReadDir.{ReadDir}
use Rattle.jwalk_job.specs.ReadDirSpec.{spec}
use Rattle.jwalk_job.specs.ReadDir.{outcome}
use Rattle.jwalk_job.specs.Given.{Given}
use Rattle.jwalk_job.specs.Job.{greatest_depth, IsSteadyJob, IsAsGiven, IsReadingBy, IsGivenOver, IsReadingOver}
use Rattle.tree_walk.specs.declared.read.Read as tree

-- a reading, with the directory that was read
abbrev pub Read : Type 0 → Type 0 → Type 0 → Type 0 → Type 0
Read C A R E = tree.Read (ReadDirSpec C A R E) (Result (ReadDir C A R E) (Error A))

-- which directory a reading is of
abbrev pub spec_of : {C A R E : Type 0} → Read C A R E → Spec R
spec_of q = spec q.of

-- The specifications of an outcome's directories, with clones of their states, are put in front of the old ones.
pub record StacksChildren {R E : Type 0} (copies : R → R → Type 0) (old : List (Spec R)) (read : Outcome R E) (new : List (Spec R)) : Type 0 where
  pub front : List (Spec R)
  pub left : new ≡ front ++ old
  pub clones : AreClones copies (children_of read) front

module _ {R E : Type 0} (copies : R → R → Type 0) (known : Spec R → Outcome R E → Type 0) (max_depth : ℕ) where
  -- The first specification is read and replaced by those of the directories in its outcome.
  pub record ReadsFirstBy (old : List (Spec R)) (read : Outcome R E) (new : List (Spec R)) : Type 0 where
    pub first : Spec R
    pub rest : List (Spec R)
    pub took : old ≡ first ∷ rest
    pub reading : IsReadingBy known max_depth first read
    pub stacks : StacksChildren copies rest read new

  -- The first is read, or nothing was left to be read.
  abbrev pub ReadsNextBy : List (Spec R) → Option (Outcome R E) → List (Spec R) → Type 0
  ReadsNextBy old None new = (old ≡ []) × (new ≡ [])
  ReadsNextBy old (Some read) new = ReadsFirstBy old read new

module _ {C S P A R E : Type 0} (files : FileSystem.Ghosts S) (clone : Clone.Ghosts R) (counts : Given R E → Type 0) where
  -- the same, for a job whose readings are known over all that counts as given
  abbrev pub ReadsFirst : Job C S P A R E → List (Spec R) → Outcome R E → List (Spec R) → Type 0
  ReadsFirst job = ReadsFirstBy clone.is_clone (IsGivenOver files counts job) (greatest_depth job)

  abbrev pub ReadsNext : Job C S P A R E → List (Spec R) → Option (Outcome R E) → List (Spec R) → Type 0
  ReadsNext job = ReadsNextBy clone.is_clone (IsGivenOver files counts job) (greatest_depth job)

  -- It is a reading of its directory, and comes with the directories of its list, with clones of their states.
  pub record IsSoundOver (job : Job C S P A R E) (made : Read C A R E × List (Spec R)) : Type 0 where
    pub reading : IsReadingOver files counts job (spec_of made.0) (outcome made.0.reading)
    pub clones : AreClones clone.is_clone (children_of (outcome made.0.reading)) made.1

-- Whatever the file system returns, it is a lawful outcome of its directory, and its list fits in memory. It comes with the directories of its list, with clones of their states.
pub record IsMade {C S P A R E : Type 0} (clone : Clone.Ghosts R) (job : Job C S P A R E) (made : Read C A R E × List (Spec R)) : Type 0 where
  pub lawful : IsLawfulReading (greatest_depth job) (spec_of made.0) (outcome made.0.reading)
  pub few : length (list_of (outcome made.0.reading)) < 2 ^ 64
  pub clones : AreClones clone.is_clone (children_of (outcome made.0.reading)) made.1

-- It is the reading of the definition over what is given.
abbrev pub MadeAsGiven : {C S P A R E : Type 0} → FileSystem.Ghosts S → Given R E → Job C S P A R E → Read C A R E × List (Spec R) → Type 0
MadeAsGiven files given job made = IsAsGiven files given job (spec_of made.0) (outcome made.0.reading)

module _ {C S P A R E : Type 0} (files : FileSystem.Ghosts S) (process : ProcessReadDir.Ghosts P C A R E) (clone : Clone.Ghosts R) (defaults : Default.Ghosts E) where
  -- It is sound, as a value over a steady job.
  abbrev pub IsSound : Job C S P A R E → Read C A R E × List (Spec R) → Type 0
  IsSound job = IsSoundOver files clone (IsSteadyJob files process clone defaults job) job

  -- Over what is given the job is steady, and the readings that were made before are what the definition gives.
  pub record IsSteadyWith (job : Job C S P A R E) (made : List (Read C A R E × List (Spec R))) (given : Given R E) : Type 0 where
    pub steady : IsSteadyJob files process clone defaults job given
    pub early : All (MadeAsGiven files given job) made
