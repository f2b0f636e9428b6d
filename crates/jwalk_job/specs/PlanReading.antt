-- What a job's plan returns: a reading, and the directories below it.
use Rattle.std.proofs.Common.{◌≡◌, List, map, sym, ap, ◌∙◌}
use Rattle.std.specs.Prelude.{Result, IfOk}
use Rattle.std.proofs.lemmas.Simd.{map-map}
use Rattle.std.specs.declared.clone.Clone as Clone
use Rattle.std.specs.declared.default.Default as Default
use Rattle.jwalk_model.specs.ReadDir.{Outcome, AreClones, children_of}
use Rattle.jwalk_model.specs.Counted.{Worth}
use Rattle.jwalk_model.specs.Job.{reading}
use Rattle.jwalk_model.proofs.CloneFacts.{counted_clones}
use Rattle.jwalk_model.proofs.CountedFacts.{counted-children_of}
use Rattle.jwalk_fs.specs.declared.file_system.FileSystem as FileSystem
use Rattle.jwalk_job.specs.declared.process_read_dir.ProcessReadDir as ProcessReadDir
use Rattle.jwalk_job.specs.declared.read_dir_spec.ReadDirSpec.{ReadDirSpec}
use Rattle.jwalk_job.specs.declared.error.Error.{Error}
use Rattle.jwalk_job.specs.ReadDirSpec.{spec}
use Rattle.jwalk_job.specs.Given.{Given, counted_spec, counted_outcome, ClonesCount}
use Rattle.jwalk_job.specs.declared.job.Job.{Job}
use Rattle.jwalk_job.specs.declared.read_dir.ReadDir.{ReadDir}
use Rattle.jwalk_job.specs.Job.{IsSteadyJob, IsFromListing, IsReadingOf, job_by}
use Rattle.jwalk_job.specs.ReadDir.{outcome, reading as reading_of}
use Rattle.jwalk_job.specs.Plan.{tree_of}

-- where clones count as their originals, clones of an outcome's directories are those of what it counts as
counted_directories : {C A R E : Type 0} (clone : Clone.Ghosts R) (given : Given R E) (outcome : Outcome R E) (value : Outcome Worth Worth) (specs : List (ReadDirSpec C A R E))
    → ClonesCount clone given → counted_outcome given outcome ≡ value → AreClones clone.is_clone (children_of outcome) (map spec specs) → map (λ s. counted_spec given (spec s)) specs ≡ children_of value
counted_directories clone given outcome value specs count is clones =
    sym (map-map (counted_spec given) spec specs)
    ∙ counted_clones clone.is_clone given.read_dir_state count (children_of outcome) (map spec specs) clones
    ∙ sym (counted-children_of given.read_dir_state given.dir_entry_state outcome)
    ∙ ap children_of is

module _ {C S P A R E : Type 0} (files : FileSystem.Ghosts S) (process : ProcessReadDir.Ghosts P C A R E) (clone : Clone.Ghosts R) (defaults : Default.Ghosts E) (job : Job C S P A R E) where
  -- It is a reading of the directory, of one listing, and comes with the directories of its list, with clones of their states.
  pub record IsPlanReading (of : ReadDirSpec C A R E) (read : Result (ReadDir C A R E) (Error A)) (below : List (ReadDirSpec C A R E)) : Type 0 where
    pub reading : IsReadingOf files process clone defaults job (spec of) (outcome read)
    pub listed : IfOk read (λ r. IsFromListing files process clone defaults job (spec of) (reading_of r))
    pub clones : AreClones clone.is_clone (children_of (outcome read)) (map spec below)

  -- over a steady job, both are those of its tree
  pub reads_as_given : (of : ReadDirSpec C A R E) (read : Result (ReadDir C A R E) (Error A)) (below : List (ReadDirSpec C A R E)) → IsPlanReading of read below → (given : Given R E) → IsSteadyJob files process clone defaults job given
      → (counted_outcome given (outcome read) ≡ (tree_of (job_by files given job)).reading (counted_spec given (spec of))) × (map (λ s. counted_spec given (spec s)) below ≡ (tree_of (job_by files given job)).children (counted_spec given (spec of)))
  reads_as_given of read below is given steady =
      let same = is.reading.value given steady in
      (same, counted_directories clone given (outcome read) (reading (job_by files given job) (counted_spec given (spec of))) below steady.clones same is.clones)
