-- Below a directory of a walk are the directories that its own job found there.
use Rattle.std.proofs.Common.{◌≡◌, ◌∙◌, ℕ, List, [], ◌∷◌, ◌++◌, map, Some, option_map, slice_get, sym, ap, subst}
use Rattle.std.specs.declared.clone.Clone as Clone
use Rattle.std.specs.declared.default.Default as Default
use Rattle.std.proofs.lemmas.Option.{slice_get-map}
use Rattle.jwalk_model.specs.Job.{reading}
use Rattle.jwalk_model.specs.ReadDir.{Spec, Outcome, children_of, AreClones}
use Rattle.jwalk_model.proofs.CloneFacts.{counted_clones}
use Rattle.jwalk_model.proofs.CountedFacts.{counted-children_of}
use Rattle.jwalk_fs.specs.declared.file_system.FileSystem as FileSystem
use Rattle.jwalk_job.specs.declared.process_read_dir.ProcessReadDir as ProcessReadDir
use Rattle.jwalk_job.specs.declared.job.Job.{Job}
use Rattle.jwalk_job.specs.Given.{Given, counted_spec}
use Rattle.jwalk_job.specs.Job.{IsSteadyJob, IsReadingOf, IsAsGiven, job_by}
use Rattle.tree_crew.proofs.OriginFacts.{at_child}
use Rattle.jwalk_readings.specs.Origin.{Origin, IsAt}

module _ {C S P A R E : Type 0} (files : FileSystem.Ghosts S) (process : ProcessReadDir.Ghosts P C A R E) (clone : Clone.Ghosts R) (defaults : Default.Ghosts E) (origin : Origin C S P A R E) where
  -- below a directory that the walk's own job read are the directories that were found
  pub below_read : (job : Job C S P A R E) (s : Spec R) (o : Outcome R E) (front : List (Spec R)) → job ≡ origin.job → IsReadingOf files process clone defaults job s o → AreClones clone.is_clone (children_of o) front
      → (given : Given R E) → IsSteadyJob files process clone defaults origin.job given → children_of (reading (job_by files given origin.job) (counted_spec given s)) ≡ map (counted_spec given) front
  below_read job s o front own read clones given steady =
      let as_given : IsAsGiven files given origin.job s o
      = subst (λ j. IsSteadyJob files process clone defaults j given → IsAsGiven files given j s o) own (read.value given) steady in
      ap children_of (sym as_given)
      ∙ counted-children_of given.read_dir_state given.dir_entry_state o
      ∙ sym (counted_clones clone.is_clone given.read_dir_state steady.clones (children_of o) front clones)

  -- so each of them is at its child's address
  pub child_at : (a : List ℕ) (s : Spec R) (front : List (Spec R)) (i : ℕ) (c : Spec R) → IsAt files process clone defaults origin a s
      → ((given : Given R E) → IsSteadyJob files process clone defaults origin.job given → children_of (reading (job_by files given origin.job) (counted_spec given s)) ≡ map (counted_spec given) front)
      → slice_get front i ≡ Some c → IsAt files process clone defaults origin (a ++ i ∷ []) c
  child_at a s front i c there below is given steady =
      at_child (λ s. children_of (reading (job_by files given origin.job) s)) (map (counted_spec given) origin.roots) a i (counted_spec given s) (there given steady)
      ∙ ap (λ l. slice_get l i) (below given steady)
      ∙ slice_get-map (counted_spec given) front i
      ∙ ap (option_map (counted_spec given)) is
