-- The totals of a walk are those of all that was to come.
use Rattle.std.proofs.Common.{◌≡◌, ◌⊎◌, ◌∙◌, false, sym, ap, map}
use Rattle.std.specs.declared.clone.Clone as Clone
use Rattle.std.specs.declared.default.Default as Default
use Rattle.jwalk.specs.jwalk_fs.declared.file_system.FileSystem as FileSystem
use Rattle.jwalk.specs.jwalk_job.declared.process_read_dir.ProcessReadDir as ProcessReadDir
use Rattle.jwalk.specs.jwalk_readings.declared.readers.Readers as Readers
use Rattle.jwalk.specs.declared.walk_dir.WalkDirGeneric.{WalkDirGeneric}
use Rattle.jwalk.specs.jwalk_model.FileSystem.{Functions}
use Rattle.jwalk.specs.jwalk_model.Walk.{whole_walk}
use Rattle.jwalk.specs.jwalk_job.Entry.{item}
use Rattle.jwalk.specs.jwalk_job.Given.{Given}
use Rattle.jwalk.specs.jwalk_job.Job.{IsSteady}
use Rattle.jwalk.specs.WalkDir.{file_system_of, callback_of, root_of, state_of, job_for, Starts, Holds}
use Rattle.jwalk.specs.DirEntryIter.{DirEntryIter, by_crew, to_come, IsRefused, IsSteadyWalk, Answers}
use Rattle.jwalk.proofs.WholeFacts.{all_answered, whole, steady_start}
use Rattle.jwalk_usage.specs.declared.report.Usage.{Usage}
use Rattle.jwalk_usage.specs.Totals.{totals}
use Rattle.jwalk_usage.specs.Counts.{CountsAll}
use Rattle.jwalk_usage.proofs.StateFacts.{same_totals}

-- The usage of a steady walk from its beginning is the totals of the whole walk from its root, by a file system that is asked for metadata and is fixed.
pub counted_over : {C S P A W L R E : Type 0} (files : FileSystem.Ghosts S) (process : ProcessReadDir.Ghosts P C A R E) (clone : Clone.Ghosts R) (defaults : Default.Ghosts E) (readers : Readers.Ghosts L C S P A R E) (given : Given R E) (fixed : Type 0) (fs : Functions) (usage : Usage) (walk : WalkDirGeneric C S P A W R E) (it : DirEntryIter C S P A L R E) → IsSteadyWalk files process clone defaults readers it given → Starts walk it → IsRefused it ⊎ Holds files process clone defaults walk it → IsSteady files process clone defaults (file_system_of walk) (callback_of walk) given → fixed → CountsAll (Answers files process clone defaults readers) fixed fs it usage
    → usage ≡ totals fs (whole_walk (job_for files given walk) (root_of walk) (given.read_dir_state (state_of walk)))
counted_over files process clone defaults readers given fixed fs usage walk it steadily starts begun steady is (answered, drains, counts) =
    counts.totals is
    ∙ sym (same_totals given fs (map item answered))
    ∙ ap (totals fs) (whole files process clone defaults readers given walk it answered steadily starts begun steady drains counts.none_refused)

module _ {C S P A L R E : Type 0} (files : FileSystem.Ghosts S) (process : ProcessReadDir.Ghosts P C A R E) (clone : Clone.Ghosts R) (defaults : Default.Ghosts E) (readers : Readers.Ghosts L C S P A R E) (given : Given R E) (fs : S) (usage : Usage) where
  -- the usage of a steady walk is the totals of what was to come
  pub coming_counted : (it : DirEntryIter C S P A L R E) → IsSteadyWalk files process clone defaults readers it given → files.IsFixed fs → CountsAll (Answers files process clone defaults readers) (files.IsFixed fs) (files.functions fs) it usage → usage ≡ totals (files.functions fs) (to_come files given it)
  coming_counted it steady fixed (answered, drains, counts) =
      counts.totals fixed
      ∙ sym (same_totals given (files.functions fs) (map item answered))
      ∙ ap (totals (files.functions fs)) (sym (all_answered files process clone defaults readers given answered it steady drains counts.none_refused))

  -- that of a walk that was begun, and that no crew reads for, is the totals of the whole walk from its root
  pub whole_counted : {W : Type 0} (walk : WalkDirGeneric C S P A W R E) (it : DirEntryIter C S P A L R E) → by_crew it ≡ false → Starts walk it → IsRefused it ⊎ Holds files process clone defaults walk it → IsSteady files process clone defaults (file_system_of walk) (callback_of walk) given → files.IsFixed fs → CountsAll (Answers files process clone defaults readers) (files.IsFixed fs) (files.functions fs) it usage
      → usage ≡ totals (files.functions fs) (whole_walk (job_for files given walk) (root_of walk) (given.read_dir_state (state_of walk)))
  whole_counted walk it own starts begun steady fixed counts = counted_over files process clone defaults readers given (files.IsFixed fs) (files.functions fs) usage walk it (steady_start files process clone defaults readers given walk it own starts steady) starts begun steady fixed counts
