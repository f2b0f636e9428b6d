-- Walks from one root over one file system, whose directories are read in different ways.
use Rattle.std.proofs.Common.{◌≡◌, ◌∙◌, ℕ, List, refl, sym, ap, ap₂}
use Rattle.std.specs.declared.clone.Clone as Clone
use Rattle.std.specs.declared.default.Default as Default
use Rattle.jwalk_model.specs.Options.{Options, Parallelism, with_parallelism}
use Rattle.jwalk_model.specs.Counted.{Worth}
use Rattle.jwalk_model.specs.Job as value
use Rattle.jwalk_model.specs.FileSystem.{Functions}
use Rattle.jwalk_model.specs.Walk.{whole_walk, stateless_walk}
use Rattle.jwalk_fs.specs.declared.file_system.FileSystem as FileSystem
use Rattle.jwalk_job.specs.declared.process_read_dir.ProcessReadDir as ProcessReadDir
use Rattle.jwalk_job.specs.Given.{Given}
use Rattle.jwalk_job.specs.Job.{IsSteady}
use Rattle.jwalk_readings.specs.declared.readers.Readers as Readers
use Rattle.jwalk_iter.specs.DirEntryIter.{DirEntryIter, to_come}
use Rattle.jwalk.specs.declared.walk_dir.WalkDirGeneric.{WalkDirGeneric}
use Rattle.jwalk.specs.WalkDir.{file_system_of, callback_of, root_of, state_of, options_of, job_for, Starts, Holds}
use Rattle.jwalk.proofs.WholeFacts.{comes_whole}

-- How many directories are read together, and by whom, makes no difference to a whole walk.
pub whole_however_read : {R E : Type 0} (p : Parallelism) (job : value.Job R E) (root : List ℕ) (state : R) → whole_walk (record job { options = with_parallelism p job.options }) root state ≡ whole_walk job root state
unfolding whole_walk
whole_however_read p job root state = refl

-- nor to a walk with no callback
pub stateless_however_read : (p : Parallelism) (fs : Functions) (options : Options) (root : List ℕ) → stateless_walk fs (with_parallelism p options) root ≡ stateless_walk fs options root
unfolding whole_walk
stateless_however_read p fs options root = refl

module _ {C S P A V W L M R E : Type 0} (files : FileSystem.Ghosts S) (process : ProcessReadDir.Ghosts P C A R E) (clone : Clone.Ghosts R) (defaults : Default.Ghosts E) (readers : Readers.Ghosts L C S P A R E) (others : Readers.Ghosts M C S P A R E) (given : Given R E) where
  -- Two walks have the same to come if they begin with the root's list, over what is steady, and their builders differ only in how directories are read. So they yield the same, call by call, as long as neither says that memory ran out (`same_answer`).
  pub same_start : (walk : WalkDirGeneric C S P A V R E) (it : DirEntryIter C S P A L R E) (other : WalkDirGeneric C S P A W R E) (its : DirEntryIter C S P A M R E) → Starts walk it → Starts other its → Holds files process clone defaults walk it → Holds files process clone defaults other its → IsSteady files process clone defaults (file_system_of walk) (callback_of walk) given
      → file_system_of other ≡ file_system_of walk → callback_of other ≡ callback_of walk → root_of other ≡ root_of walk → state_of other ≡ state_of walk → (p : Parallelism) → options_of other ≡ with_parallelism p (options_of walk) → to_come files given it ≡ to_come files given its
  same_start walk it other its starts begins holds held steady fs by root state p options =
      let steadily : IsSteady files process clone defaults (file_system_of other) (callback_of other) given = rw (fs, by) steady in
      let over : S → Options → value.Job Worth Worth = λ fs options. record { fs = files.functions fs; options = options; processed = given.processed; default = given.new_entry } in
      let job : job_for files given other ≡ over (file_system_of walk) (with_parallelism p (options_of walk)) = ap₂ over fs options in
      let begun = given.read_dir_state (state_of walk) in
      comes_whole files process clone defaults readers given walk it starts (holds given steady)
      ∙ sym (
      comes_whole files process clone defaults others given other its begins (held given steadily)
      ∙ ap (λ j. whole_walk j (root_of other) (given.read_dir_state (state_of other))) job
      ∙ ap₂ (λ r s. whole_walk (over (file_system_of walk) (with_parallelism p (options_of walk))) r (given.read_dir_state s)) root state
      ∙ whole_however_read p (job_for files given walk) (root_of walk) begun
      )
