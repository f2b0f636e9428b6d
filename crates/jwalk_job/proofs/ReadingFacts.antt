-- Readings of a directory that was listed, and of one that is not to be read.
use Rattle.std.proofs.Common.{◌≡◌, ◌+◌, ◌<◌, ◌^◌, true, false, [], Some, Ok, length, ap, sym, refl, arith}
use Rattle.std.specs.Prelude.{nat_le}
use Rattle.std.specs.declared.clone.Clone as Clone
use Rattle.std.specs.declared.default.Default as Default
use Rattle.jwalk_model.specs.Entry.{AtDepth}
use Rattle.jwalk_model.specs.ReadDir.{Spec, Reading}
use Rattle.jwalk_model.specs.Job as value
use Rattle.jwalk_fs.specs.declared.file_system.FileSystem as FileSystem
use Rattle.jwalk_job.specs.declared.process_read_dir.ProcessReadDir as ProcessReadDir
use Rattle.jwalk_job.specs.declared.job.Job.{Job}
use Rattle.jwalk_job.specs.Given.{Given, counted_spec, counted_reading}
use Rattle.jwalk_job.specs.Job.{file_system, callback, greatest_depth, job_by, GoesAsGiven, IsSteadyJob, IsReadingOf}
use Rattle.jwalk_job.specs.Gathering.{IsListed}

module _ {C S P A R E : Type 0} (files : FileSystem.Ghosts S) (process : ProcessReadDir.Ghosts P C A R E) (clone : Clone.Ghosts R) (defaults : Default.Ghosts E) (job : Job C S P A R E) (spec : Spec R) where
  -- over a steady job the callback is as given, with clones and defaults
  pub goes_as_given : {given : Given R E} → IsSteadyJob files process clone defaults job given → GoesAsGiven files process clone defaults (callback job) given
  goes_as_given steady = record { callback = steady.callback; clones = steady.clones; default = steady.default }

  -- at the greatest depth nothing is read
  pub not_read : (state : R) → nat_le (greatest_depth job) spec.depth ≡ true → clone.is_clone spec.state state → IsReadingOf files process clone defaults job spec (Ok (record { state = state; list = [] }))
  not_read state deep cloned = record {
    lawful = (tt, λ at. refl);
    few = omega arith;
    value = λ given steady. rw deep (ap (λ s. Ok (record { state = s; list = [] })) (steady.clones spec.state state cloned));
  }

  -- above it a listing is read
  pub was_listed : (r : Reading R E) → spec.depth < greatest_depth job → nat_le (greatest_depth job) spec.depth ≡ false → AtDepth (spec.depth + 1) r.list → length r.list < 2 ^ 64
      → ((given : Given R E) → IsSteadyJob files process clone defaults job given → IsListed (files.functions (file_system job)) spec.path (λ listing. given.processed (Some spec.depth) spec.path (given.read_dir_state spec.state) (value.ordered (job_by files given job) (counted_spec given spec) listing) ≡ counted_reading given r))
      → IsReadingOf files process clone defaults job spec (Ok r)
  was_listed r higher above depth few made = record {
    lawful = (depth, λ deep. absurd (omega (arith, deep, higher)));
    few = few;
    value = λ given steady. let is = made given steady in rw (above, is.1) (ap Ok (sym is.2));
  }
