-- What a crew's message says of the awaited directory.
use Rattle.std.proofs.Common.{◌≡◌, ◌∙◌, ◌+◌, ℕ, List, Ok, Err, sym, ap, subst, arith}
use Rattle.std.specs.Prelude.{IsOkAnd}
use Rattle.std.specs.declared.clone.Clone as Clone
use Rattle.std.specs.declared.default.Default as Default
use Rattle.jwalk_model.specs.Options.{ReadsAs}
use Rattle.jwalk_model.specs.Entry.{AtDepth}
use Rattle.jwalk_model.specs.ReadDir.{Directory, Spec, Outcome, IsLawfulReading}
use Rattle.jwalk_fs.specs.declared.file_system.FileSystem as FileSystem
use Rattle.jwalk_order.specs.declared.ordered.Ordered.{Ordered}
use Rattle.jwalk_job.specs.declared.process_read_dir.ProcessReadDir as ProcessReadDir
use Rattle.jwalk_job.specs.declared.job.Job.{Job}
use Rattle.jwalk_job.specs.ReadDirSpec.{spec}
use Rattle.jwalk_job.specs.ReadDir.{outcome}
use Rattle.jwalk_job.specs.Job.{options_of, greatest_depth, IsReadingOf, IsReadingBy}
use Rattle.jwalk_readings.specs.declared.wanted.Wanted.{Wanted}
use Rattle.jwalk_readings.specs.Message.{Message}
use Rattle.jwalk_readings.specs.Wanted.{IsFor, Fits}
use Rattle.jwalk_readings.specs.CrewReads.{IsTold}

-- a lawful outcome is one of every directory at this depth, up to the same greatest depth
lawful_there : {R E : Type 0} (max_depth reads_to : ℕ) (of s : Spec R) (o : Outcome R E) → reads_to ≡ max_depth → of.depth ≡ s.depth → IsLawfulReading reads_to of o → IsLawfulReading max_depth s o
lawful_there max_depth reads_to of s (Ok r) same there lawful = (subst (λ d. AtDepth (d + 1) r.list) there lawful.0, λ deep. lawful.1 (omega (arith, same, there, deep)))
lawful_there max_depth reads_to of s (Err f) same there lawful = (omega (arith, same, there, lawful.0), lawful.1)

module _ {C S P A R E : Type 0} (files : FileSystem.Ghosts S) (process : ProcessReadDir.Ghosts P C A R E) (clone : Clone.Ghosts R) (defaults : Default.Ghosts E) (job : Job C S P A R E) (s : Spec R) (o : Outcome R E) where
  -- a message that fits what is awaited reports the directory's reading
  pub told : (at : List ℕ) (wanted : Wanted A) (item : Ordered (Message C S P A R E) A) → IsFor at s (options_of job) wanted → Fits wanted item → IsOkAnd item.value.outcome (λ read. outcome read ≡ o) → IsReadingOf files process clone defaults item.value.job (spec item.value.of) o → IsTold files process clone defaults job at s o
  told at wanted item is fits came reading = record {
    message = item;
    address = fits.at ∙ is.at;
    told = came;
    options = subst (ReadsAs (options_of item.value.job)) is.options fits.options;
    place = fits.of ∙ sym is.of;
    reading = reading;
  }

  -- what is reported of a directory is a reading of it
  pub told_reading : (at : List ℕ) → IsTold files process clone defaults job at s o → IsReadingBy (IsTold files process clone defaults job at) (greatest_depth job) s o
  told_reading at tells = record {
    lawful = lawful_there (greatest_depth job) (greatest_depth tells.message.value.job) (spec tells.message.value.of) s o tells.options.max_depth (ap (λ (d : Directory). d.depth) tells.place) tells.reading.lawful;
    few = tells.reading.few;
    value = tells;
  }
