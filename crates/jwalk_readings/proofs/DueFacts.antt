-- The reading at the address that comes next is the one that is due.
use Rattle.std.proofs.Common.{◌≡◌, ◌∙◌, sym, ap, subst, Some, List, ℕ}
use Rattle.std.specs.declared.clone.Clone as Clone
use Rattle.std.specs.declared.default.Default as Default
use Rattle.std.proofs.lemmas.Option.{same_Some}
use Rattle.jwalk_model.specs.Options.{ReadsAs}
use Rattle.jwalk_model.specs.ReadDir.{Spec}
use Rattle.jwalk_model.specs.Counted.{Worth}
use Rattle.jwalk_fs.specs.declared.file_system.FileSystem as FileSystem
use Rattle.jwalk_order.specs.Frontier.{next_address}
use Rattle.jwalk_order.specs.Ordered.{address_of}
use Rattle.jwalk_order.specs.declared.ordered.Ordered.{Ordered}
use Rattle.jwalk_order.specs.Addressed.{addressed}
use Rattle.jwalk_job.specs.declared.process_read_dir.ProcessReadDir as ProcessReadDir
use Rattle.jwalk_job.specs.Given.{counted_spec}
use Rattle.jwalk_job.specs.Job.{options_of}
use Rattle.jwalk_job.specs.Options.{options_value}
use Rattle.jwalk_job.specs.ReadDirSpec.{spec}
use Rattle.jwalk_readings.specs.declared.wanted.Wanted.{Wanted}
use Rattle.jwalk_readings.specs.Due.{IsDue}
use Rattle.jwalk_readings.specs.Message.{Message}
use Rattle.jwalk_readings.specs.Origin.{Origin, IsMessageOf, spec_at}
use Rattle.jwalk_readings.specs.Wanted.{Fits}

module _ {C S P A R E : Type 0} (files : FileSystem.Ghosts S) (process : ProcessReadDir.Ghosts P C A R E) (clone : Clone.Ghosts R) (defaults : Default.Ghosts E) (origin : Origin C S P A R E) where
  pub due_fits : (awaited : List (List ℕ)) (wanted : Wanted A) (item : Ordered (Message C S P A R E) A) → IsDue files process clone defaults origin awaited wanted
      → address_of item ≡ next_address awaited → IsMessageOf files process clone defaults origin (addressed item) → Fits wanted item
  due_fits awaited wanted item due next of =
      let stands = subst (λ a. spec_at files process clone defaults origin due.given a ≡ Some (counted_spec due.given (spec item.value.of))) next (of.at due.given due.steady) in
      record {
        at = next ∙ sym due.next;
        of = ap (λ (s : Spec Worth). s.directory) (same_Some _ _ (sym stands ∙ due.stands)) ∙ due.wanted_one;
        options = subst (λ job. ReadsAs (options_of job) (options_value wanted.options)) (sym of.job) due.options;
      }
