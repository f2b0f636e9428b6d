-- What a crew says of its messages, where its plan is a job.
use Rattle.std.proofs.Common.{◌≡◌, ◌∙◌, ℕ, List, map, length, Ok, Err, Result, IfOk, sym, ap, ap₂, subst}
use Rattle.std.specs.declared.alloc.AllocError.{AllocError}
use Rattle.std.specs.declared.clone.Clone as Clone
use Rattle.std.specs.declared.default.Default as Default
use Rattle.std.proofs.lemmas.List.{length-map}
use Rattle.std.proofs.lemmas.Simd.{map-map}
use Rattle.jwalk_model.specs.Counted.{Worth}
use Rattle.jwalk_model.specs.ReadDir.{Spec, Outcome, children_of}
use Rattle.jwalk_model.proofs.CloneFacts.{same_length}
use Rattle.jwalk_fs.specs.declared.file_system.FileSystem as FileSystem
use Rattle.jwalk_order.specs.Addressed.{Addressed, addressed}
use Rattle.jwalk_order.specs.IndexPath.{address}
use Rattle.jwalk_order.specs.Ordered.{address_of, child_count_of}
use Rattle.jwalk_order.specs.declared.ordered.Ordered.{Ordered}
use Rattle.jwalk_board.specs.declared.board.plan.Plan as Plan
use Rattle.jwalk_job.specs.declared.process_read_dir.ProcessReadDir as ProcessReadDir
use Rattle.jwalk_job.specs.declared.error.Error.{Error}
use Rattle.jwalk_job.specs.declared.read_dir_spec.ReadDirSpec.{ReadDirSpec}
use Rattle.jwalk_job.specs.ReadDirSpec.{spec}
use Rattle.jwalk_job.specs.Given.{Given, counted_spec, counted_outcome}
use Rattle.jwalk_job.specs.declared.job.Job.{Job}
use Rattle.jwalk_job.specs.declared.read_dir.ReadDir.{ReadDir}
use Rattle.jwalk_job.specs.Job.{callback, job_by, IsSteadyJob}
use Rattle.jwalk_job.specs.Plan.{tree_of}
use Rattle.jwalk_job.specs.PlanReading.{IsPlanReading}
use Rattle.jwalk_job.specs.ReadDir.{outcome}
use Rattle.tree_crew.specs.Origin as tree
use Rattle.jwalk_readings.specs.Message.{Message, Told, told}
use Rattle.jwalk_readings.specs.Origin.{begun, CountAlike, IsAt, IsMessageOf}

module _ {C S P A R E : Type 0} (files : FileSystem.Ghosts S) (process : ProcessReadDir.Ghosts P C A R E) (clone : Clone.Ghosts R) (defaults : Default.Ghosts E) where
  -- a job as a plan
  abbrev pub job_plan : Plan.Ghosts (Job C S P A R E) A (ReadDirSpec C A R E) (Result (ReadDir C A R E) (Error A))
  job_plan = record {
    Given = Given R E;
    SpecValue = Spec Worth;
    ReadingValue = Outcome Worth Worth;
    spec_value = λ given of. counted_spec given (spec of);
    reading_value = λ given read. counted_outcome given (outcome read);
    IsLawful = λ job. process.IsLawful (callback job);
    IsReading = IsPlanReading files process clone defaults;
    IsFixed = λ job given. IsSteadyJob files process clone defaults job given;
    tree = λ job given. tree_of (job_by files given job);
  }

  -- Directories that count alike do so as the plan's specifications.
  pub alike_at : (job : Job C S P A R E) (these those : List (ReadDirSpec C A R E)) → CountAlike clone (map spec these) (map spec those) → tree.CountAlike job_plan job these those
  alike_at job these those alike given steady = sym (map-map (counted_spec given) spec these) ∙ alike given.read_dir_state steady.clones ∙ map-map (counted_spec given) spec those

  module _ (origin : tree.Origin (ReadDirSpec C A R E) (Job C S P A R E)) where
    -- A directory that is at an address of the crew's tree is there in the walk.
    at_walk : (a : List ℕ) (of : ReadDirSpec C A R E) → tree.IsAt job_plan origin a of → IsAt files process clone defaults (begun origin) a (spec of)
    at_walk a of there given steady =
        ap (λ roots. tree.at_address (λ s. (tree_of (job_by files given origin.plan)).children s) roots a) (map-map (counted_spec given) spec origin.roots) ∙ there given steady

    -- a reading that came with this many children found as many directories
    found : (of : ReadDirSpec C A R E) (count : ℕ) (r : Result (Result (ReadDir C A R E) (Error A)) AllocError) → IfOk r (tree.IsReadingWith job_plan origin.plan of count) → IfOk r (λ read. count ≡ length (children_of (outcome read)))
    found of count (Ok read) is = is.count_is ∙ sym (length-map is.children spec) ∙ same_length clone.is_clone (children_of (outcome read)) (map spec is.children) is.made.clones
    found of count (Err refused) is = tt

    -- A crew's message is the walk's own where it is handed on.
    pub message_of : (item : Ordered (Told C S P A R E) A) (given : Ordered (Message C S P A R E) A) → given.value ≡ told item.value → given.index_path ≡ item.index_path → child_count_of given ≡ child_count_of item
        → tree.IsMessageOf job_plan origin (addressed item) → IsMessageOf files process clone defaults (begun origin) (addressed given)
    message_of item given value path count is =
        let at_item : List ℕ → Message C S P A R E → ℕ → Addressed (Message C S P A R E) = λ a m n. record { at = a; value = m; child_count = n } in
        let same : addressed given ≡ at_item (address_of item) (told item.value) (child_count_of item)
        = ap₂ (λ a m. at_item a m (child_count_of given)) (ap address path) value ∙ ap (at_item (address_of item) (told item.value)) count in
        subst (IsMessageOf files process clone defaults (begun origin)) (sym same)
        (record { job = is.plan; at = at_walk (address_of item) item.value.of is.at; count = found item.value.of (child_count_of item) item.value.outcome is.reading })
