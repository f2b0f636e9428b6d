-- What is known of readings that were made, of those that are kept, and of one that is handed on.
use Rattle.std.proofs.Common.{◌≡◌, ◌∷◌, ◌++◌, List, [], map, length, sym, ap, ◌∙◌, subst}
use Rattle.std.specs.Prelude.{ℕ, All, Option, Some, Result}
use Rattle.std.specs.declared.clone.Clone as Clone
use Rattle.std.specs.declared.default.Default as Default
use Rattle.std.specs.List.Sorted.{IsPermutation}
use Rattle.std.proofs.lemmas.List.{map-append, length-map}
use Rattle.std.proofs.lemmas.List.Elements.{All-nil, All-cons, All-head, All-tail, All-append, All-map, All-weaker}
use Rattle.std.proofs.lemmas.List.Sorted.{All-permutation}
use Rattle.jwalk_model.specs.ReadDir.{Spec, children_of}
use Rattle.jwalk_model.proofs.CloneFacts.{same_length}
use Rattle.jwalk_fs.specs.declared.file_system.FileSystem as FileSystem
use Rattle.jwalk_order.specs.Frontier.{passed}
use Rattle.jwalk_board.specs.Board.{Board}
use Rattle.tree_walk.specs.Reads as tree
use Rattle.tree_walk.specs.BoardWalk.{left_on, frontier_on, GivesFirst}
use Rattle.jwalk_job.specs.declared.process_read_dir.ProcessReadDir as ProcessReadDir
use Rattle.jwalk_job.specs.declared.read_dir_spec.ReadDirSpec.{ReadDirSpec}
use Rattle.jwalk_job.specs.declared.error.Error.{Error}
use Rattle.jwalk_job.specs.ReadDirSpec.{spec}
use Rattle.jwalk_job.specs.Given.{Given}
use Rattle.jwalk_job.specs.declared.job.Job.{Job}
use Rattle.jwalk_job.specs.declared.read_dir.ReadDir.{ReadDir}
use Rattle.jwalk_job.specs.Job.{IsSteadyJob}
use Rattle.jwalk_job.specs.PlanReading.{IsPlanReading}
use Rattle.jwalk_job.specs.ReadDir.{outcome}
use Rattle.jwalk_readings.specs.Reads.{Read, IsMade, MadeAsGiven, IsSoundOver, IsSound, ReadsFirst}
use Rattle.jwalk_readings.specs.BatchReads.{seen_made, to_read_on, early_on, PassesAddress}
use Rattle.jwalk_readings.proofs.SeenFacts.{All-seen}

module _ {C S P A R E : Type 0} (files : FileSystem.Ghosts S) (clone : Clone.Ghosts R) (counts : Given R E → Type 0) (job : Job C S P A R E) where
  abbrev Sound : Read C A R E × List (Spec R) → Type 0
  Sound = IsSoundOver files clone counts job

  -- What was made lawfully, and as given over all that counts, is sound.
  pub all_sound_over : (made : List (Read C A R E × List (Spec R))) → All (IsMade clone job) made → ((given : Given R E) → counts given → All (MadeAsGiven files given job) made) → All Sound made
  all_sound_over [] lawful value = All-nil _
  all_sound_over (m ∷ made) lawful value =
      let mine = All-head (IsMade clone job) m made lawful in
      All-cons Sound m made
      (record { reading = record { lawful = mine.lawful; few = mine.few; value = λ given c. All-head (MadeAsGiven files given job) m made (value given c) }; clones = mine.clones })
      (all_sound_over made (All-tail (IsMade clone job) m made lawful) (λ given c. All-tail (MadeAsGiven files given job) m made (value given c)))

  -- What is sound was made lawfully,
  pub all_made : (made : List (Read C A R E × List (Spec R))) → All Sound made → All (IsMade clone job) made
  all_made made = All-weaker Sound (IsMade clone job) (λ m s. record { lawful = s.reading.lawful; few = s.reading.few; clones = s.clones }) made

  -- and is as given over all that counts.
  pub all_as_given : (made : List (Read C A R E × List (Spec R))) → All Sound made → (given : Given R E) → counts given → All (MadeAsGiven files given job) made
  all_as_given made sound given c = All-weaker Sound (MadeAsGiven files given job) (λ m s. s.reading.value given c) made sound

module _ {C S P A R E : Type 0} (files : FileSystem.Ghosts S) (process : ProcessReadDir.Ghosts P C A R E) (clone : Clone.Ghosts R) (defaults : Default.Ghosts E) (job : Job C S P A R E) where
  abbrev IsPlanSound : Read C A R E × List (ReadDirSpec C A R E) → Type 0
  IsPlanSound = tree.IsSound (IsPlanReading files process clone defaults job)

  -- what a job's plan reads is sound
  pub plan_sound : (m : Read C A R E × List (ReadDirSpec C A R E)) → IsPlanSound m → IsSound files process clone defaults job (seen_made m)
  plan_sound m s = record { reading = s.reading; clones = s.clones }

  module _ (counts : Given R E → Type 0) (steady : (given : Given R E) → counts given → IsSteadyJob files process clone defaults job given) where
    abbrev IsSeenSound : Read C A R E × List (ReadDirSpec C A R E) → Type 0
    IsSeenSound m = IsSoundOver files clone counts job (seen_made m)

    -- what is made now is as sound as what was made before
    fresh_sound : (fresh made : List (Read C A R E × List (ReadDirSpec C A R E))) → All IsPlanSound fresh → All (IsSoundOver files clone counts job) (map seen_made made) → All IsSeenSound (fresh ++ made)
    fresh_sound fresh made sound early =
        All-append IsSeenSound fresh made
        (All-weaker IsPlanSound IsSeenSound (λ m s. record { reading = record { lawful = s.reading.lawful; few = s.reading.few; value = λ given c. s.reading.value given (steady given c) }; clones = s.clones }) fresh sound)
        (All-seen (IsSoundOver files clone counts job) seen_made made early)

    -- where more are made, and none is given, all stay sound
    pub joins_sound : (fresh : List (Read C A R E × List (ReadDirSpec C A R E))) (old new : Option (Board (ReadDirSpec C A R E) (Read C A R E))) → All IsPlanSound fresh → IsPermutation (fresh ++ (left_on old).made) (left_on new).made → All (IsSoundOver files clone counts job) (early_on old) → All (IsSoundOver files clone counts job) (early_on new)
    joins_sound fresh old new sound join early =
        All-map (IsSoundOver files clone counts job) seen_made (left_on new).made
        (All-permutation IsSeenSound (fresh ++ (left_on old).made) (left_on new).made join (fresh_sound fresh (left_on old).made sound early))

    -- A reading is given, of those that were made now or before.
    module _ (width : ℕ) (old new : Option (Board (ReadDirSpec C A R E) (Read C A R E))) (read : Result (ReadDir C A R E) (Error A)) (g : GivesFirst (IsPlanReading files process clone defaults job) width old read new) (early : All (IsSoundOver files clone counts job) (early_on old)) where
      all_seen : All IsSeenSound ((g.read, g.children) ∷ (left_on new).made)
      all_seen = All-permutation IsSeenSound (g.fresh ++ (left_on old).made) ((g.read, g.children) ∷ (left_on new).made) g.leaves (fresh_sound g.fresh (left_on old).made g.sound early)

      -- what is kept stays sound
      pub keeps_sound : All (IsSoundOver files clone counts job) (early_on new)
      keeps_sound = All-map (IsSoundOver files clone counts job) seen_made (left_on new).made (All-tail IsSeenSound (g.read, g.children) (left_on new).made all_seen)

      mine : IsSeenSound (g.read, g.children)
      mine = All-head IsSeenSound (g.read, g.children) (left_on new).made all_seen

      -- what is given is a reading of the first
      pub gives_first : ReadsFirst files clone counts job (to_read_on old) (outcome read) (to_read_on new)
      gives_first =
          subst (λ r. ReadsFirst files clone counts job (to_read_on old) (outcome r) (to_read_on new)) g.of
          (record {
            first = spec g.read.of;
            rest = map spec g.rest;
            took = ap (map spec) g.took;
            reading = mine.reading;
            stacks = record { front = map spec g.children; left = ap (map spec) g.left ∙ map-append spec g.children g.rest; clones = mine.clones };
          })

      -- the addresses of the directories in it take the place of the first
      pub passes_first : PassesAddress (frontier_on old) (Some (outcome read)) (frontier_on new)
      passes_first =
          let many : length g.children ≡ length (children_of (outcome read)) = sym (length-map g.children spec) ∙ same_length clone.is_clone (children_of (outcome g.read.reading)) (map spec g.children) mine.clones ∙ ap (λ r. length (children_of (outcome r))) g.of in
          g.passes ∙ ap (passed (frontier_on old)) many
