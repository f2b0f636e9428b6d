-- What one call of a walk over a board by a job is, over its directories.
use Rattle.std.proofs.Common.{◌≡◌, ◌≢◌, ◌≤◌, ◌+◌, ℕ, [], map, length, sym, ap, ◌∙◌, subst, arith}
use Rattle.std.specs.Prelude.{All, Option, Some, None, Result, Ok, Err, IfOk, OnErr, option_map}
use Rattle.std.specs.declared.clone.Clone as Clone
use Rattle.std.specs.declared.default.Default as Default
use Rattle.std.proofs.lemmas.List.{length-map, nil_from_length}
use Rattle.std.proofs.lemmas.List.Elements.{All-nil}
use Rattle.jwalk_fs.specs.declared.file_system.FileSystem as FileSystem
use Rattle.jwalk_board.specs.Board.{Board}
use Rattle.tree_walk.specs.BoardWalk as tree
use Rattle.tree_walk.specs.BoardWalk.{left_on, frontier_on, next_on, GivesNext}
use Rattle.jwalk_job.specs.declared.process_read_dir.ProcessReadDir as ProcessReadDir
use Rattle.jwalk_job.specs.declared.read_dir_spec.ReadDirSpec.{ReadDirSpec}
use Rattle.jwalk_job.specs.declared.error.Error.{Error}
use Rattle.jwalk_job.specs.ReadDirSpec.{spec}
use Rattle.jwalk_job.specs.Given.{Given}
use Rattle.jwalk_job.specs.declared.job.Job.{Job}
use Rattle.jwalk_job.specs.declared.read_dir.ReadDir.{ReadDir}
use Rattle.jwalk_job.specs.PlanReading.{IsPlanReading}
use Rattle.jwalk_job.specs.ReadDir.{outcome}
use Rattle.jwalk_readings.specs.Reads.{Read, IsMade, IsSound, IsSoundOver, IsSteadyWith, ReadsNext}
use Rattle.jwalk_readings.specs.ReadAhead.{nothing_ahead, EntersNext}
use Rattle.jwalk_readings.specs.BatchReads.{seen_made, to_read_on, early_on, ahead_of, PassesAddress}
use Rattle.jwalk_readings.proofs.SeenFacts.{seen_enters_next}
use Rattle.jwalk_readings.proofs.ReadFacts.{all_sound_over, all_made, all_as_given, plan_sound, keeps_sound, gives_first, passes_first}

module _ {C S P A R E : Type 0} (files : FileSystem.Ghosts S) (process : ProcessReadDir.Ghosts P C A R E) (clone : Clone.Ghosts R) (defaults : Default.Ghosts E) (job : Job C S P A R E) (width : ℕ)
    (old new : Option (Board (ReadDirSpec C A R E) (Read C A R E))) (early : All (IsMade clone job) (early_on old)) where
  abbrev Counts : Given R E → Type 0
  Counts = IsSteadyWith files process clone defaults job (early_on old)

  was_sound : All (IsSoundOver files clone Counts job) (early_on old)
  was_sound = all_sound_over files clone Counts job (early_on old) early (λ given steady. steady.early)

  sound_after : (o : Option (Result (ReadDir C A R E) (Error A))) → GivesNext (IsPlanReading files process clone defaults job) width old o new → All (IsSoundOver files clone Counts job) (early_on new)
  sound_after None g = subst (λ b. All (IsSoundOver files clone Counts job) (early_on b)) (sym g.1) was_sound
  sound_after (Some read) g = keeps_sound files process clone defaults job Counts (λ given steady. steady.steady) width old new read g was_sound

  next_given : (o : Option (Result (ReadDir C A R E) (Error A))) → GivesNext (IsPlanReading files process clone defaults job) width old o new → ReadsNext files clone Counts job (to_read_on old) (option_map outcome o) (to_read_on new)
  next_given None g = (ap (map spec) g.0, ap to_read_on g.1 ∙ ap (map spec) g.0)
  next_given (Some read) g = gives_first files process clone defaults job Counts (λ given steady. steady.steady) width old new read g was_sound

  passes_given : (o : Option (Result (ReadDir C A R E) (Error A))) → GivesNext (IsPlanReading files process clone defaults job) width old o new → PassesAddress (frontier_on old) (option_map outcome o) (frontier_on new)
  passes_given None g = ap frontier_on g.1
  passes_given (Some read) g = passes_first files process clone defaults job Counts (λ given steady. steady.steady) width old new read g was_sound

  module _ {F : Type 0} where
    abbrev Answers : Result (Option (Result (ReadDir C A R E) (Error A))) F → Type 0
    Answers answer = tree.Answers (IsPlanReading files process clone defaults job) width old answer new

    sound : (answer : Result (Option (Result (ReadDir C A R E) (Error A))) F) → Answers answer → All (IsSoundOver files clone Counts job) (early_on new)
    sound (Ok o) a = sound_after o a.next
    sound (Err e) a = subst (λ b. All (IsSoundOver files clone Counts job) (early_on b)) (sym a.stopped) (All-nil _)

    -- what is kept was made lawfully
    pub made_after : (answer : Result (Option (Result (ReadDir C A R E) (Error A))) F) → Answers answer → All (IsMade clone job) (early_on new)
    made_after answer a = all_made files clone Counts job (early_on new) (sound answer a)

    pub steady_after : (answer : Result (Option (Result (ReadDir C A R E) (Error A))) F) → Answers answer → (given : Given R E) → IsSteadyWith files process clone defaults job (early_on old) given → IsSteadyWith files process clone defaults job (early_on new) given
    steady_after answer a given steady = record { steady = steady.steady; early = all_as_given files clone Counts job (early_on new) (sound answer a) given steady }

    pub ahead_after : (answer : Result (Option (Result (ReadDir C A R E) (Error A))) F) → Answers answer → length (early_on new) + 1 ≤ length (early_on old) + width
    ahead_after answer a = omega (arith, a.ahead, length-map (left_on old).made seen_made, length-map (left_on new).made seen_made)

    pub stopped_after : (answer : Result (Option (Result (ReadDir C A R E) (Error A))) F) → Answers answer → OnErr answer (to_read_on new ≡ [])
    stopped_after (Ok o) a = tt
    stopped_after (Err e) a = ap to_read_on a.stopped

    pub nothing_after : (answer : Result (Option (Result (ReadDir C A R E) (Error A))) F) → Answers answer → OnErr answer (ahead_of new ≡ nothing_ahead)
    nothing_after (Ok o) a = tt
    nothing_after (Err e) a = ap ahead_of a.stopped

    pub some_before : (answer : Result (Option (Result (ReadDir C A R E) (Error A))) F) → Answers answer → OnErr answer (to_read_on old ≢ [])
    some_before (Ok o) a = tt
    some_before (Err e) a = λ none. a.some (nil_from_length (left_on old).to_read (sym (length-map (left_on old).to_read spec) ∙ ap length none))

    pub next_after : (answer : Result (Option (Result (ReadDir C A R E) (Error A))) F) → Answers answer → IfOk answer (λ o. ReadsNext files clone Counts job (to_read_on old) (option_map outcome o) (to_read_on new))
    next_after (Ok o) a = next_given o a.next
    next_after (Err e) a = tt

    pub enters_after : (answer : Result (Option (Result (ReadDir C A R E) (Error A))) F) → Answers answer → IfOk answer (λ o. EntersNext files process clone defaults job width (next_on old) (ahead_of old) (option_map outcome o) (ahead_of new))
    enters_after (Ok o) a = seen_enters_next spec (λ (q : Read C A R E). q.of) _ (IsSound files process clone defaults job) (plan_sound files process clone defaults job) outcome width (next_on old) (tree.ahead_of old) (tree.ahead_of new) o a.enters
    enters_after (Err e) a = tt

    pub passes_after : (answer : Result (Option (Result (ReadDir C A R E) (Error A))) F) → Answers answer → IfOk answer (λ o. PassesAddress (frontier_on old) (option_map outcome o) (frontier_on new))
    passes_after (Ok o) a = passes_given o a.next
    passes_after (Err e) a = tt
