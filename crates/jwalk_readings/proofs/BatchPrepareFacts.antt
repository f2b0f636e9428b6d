-- What a call that prepares the next reading of a walk by a job is, over its directories.
use Rattle.std.proofs.Common.{◌≡◌, ◌≢◌, ◌⊎◌, ◌∙◌, ℕ, List, [], map, length, sym, ap, subst, inl, inr, ⊎_elim}
use Rattle.std.specs.Prelude.{All, Option, Result, Ok, Err, OnOk, OnErr}
use Rattle.std.specs.declared.clone.Clone as Clone
use Rattle.std.specs.declared.default.Default as Default
use Rattle.std.proofs.lemmas.List.{length-map, nil_from_length}
use Rattle.std.proofs.lemmas.List.Elements.{All-nil}
use Rattle.jwalk_fs.specs.declared.file_system.FileSystem as FileSystem
use Rattle.jwalk_order.specs.Frontier.{next_address}
use Rattle.jwalk_order.specs.Addresses.{IsAmong}
use Rattle.jwalk_board.specs.Board.{Board}
use Rattle.tree_walk.specs.BoardWalk as tree
use Rattle.tree_walk.specs.BoardWalk.{left_on, next_on}
use Rattle.jwalk_job.specs.declared.process_read_dir.ProcessReadDir as ProcessReadDir
use Rattle.jwalk_job.specs.declared.read_dir_spec.ReadDirSpec.{ReadDirSpec}
use Rattle.jwalk_job.specs.ReadDirSpec.{spec}
use Rattle.jwalk_job.specs.Given.{Given}
use Rattle.jwalk_job.specs.declared.job.Job.{Job}
use Rattle.jwalk_job.specs.PlanReading.{IsPlanReading}
use Rattle.jwalk_readings.specs.Reads.{Read, IsMade, IsSound, IsSoundOver, IsSteadyWith}
use Rattle.jwalk_readings.specs.ReadAhead.{ReadAhead, nothing_ahead, Enters, MakesReady}
use Rattle.jwalk_readings.specs.BatchReads.{BatchReads, to_read_on, early_on, ahead_of, ReadsForNext}
use Rattle.jwalk_readings.proofs.SeenFacts.{seen_least}
use Rattle.jwalk_readings.proofs.ReadFacts.{all_sound_over, all_made, all_as_given, plan_sound, joins_sound}

-- where nothing is left, nothing was to be read
none_left : {C A R E : Type 0} (b : Option (Board (ReadDirSpec C A R E) (Read C A R E))) → to_read_on b ≡ [] → (left_on b).to_read ≡ []
none_left b none = nil_from_length (left_on b).to_read (sym (length-map (left_on b).to_read spec) ∙ ap length none)

-- readings are the same where their parts are
same_parts : {C S P A R E : Type 0} {job its : Job C S P A R E} {width many : ℕ} {board other : Option (Board (ReadDirSpec C A R E) (Read C A R E))} → job ≡ its → width ≡ many → board ≡ other → ◌≡◌ {A = BatchReads C S P A R E} (record { job = job; width = width; board = board }) (record { job = its; width = many; board = other })
same_parts these those others = cc

same_reads : {C S P A R E : Type 0} (these those : BatchReads C S P A R E) → these.job ≡ those.job → these.width ≡ those.width → these.board ≡ those.board → these ≡ those
same_reads these those job width board = same_parts job width board

module _ {C S P A R E : Type 0} (files : FileSystem.Ghosts S) (process : ProcessReadDir.Ghosts P C A R E) (clone : Clone.Ghosts R) (defaults : Default.Ghosts E) (job : Job C S P A R E) (width : ℕ) where
  -- a directory that was made ready and is entered then is entered by what was read for it
  pub ready_enters : (at : List ℕ) (old mid new : ReadAhead R) → MakesReady files process clone defaults job width at old mid → Enters files process clone defaults job width at mid new → Enters files process clone defaults job width at old new
  ready_enters at old mid new ready enters = elim enters [
    | inl before ↦ inr (ready.unread, (mid, ready.least, before.1))
    | inr more ↦ absurd (more.0 ready.read)
  ]

  module _ (old new : Option (Board (ReadDirSpec C A R E) (Read C A R E))) (early : All (IsMade clone job) (early_on old)) where
    abbrev Counts : Given R E → Type 0
    Counts = IsSteadyWith files process clone defaults job (early_on old)

    was_sound : All (IsSoundOver files clone Counts job) (early_on old)
    was_sound = all_sound_over files clone Counts job (early_on old) early (λ given steady. steady.early)

    abbrev Reads : Type 0
    Reads = tree.ReadsForNext (IsPlanReading files process clone defaults job) width old new

    abbrev Prepares : {F : Type 0} → Result (Unit {0}) F → Type 0
    Prepares result = tree.Prepares (IsPlanReading files process clone defaults job) width old result new

    sound_after : (new ≡ old) ⊎ Reads → All (IsSoundOver files clone Counts job) (early_on new)
    sound_after reads =
        ⊎_elim
        (λ (same : new ≡ old). subst (λ b. All (IsSoundOver files clone Counts job) (early_on b)) (sym same) was_sound)
        (λ (r : Reads). joins_sound files process clone defaults job Counts (λ given steady. steady.steady) r.reads.readings old new r.reads.sound r.reads.join was_sound)
        reads

    sound : {F : Type 0} (result : Result (Unit {0}) F) → Prepares result → All (IsSoundOver files clone Counts job) (early_on new)
    sound (Ok done) p = sound_after p.reads
    sound (Err e) p = subst (λ b. All (IsSoundOver files clone Counts job) (early_on b)) (sym p.stopped) (All-nil _)

    -- what is kept was made lawfully
    pub made_prepared : {F : Type 0} (result : Result (Unit {0}) F) → Prepares result → All (IsMade clone job) (early_on new)
    made_prepared result p = all_made files clone Counts job (early_on new) (sound result p)

    pub steady_prepared : {F : Type 0} (result : Result (Unit {0}) F) → Prepares result → (given : Given R E) → IsSteadyWith files process clone defaults job (early_on old) given → IsSteadyWith files process clone defaults job (early_on new) given
    steady_prepared result p given steady = record { steady = steady.steady; early = all_as_given files clone Counts job (early_on new) (sound result p) given steady }

    pub stopped_prepared : {F : Type 0} (result : Result (Unit {0}) F) → Prepares result → OnErr result (to_read_on new ≡ [])
    stopped_prepared (Ok done) p = tt
    stopped_prepared (Err e) p = ap to_read_on p.stopped

    pub nothing_prepared : {F : Type 0} (result : Result (Unit {0}) F) → Prepares result → OnErr result (ahead_of new ≡ nothing_ahead)
    nothing_prepared (Ok done) p = tt
    nothing_prepared (Err e) p = ap ahead_of p.stopped

    pub some_unprepared : {F : Type 0} (result : Result (Unit {0}) F) → Prepares result → OnErr result (to_read_on old ≢ [])
    some_unprepared (Ok done) p = tt
    some_unprepared (Err e) p = λ none. p.some (none_left old none)

    pub ready_prepared : {F : Type 0} (result : Result (Unit {0}) F) → Prepares result → OnOk result ((to_read_on new ≡ []) ⊎ IsAmong (next_on new) (ahead_of new).done)
    ready_prepared (Err e) p = tt
    ready_prepared (Ok done) p = elim p.ready [
      | inl none ↦ inl (ap (map spec) none)
      | inr there ↦ inr there
    ]

  -- the readings stay as they are, or some are made for the next
  pub reads_prepared : {F : Type 0} (old new : BatchReads C S P A R E) (result : Result (Unit {0}) F) → old.job ≡ job → old.width ≡ width → new.job ≡ job → new.width ≡ width → tree.Prepares (IsPlanReading files process clone defaults job) width old.board result new.board → OnOk result ((new ≡ old) ⊎ ReadsForNext files process clone defaults old new)
  reads_prepared old new (Err e) was many is_job is_width p = tt
  reads_prepared old new (Ok done) was many is_job is_width p = elim p.reads [
    | inl same ↦ inl (same_reads new old (is_job ∙ sym was) (is_width ∙ sym many) same)
    | inr r ↦ inr (record {
      some = λ none. r.some (none_left old.board none);
      same = ap (map spec) r.reads.same;
      frontier = r.frontier;
      ready = rw (was, many) (record {
        unread = r.unread;
        least = seen_least spec (λ (q : Read C A R E). q.of) _ (IsSound files process clone defaults job) (plan_sound files process clone defaults job) width (tree.ahead_of old.board) (tree.ahead_of new.board) r.least;
        read = subst (λ l. IsAmong (next_address l) (ahead_of new.board).done) r.frontier r.read;
      });
    })
  ]
