-- Readings of which none was made early.
use Rattle.std.proofs.Common.{◌≡◌, ◌∙◌, ◌≤◌, ℕ, ◌+◌, false, List, [], length, Option, Some, None, Result, Ok, Err, IfOk, refl, sym, ap}
use Rattle.std.proofs.lemmas.List.{length-map, nil_from_length}
use Rattle.std.proofs.lemmas.List.Elements.{All-nil}
use Rattle.std.specs.declared.clone.Clone as Clone
use Rattle.std.specs.declared.default.Default as Default
use Rattle.jwalk_model.specs.ReadDir.{Spec}
use Rattle.jwalk_fs.specs.declared.file_system.FileSystem as FileSystem
use Rattle.jwalk_job.specs.declared.process_read_dir.ProcessReadDir as ProcessReadDir
use Rattle.jwalk_job.specs.declared.read_dir_spec.ReadDirSpec.{ReadDirSpec}
use Rattle.jwalk_job.specs.Given.{Given}
use Rattle.jwalk_job.specs.Job.{IsSteadyJob}
use Rattle.jwalk_board.specs.Board.{Board}
use Rattle.jwalk_readings.specs.Reads.{Read, MadeAsGiven}
use Rattle.jwalk_readings.specs.ReadAhead.{BeginsWith}
use Rattle.jwalk_readings.specs.BatchReads as board
use Rattle.jwalk_readings.specs.BatchReads.{BatchReads, IsSteadyBatches}
use Rattle.jwalk_readings.specs.declared.readers.Readers as Readers
use Rattle.jwalk_readings.specs.declared.read_dir_iter.ReadDirIter.{ReadDirIter}
use Rattle.jwalk_readings.specs.declared.read_dir_iter.ReadDirIter.TheVariants.{Walk, CrewWalk}
use Rattle.jwalk_readings.specs.ReadDirIter.{by_crew, job_of, read_ahead, frontier_of, IsSteadyReads, StartsSteady}

-- readings that were made and not handed on are as many as their addresses
pub as_many : {C A R E : Type 0} (b : Option (Board (ReadDirSpec C A R E) (Read C A R E))) → length (board.early_on b) ≡ length (board.ahead_of b).done
as_many None = refl
as_many (Some b) = length-map _ _ ∙ length-map b.ready _ ∙ sym (length-map b.ready _)

-- so what grows by less than a width in the one does in the other
pub fewer_done : {C S P A R E : Type 0} (old new : BatchReads C S P A R E) (width : ℕ) → length (board.early_of new) + 1 ≤ length (board.early_of old) + width → length (board.read_ahead new).done + 1 ≤ length (board.read_ahead old).done + width
fewer_done old new width fewer = rw (sym (as_many new.board), sym (as_many old.board)) fewer

steady_board : {C S P A R E : Type 0} (files : FileSystem.Ghosts S) (process : ProcessReadDir.Ghosts P C A R E) (clone : Clone.Ghosts R) (defaults : Default.Ghosts E) (walk : BatchReads C S P A R E) (given : Given R E) → IsSteadyJob files process clone defaults walk.job given → (board.read_ahead walk).done ≡ [] → IsSteadyBatches files process clone defaults walk given
steady_board files process clone defaults walk given steady none =
    let early = board.early_of walk in
    let nothing : early ≡ [] = nil_from_length early (as_many walk.board ∙ ap length none) in
    record { steady = steady; early = rw nothing (All-nil (MadeAsGiven files given walk.job)) }

-- where nothing was read early over a steady job, it is steady
pub steady_at_rest : {C S P A L R E : Type 0} (files : FileSystem.Ghosts S) (process : ProcessReadDir.Ghosts P C A R E) (clone : Clone.Ghosts R) (defaults : Default.Ghosts E) (readers : Readers.Ghosts L C S P A R E) (it : ReadDirIter C S P A L R E) (given : Given R E) → by_crew it ≡ false → IsSteadyJob files process clone defaults (job_of it) given → (read_ahead it).done ≡ [] → IsSteadyReads files process clone defaults readers it given
steady_at_rest files process clone defaults readers (Walk walk) given own steady none = steady_board files process clone defaults walk given steady none
steady_at_rest files process clone defaults readers (CrewWalk reads) given own steady none = absurd cc

-- so readings that begin with their roots are steady, if no crew makes them
pub alone_steady : {C S P A L R E F : Type 0} (files : FileSystem.Ghosts S) (process : ProcessReadDir.Ghosts P C A R E) (clone : Clone.Ghosts R) (defaults : Default.Ghosts E) (readers : Readers.Ghosts L C S P A R E) (roots : List (Spec R)) (made : Result (ReadDirIter C S P A L R E) F) → IfOk made (λ it. by_crew it ≡ false) → IfOk made (λ it. BeginsWith roots (frontier_of it) (read_ahead it)) → IfOk made (StartsSteady files process clone defaults readers)
alone_steady files process clone defaults readers roots (Ok it) own begins = λ given steady. steady_at_rest files process clone defaults readers it given own steady begins.done
alone_steady files process clone defaults readers roots (Err f) own begins = tt
