-- Readings that are given one by one, over a source.
use Rattle.std.proofs.Common.{ℕ, true, refl, arith, List, Option, Some, None, Result, Ok, Err, IfOk}
use Rattle.std.specs.Prelude.{option_map}
use Rattle.std.specs.declared.clone.Clone as Clone
use Rattle.jwalk_model.specs.ReadDir.{Spec, Outcome}
use Rattle.jwalk_readings.specs.Reads.{ReadsNextBy}
use Rattle.std.specs.declared.default.Default as Default
use Rattle.jwalk_fs.specs.declared.file_system.FileSystem as FileSystem
use Rattle.jwalk_job.specs.declared.process_read_dir.ProcessReadDir as ProcessReadDir
use Rattle.jwalk_job.specs.declared.job.Job.{Job}
use Rattle.jwalk_readings.specs.ReadAhead.{nothing_ahead}
use Rattle.jwalk_readings.specs.Source.{EntersNextIn}
use Rattle.jwalk_readings.specs.Sources.{source_by}

pub reads_in : {R E : Type 0} (clone : Clone.Ghosts R) (known more : Spec R → Outcome R E → Type 0) (max_depth : ℕ) → ((s : Spec R) (o : Outcome R E) → known s o → more s o) → (old : List (Spec R)) (read : Option (Outcome R E)) (new : List (Spec R)) → ReadsNextBy clone.is_clone known max_depth old read new → ReadsNextBy clone.is_clone more max_depth old read new
reads_in clone known more max_depth within old None new reads = reads
reads_in clone known more max_depth within old (Some o) new reads =
    let reading = reads.reading in
    record { first = reads.first; rest = reads.rest; took = reads.took; reading = record { lawful = reading.lawful; few = reading.few; value = within reads.first o reading.value }; stacks = record { front = reads.stacks.front; left = reads.stacks.left; clones = reads.stacks.clones } }

pub ok_reads_in : {T F R E : Type 0} (clone : Clone.Ghosts R) (known more : Spec R → Outcome R E → Type 0) (max_depth : ℕ) → ((s : Spec R) (o : Outcome R E) → known s o → more s o) → (view : T → Outcome R E) (old new : List (Spec R)) (result : Result (Option T) F) → IfOk result (λ o. ReadsNextBy clone.is_clone known max_depth old (option_map view o) new) → IfOk result (λ o. ReadsNextBy clone.is_clone more max_depth old (option_map view o) new)
ok_reads_in clone known more max_depth within view old new (Ok o) reads = reads_in clone known more max_depth within old (option_map view o) new reads
ok_reads_in clone known more max_depth within view old new (Err e) reads = tt

-- what was read ahead by a crew's readings stays nothing
pub crew_enters : {C S P A R E X Y F : Type 0} (files : FileSystem.Ghosts S) (process : ProcessReadDir.Ghosts P C A R E) (clone : Clone.Ghosts R) (defaults : Default.Ghosts E) (job : Job C S P A R E) (at : List ℕ) (view : X → Y) (r : Result (Option X) F)
    → IfOk r (λ o. EntersNextIn (source_by files process clone defaults (record { by_crew = true; job = job; width = 1 })) at nothing_ahead (option_map view o) nothing_ahead)
crew_enters files process clone defaults job at view (Ok None) = refl
crew_enters files process clone defaults job at view (Ok (Some x)) = (refl, omega arith)
crew_enters files process clone defaults job at view (Err e) = tt
