-- What is known of readings, and why one is missed.
use Rattle.std.proofs.Common.{◌≡◌, ◌∷◌, Option, Some, None, List, inl, inr}
use Rattle.jwalk_model.specs.Error.{Failure, memory}
use Rattle.jwalk_model.specs.Entry.{Item}
use Rattle.jwalk_model.specs.ReadDir.{Spec, Outcome}
use Rattle.jwalk_job.specs.Given.{Given}
use Rattle.jwalk_readings.specs.Reads.{ReadsNextBy}
use Rattle.jwalk_readings.specs.declared.readers.Missed.{Missed}
use Rattle.jwalk_readings.specs.declared.readers.Missed.TheVariants.{Memory, Lost}
use Rattle.jwalk_readings.specs.CrewReads.{failure_of, NotLost}
use Rattle.jwalk_readings.specs.Source.{Source, IsNextIn}
use Rattle.jwalk_readings.specs.Gives.{GivesFirst}

-- over what a reading can't be lost over, what is missed is reported as memory that ran out
pub told_refused : {R E : Type 0} (counts : Given R E → Type 0) (missed : Missed) (f : Failure) → f ≡ failure_of missed → NotLost counts missed → (given : Given R E) → counts given → f ≡ memory
told_refused counts Memory f is never given steady = is
told_refused counts Lost f is never given steady = absurd (never given steady)

-- the next directory alone, as the first of those that are to be read
first_in : {R E : Type 0} (source : Source R E) (x : Item R E) (s : Spec R) (rest specs : List (Spec R)) → specs ≡ s ∷ rest → IsNextIn source x specs → source.below x s
first_in source x s rest specs took next = rw took at next

module _ {R E : Type 0} (source : Source R E) (known : Spec R → Outcome R E → Type 0) (x : Item R E) where
  -- What is known of the next reading is known of it as the reading of an item's directory, if the directory that comes next is that one.
  pub known_of : (old : List (Spec R)) (read : Option (Outcome R E)) (new : List (Spec R)) → IsNextIn source x old → ReadsNextBy source.copies known source.options.max_depth old read new → ReadsNextBy source.copies (λ s o. known s o × source.below x s) source.options.max_depth old read new
  known_of old None new next reads = reads
  known_of old (Some o) new next reads =
      let reading = reads.reading in
      record { first = reads.first; rest = reads.rest; took = reads.took; reading = record { lawful = reading.lawful; few = reading.few; value = (reading.value, first_in source x reads.first reads.rest old reads.took next) }; stacks = reads.stacks }

  pub gives_of : (old : List (Spec R)) (given : Option (Outcome R E)) (new : List (Spec R)) → IsNextIn source x old → GivesFirst source known old given new → GivesFirst source (λ s o. known s o × source.below x s) old given new
  gives_of old given new next first = elim first [
    | inl ends ↦ inl ends
    | inr reads ↦ inr (known_of old given new next reads)
  ]
