-- Readings that a crew makes ahead, and what is known of each.
use Rattle.std.specs.Prelude.{◌≡◌, ℕ, Bool, true, false, List, [], ◌∷◌, ◌++◌, map, reverse, length, Option, Some, None, Result, Ok, Err, IsOkAnd, IfErr, IfSome, IsSomeAnd}
use Rattle.std.specs.Arc.{arc_value}
use Rattle.std.specs.declared.clone.Clone as Clone
use Rattle.std.specs.declared.default.Default as Default
use Rattle.jwalk_model.specs.Error.{Failure, busy, memory, lost}
use Rattle.jwalk_model.specs.Options.{ReadsAs}
use Rattle.jwalk_model.specs.Entry.{Item}
use Rattle.jwalk_model.specs.ReadDir.{Spec, Outcome, directory_below, children_of, AreClones}
use Rattle.jwalk_fs.specs.declared.file_system.FileSystem as FileSystem
use Rattle.jwalk_order.specs.Frontier as frontier
use Rattle.jwalk_order.specs.Ordered.{address_of}
use Rattle.jwalk_order.specs.declared.ordered.Ordered.{Ordered}
use Rattle.jwalk_job.specs.declared.process_read_dir.ProcessReadDir as ProcessReadDir
use Rattle.jwalk_job.specs.declared.job.Job.{Job}
use Rattle.jwalk_job.specs.ReadDirSpec.{spec}
use Rattle.jwalk_job.specs.ReadDir.{outcome as view}
use Rattle.jwalk_job.specs.Given.{Given, counted_spec}
use Rattle.jwalk_job.specs.Job.{options_of, greatest_depth, IsReadingOf, IsReadingBy, IsSteadyJob, IsGivenOver}
use Rattle.jwalk_readings.specs.Message.{Message}
use Rattle.jwalk_readings.specs.Origin.{Origin, spec_at}
use Rattle.jwalk_readings.specs.declared.readers.Readers as Readers
use Rattle.tree_crew.specs.declared.crew.NotStarted.{NotStarted}
use Rattle.tree_crew.specs.declared.crew.NotStarted.TheVariants as not_started
use Rattle.jwalk_readings.specs.declared.readers.Missed.{Missed}
use Rattle.jwalk_readings.specs.declared.readers.Missed.TheVariants.{Memory, Lost}
use Rattle.jwalk_readings.specs.declared.crew_reads.CrewReads.{CrewReads}

module _ {C S P A L R E : Type 0} where
  -- what the workers read with
  abbrev pub job_of : CrewReads C S P A L R E → Job C S P A R E
  job_of it = arc_value it.job

  -- the directories whose readings are still to be given, the next one first, without those below them
  abbrev pub to_read : CrewReads C S P A L R E → List (Spec R)
  to_read it = map spec (reverse it.unread.items)

  -- the addresses of the directories that are still to be entered, the next one first
  abbrev pub frontier_of : CrewReads C S P A L R E → List (List ℕ)
  frontier_of it = it.matcher

  -- the address of the directory that is entered next
  abbrev pub next_address : CrewReads C S P A L R E → List ℕ
  next_address it = frontier.next_address (frontier_of it)

-- It is the directory below an item, whatever state its reading begins with.
abbrev pub IsBelow : {R E : Type 0} → Item R E → Spec R → Type 0
IsBelow (Ok e) spec = IsSomeAnd e.read_children (λ c. spec.directory ≡ directory_below e c)
IsBelow (Err f) spec = ⊥

-- The directory that comes next, if one is left, is the one below an item. Where no crew reads, nothing is said.
abbrev pub IsNextBelow : {R E : Type 0} → Bool → Item R E → List (Spec R) → Type 0
IsNextBelow false x specs = Unit {0}
IsNextBelow true x [] = Unit {0}
IsNextBelow true x (spec ∷ specs) = IsBelow x spec

-- What a worker reported: the message at this address was made of this directory, whatever its state, by a job that reads by the same options.
pub record IsTold {C S P A R E : Type 0} (files : FileSystem.Ghosts S) (process : ProcessReadDir.Ghosts P C A R E) (clone : Clone.Ghosts R) (defaults : Default.Ghosts E) (job : Job C S P A R E) (at : List ℕ) (asked : Spec R) (outcome : Outcome R E) : Type 0 where
  pub message : Ordered (Message C S P A R E) A
  pub address : address_of message ≡ at
  pub options : ReadsAs (options_of message.value.job) (options_of job)
  pub place : (spec message.value.of).directory ≡ asked.directory
  pub told : IsOkAnd message.value.outcome (λ o. view o ≡ outcome)
  pub reading : IsReadingOf files process clone defaults message.value.job (spec message.value.of) outcome

-- why a reading didn't come, as an error
abbrev pub failure_of : Missed → Failure
failure_of Memory = memory
failure_of Lost = lost

-- why a walk didn't begin, as an error
abbrev pub start_failure : NotStarted → Failure
start_failure not_started.Busy = busy
start_failure not_started.Memory = memory

-- why a reading didn't come: it is lost only if it counts over nothing
abbrev pub NotLost : {R E : Type 0} → (Given R E → Type 0) → Missed → Type 0
NotLost counts Memory = Unit {0}
NotLost {R} {E} counts Lost = (given : Given R E) → ¬ counts given

-- the addresses of the readings that readers still have to give: none where there are no readers
abbrev pub awaited : {L : Type 0} → Option L → List (List ℕ) → List (List ℕ)
awaited None addresses = []
awaited (Some readers) addresses = addresses

-- at most how many readings readers have made and not handed on: none where there are no readers
abbrev pub most_ready : {L : Type 0} → (L → ℕ) → Option L → ℕ
most_ready most None = 0
most_ready most (Some readers) = most readers

-- what is known of a number of readings that readers have made and not handed on: there are none where there are no readers
abbrev pub CountsReady : {L : Type 0} → (L → ℕ → Type 0) → Option L → ℕ → Type 0
CountsReady counts None count = count ≡ 0
CountsReady counts (Some readers) count = counts readers count

-- Readers are made for a walk, and still have to give the readings at these addresses.
abbrev pub IsMadeFor : {C S P A L R E : Type 0} → Readers.Ghosts L C S P A R E → L → Origin C S P A R E → List (List ℕ) → Type 0
IsMadeFor readers p origin addresses = readers.comes_from p origin × (readers.awaits p ≡ addresses)

-- Readings begin: the directories that are to be read are at the addresses of roots, and this holds of the readers that give their readings.
pub record BeginsBy {C S P A L R E : Type 0} (made : L → Origin C S P A R E → List (List ℕ) → Type 0) (it : CrewReads C S P A L R E) : Type 0 where
  pub addresses : it.matcher ≡ frontier.roots (length (to_read it))
  pub readers : IsSomeAnd it.readers (λ p. made p (record { job = job_of it; roots = to_read it }) it.matcher)

-- at most how many of a crew's readings are made and not handed on: none once they were stopped
abbrev pub most_ahead : {C S P A L R E : Type 0} → Readers.Ghosts L C S P A R E → CrewReads C S P A L R E → ℕ
most_ahead readers it = most_ready readers.most it.readers

-- the number of them is what the readers counted
abbrev pub CountsAhead : {C S P A L R E : Type 0} → Readers.Ghosts L C S P A R E → CrewReads C S P A L R E → ℕ → Type 0
CountsAhead readers it count = CountsReady readers.counts it.readers count

module _ {C S P A L R E : Type 0} (files : FileSystem.Ghosts S) (process : ProcessReadDir.Ghosts P C A R E) (clone : Clone.Ghosts R) (defaults : Default.Ghosts E) (readers : Readers.Ghosts L C S P A R E) where
  -- What readers give at these addresses are readings of these directories, over what is given. The job is steady and makes the readers' readings, which come at these addresses. These directories are there, below those that the readers began with.
  pub record IsSteadyOver (job : Job C S P A R E) (from : Option L) (addresses : List (List ℕ)) (specs : List (Spec R)) (given : Given R E) : Type 0 where
    pub steady : IsSteadyJob files process clone defaults job given
    pub roots : List (Spec R)
    pub comes : IfSome from (λ p. readers.comes_from p (record { job = job; roots = roots }))
    pub awaits : IfSome from (λ p. readers.awaits p ≡ addresses)
    pub at : map (spec_at files process clone defaults (record { job = job; roots = roots }) given) (awaited from addresses) ≡ map (λ s. Some (counted_spec given s)) specs

  -- Over what is given, a crew's readings are those of the directories that are to be read.
  abbrev pub IsSteadyCrew : CrewReads C S P A L R E → Given R E → Type 0
  IsSteadyCrew it = IsSteadyOver (job_of it) it.readers it.matcher (to_read it)

  -- They are so over all that their job is steady over.
  abbrev pub StartsSteady : CrewReads C S P A L R E → Type 0
  StartsSteady it = (given : Given R E) → IsSteadyJob files process clone defaults (job_of it) given → IsSteadyCrew it given

  -- They stay steady over all that they were steady over.
  abbrev pub StaysSteady : CrewReads C S P A L R E → CrewReads C S P A L R E → Type 0
  StaysSteady old new = (given : Given R E) → IsSteadyCrew old given → IsSteadyCrew new given

  -- the same while this directory, which comes next, isn't among those that are kept any more
  abbrev pub IsSteadyBefore : CrewReads C S P A L R E → Spec R → Given R E → Type 0
  IsSteadyBefore it first = IsSteadyOver (job_of it) it.readers it.matcher (first ∷ to_read it)

  -- The first directory is read, by a message with this count of the directories in it: over all over which what was to be read was steady the count is right and the reading is the definition's; and what is left, with clones of the directories below it in its place, is steady over that.
  pub record ReadsSteadily (old : CrewReads C S P A L R E) (first : Spec R) (outcome : Outcome R E) (count : ℕ) (new : CrewReads C S P A L R E) : Type 0 where
    pub count_is : (rest : List (Spec R)) (given : Given R E) → IsSteadyOver (job_of old) old.readers old.matcher (first ∷ rest) given → count ≡ length (children_of outcome)
    pub value : (rest : List (Spec R)) → IsGivenOver files (IsSteadyOver (job_of old) old.readers old.matcher (first ∷ rest)) (job_of old) first outcome
    pub steady : (rest front : List (Spec R)) → AreClones clone.is_clone (children_of outcome) front
        → (given : Given R E) → IsSteadyOver (job_of old) old.readers old.matcher (first ∷ rest) given → IsSteadyOver (job_of old) new.readers new.matcher (front ++ rest) given

  module _ (old : CrewReads C S P A L R E) (first : Spec R) where
    -- It is a reading of this directory, which comes next, as a worker reported it.
    abbrev pub IsReportedFor : Outcome R E → Type 0
    IsReportedFor = IsReadingBy (IsTold files process clone defaults (job_of old) (next_address old)) (greatest_depth (job_of old)) first

    -- It is the definition's reading of this directory, over all over which what was to be read was steady.
    abbrev pub IsGivenFor : Outcome R E → Type 0
    IsGivenFor = IsGivenOver files (IsSteadyBefore old first) (job_of old) first

    -- What is left is steady over all that it was steady over with this directory before it.
    abbrev pub StaysSteadyAfter : CrewReads C S P A L R E → Type 0
    StaysSteadyAfter new = (given : Given R E) → IsSteadyBefore old first given → IsSteadyCrew new given

    -- The reading of this directory isn't lost, whatever else was to be read, if that was steady.
    abbrev pub IsNotLostFirst : {O : Type 0} → Result O Missed → Type 0
    IsNotLostFirst result = (rest : List (Spec R)) → IfErr result (NotLost (IsSteadyOver (job_of old) old.readers old.matcher (first ∷ rest)))
