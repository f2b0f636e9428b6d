-- A job as a value, and what its readings are.
use Rattle.std.specs.Prelude.{◌≡◌, ◌<◌, ◌^◌, ◌⊎◌, ℕ, Bool, true, false, List, [], Some, Result, Ok, IfOk, length, nat_le, if◌then◌else◌}
use Rattle.std.specs.declared.clone.Clone as Clone
use Rattle.std.specs.declared.default.Default as Default
use Rattle.jwalk_model.specs.FileSystem.{Listed}
use Rattle.jwalk_model.specs.Options as value_options
use Rattle.jwalk_model.specs.Entry.{Item}
use Rattle.jwalk_model.specs.Sorting.{arranged}
use Rattle.jwalk_model.specs.ReadDir.{Spec, Reading, Outcome, IsLawfulReading, list_of}
use Rattle.jwalk_model.specs.Counted.{Worth}
use Rattle.jwalk_model.specs.Job as value
use Rattle.jwalk_fs.specs.declared.file_system.FileSystem as FileSystem
use Rattle.jwalk_job.specs.declared.process_read_dir.ProcessReadDir as ProcessReadDir
use Rattle.jwalk_job.specs.declared.job.Job.{Job}
use Rattle.jwalk_job.specs.Options.{options_value}
use Rattle.jwalk_job.specs.declared.dir_entry.DirEntry.{DirEntry}
use Rattle.jwalk_job.specs.declared.error.Error.{Error}
use Rattle.jwalk_job.specs.declared.read_dir.ReadDir.{ReadDir}
use Rattle.jwalk_job.specs.ReadDir.{reading}
use Rattle.jwalk_job.specs.Given.{Given, counted_spec, counted_list, counted_reading, counted_outcome, ClonesCount, DefaultsCount}

module _ {C S P A R E : Type 0} where
  abbrev pub file_system : Job C S P A R E → S
  file_system job = job.fs

  abbrev pub callback : Job C S P A R E → P
  callback job = job.process

  abbrev pub options_of : Job C S P A R E → value_options.Options
  options_of job = options_value job.options

  abbrev pub greatest_depth : Job C S P A R E → ℕ
  greatest_depth job = (options_of job).max_depth

-- the job over a fixed file system and what is given
abbrev pub job_by : {C S P A R E : Type 0} → FileSystem.Ghosts S → Given R E → Job C S P A R E → value.Job Worth Worth
job_by files given job = record {
  fs = files.functions (file_system job);
  options = options_of job;
  processed = given.processed;
  default = given.new_entry;
}

-- what a callback, as it is given, makes of the items that a directory was found to have, sorted if that is asked for
abbrev pub processed_by : {R E : Type 0} → Given R E → Bool → Spec R → List (Item Worth Worth) → Reading Worth Worth
processed_by given sort of items = given.processed (Some of.depth) of.path (given.read_dir_state of.state) (if sort then arranged items else items)

-- By these options a reading asks the file system for nothing but its listing.
abbrev pub ListsAlone : value_options.Options → Type 0
ListsAlone options = (options.follow_links ≡ false) × (options.same_file_system ≡ false)

-- What a reading asks the file system beside its listing is known: it always returns the same, or nothing is asked.
abbrev pub AsksKnown : {C S P A R E : Type 0} → FileSystem.Ghosts S → Job C S P A R E → Type 0
AsksKnown files job = files.IsFixed (file_system job) ⊎ ListsAlone (options_of job)

-- This holds of the definition's job wherever what a reading asks beside its listing is known, and of all that is given over which defaults count.
abbrev pub ByListing : {C S P A R E : Type 0} → FileSystem.Ghosts S → Default.Ghosts E → Job C S P A R E → (Given R E → value.Job Worth Worth → Type 0) → Type 0
ByListing {R = R} {E = E} files defaults job Holds = (given : Given R E) → AsksKnown files job → DefaultsCount defaults given → Holds given (job_by files given job)

-- One listing of this path gave some items, which are those of a fixed file system, and of which this holds.
abbrev pub IsOfListing : {C S P A R E : Type 0} → FileSystem.Ghosts S → Job C S P A R E → List ℕ → (List Listed → Type 0) → Type 0
IsOfListing files job path P = (listing : List Listed) × files.read_dir_gives (file_system job) path listing
    × (files.IsFixed (file_system job) → (files.functions (file_system job)).list_of path ≡ Ok listing) × P listing

-- This holds of the definition's job, over a fixed file system and all that is given over which defaults count.
abbrev pub ByValue : {C S P A R E : Type 0} → FileSystem.Ghosts S → Default.Ghosts E → Job C S P A R E → (Given R E → value.Job Worth Worth → Type 0) → Type 0
ByValue {R = R} {E = E} files defaults job Holds = (given : Given R E) → files.IsFixed (file_system job) → DefaultsCount defaults given → Holds given (job_by files given job)

-- Over what is given, the outcome is the reading of the definition.
abbrev pub IsAsGiven : {C S P A R E : Type 0} → FileSystem.Ghosts S → Given R E → Job C S P A R E → Spec R → Outcome R E → Type 0
IsAsGiven files given job spec outcome = counted_outcome given outcome ≡ value.reading (job_by files given job) (counted_spec given spec)

-- The outcome is a reading of the directory. It is lawful whatever the file system returns, and its list fits in memory. What is known of a reading of this directory holds of it.
pub record IsReadingBy {R E : Type 0} (known : Spec R → Outcome R E → Type 0) (max_depth : ℕ) (spec : Spec R) (outcome : Outcome R E) : Type 0 where
  pub lawful : IsLawfulReading max_depth spec outcome
  pub few : length (list_of outcome) < 2 ^ 64
  pub value : known spec outcome

module _ {C S P A R E : Type 0} (files : FileSystem.Ghosts S) (counts : Given R E → Type 0) (job : Job C S P A R E) where
  -- Over all that counts as given, it is the reading of the definition.
  abbrev pub IsGivenOver : Spec R → Outcome R E → Type 0
  IsGivenOver spec outcome = (given : Given R E) → counts given → IsAsGiven files given job spec outcome

  -- A reading of which this is known.
  abbrev pub IsReadingOver : Spec R → Outcome R E → Type 0
  IsReadingOver = IsReadingBy IsGivenOver (greatest_depth job)

module _ {C S P A R E : Type 0} (files : FileSystem.Ghosts S) (process : ProcessReadDir.Ghosts P C A R E) (clone : Clone.Ghosts R) (defaults : Default.Ghosts E) where
  -- What a walk works with is as given: its file system is fixed, its callback makes of lists what is given, and clones and defaults count as given.
  pub record IsSteady (fs : S) (it : P) (given : Given R E) : Type 0 where
    pub file_system : files.IsFixed fs
    pub callback : process.Makes it given
    pub clones : ClonesCount clone given
    pub default : DefaultsCount defaults given

  -- the same of what a job works with
  abbrev pub IsSteadyJob : Job C S P A R E → Given R E → Type 0
  IsSteadyJob job given = IsSteady (file_system job) (callback job) given

  -- A reading of the directory, as a value over a steady job.
  abbrev pub IsReadingOf : Job C S P A R E → Spec R → Outcome R E → Type 0
  IsReadingOf job = IsReadingOver files (IsSteadyJob job) job

  -- Callback, clones and defaults are as given.
  pub record GoesAsGiven (it : P) (given : Given R E) : Type 0 where
    pub callback : process.Makes it given
    pub clones : ClonesCount clone given
    pub default : DefaultsCount defaults given

  -- Where callback, clones and defaults are as given, the list is what the callback makes of these items of a directory.
  abbrev pub ProcessesItems : {F : Type 0} → Job C S P A R E → Spec R → List (Result (DirEntry C A R E) (Error A)) → Result (ReadDir C A R E) F → Type 0
  ProcessesItems job of items result = (given : Given R E) → GoesAsGiven (callback job) given
      → IfOk result (λ r. processed_by given (options_of job).sort of (counted_list given items) ≡ counted_reading given (reading r))

  -- The list is what the callback makes of what the options leave of one listing of the directory, whatever the file system returns, or nothing of one at the greatest depth.
  abbrev pub IsFromListing : Job C S P A R E → Spec R → Reading R E → Type 0
  IsFromListing job of read = ((nat_le (greatest_depth job) of.depth ≡ true) × (read.list ≡ []))
      ⊎ IsOfListing files job of.path (λ listing. (given : Given R E) → AsksKnown files job → GoesAsGiven (callback job) given
      → processed_by given (options_of job).sort of (value.raw (job_by files given job) (counted_spec given of) listing) ≡ counted_reading given read)
