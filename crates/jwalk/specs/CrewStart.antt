-- How a walk over a crew begins.
use Rattle.std.specs.Prelude.{◌≡◌, ◌⊎◌, Bool, true, false, is_some, if◌then◌else◌, List, [], map, length, Option, Some, None, IfSome, IsSomeAnd, MatchOption, Ok, Err}
use Rattle.std.specs.declared.clone.Clone as Clone
use Rattle.jwalk_model.specs.Error.{busy}
use Rattle.jwalk_model.specs.Entry.{Item, AtDepth}
use Rattle.jwalk_model.specs.Options.{crew}
use Rattle.jwalk_model.specs.ReadDir.{Spec, Reading, children, AreClones}
use Rattle.jwalk_model.specs.Listing.{Pair, nothing, paired}
use Rattle.tree_crew.specs.declared.crew.NotStarted.{NotStarted}
use Rattle.tree_crew.specs.declared.crew.NotStarted.TheVariants.{Busy, Memory}
use Rattle.jwalk_job.specs.declared.job.Job.{Job}
use Rattle.jwalk_job.specs.Options as options
use Rattle.jwalk_job.specs.Given.{Given, IsOfRoot, counted_reading, ClonesCount}
use Rattle.jwalk_job.specs.Job.{options_of}
use Rattle.jwalk_readings.specs.ReadAhead.{BeginsWith}
use Rattle.jwalk_iter.specs.DirEntryIter.{DirEntryIter, is_refused, by_crew, job_of, items_of, unread_of, width_of, frontier_of, read_ahead, held, held_by, IsWithin, IsSourced, IsPlaced, IsRefused}

-- what a busy crew leaves of an item: the error that says so, if the item has a directory to be read
abbrev pub busied : {R E : Type 0} → Item R E → Item R E
busied (Ok e) = if is_some e.read_children then Err busy else Ok e
busied (Err f) = Err f

-- the same, with nothing below it
abbrev pub busy_pair : {R E : Type 0} → Item R E → Pair R E
busy_pair x = record { item = busied x; source = nothing }

-- what is left of a root's list once its readings began, or didn't
abbrev pub left_of : {R E : Type 0} → Option NotStarted → List (Item R E) → List (Item R E)
left_of None list = list
left_of (Some Busy) list = map busied list
left_of (Some Memory) list = []

-- whether memory ran out
abbrev pub is_refusal : Option NotStarted → Bool
is_refusal None = false
is_refusal (Some Busy) = false
is_refusal (Some Memory) = true

-- The directories of the list are to be read, or nothing is if the readings didn't begin.
abbrev pub IsToRead : {R E : Type 0} → Clone.Ghosts R → Reading R E → Option NotStarted → List (Spec R) → Type 0
IsToRead clone read None specs = AreClones clone.is_clone (children read) specs
IsToRead clone read (Some why_not) specs = specs ≡ []

module _ {C S P A L R E : Type 0} (clone : Clone.Ghosts R) (read : Option (Reading R E)) where
  -- The walk holds what is left of a root's list. Without a list, memory ran out.
  abbrev pub IsBegun : Option NotStarted → DirEntryIter C S P A L R E → Type 0
  IsBegun why_not it =
      MatchOption read
      ((why_not ≡ Some Memory) × (is_refused it ≡ true) × (items_of it ≡ []) × (unread_of it ≡ []))
      (λ r. (is_refused it ≡ is_refusal why_not) × (items_of it ≡ left_of why_not r.list) × IsToRead clone r why_not (unread_of it))

  -- what it holds of the root's list, by why its readings didn't begin
  abbrev pub HoldsList : Option NotStarted → DirEntryIter C S P A L R E → Type 0
  HoldsList None it = (given : Given R E) → ClonesCount clone given → IsSomeAnd read (λ r. held_by given it ≡ paired (counted_reading given r))
  HoldsList (Some Busy) it = IsSomeAnd read (λ r. AtDepth 0 r.list × (held it ≡ map busy_pair r.list))
  HoldsList (Some Memory) it = IsRefused it

  -- The walk of a job that begins with a root's list. It holds no entry that is too deep, and what it has to read are the directories of what it holds, each below its item. Where no crew reads, only these are queued, in order, and are to be entered, and none is read yet. Only a walk that a crew is to read for finds the crew busy. Where the list has the root's entry or errors alone, so has what it holds. Where the list has one item, it holds one: that, or an error.
  pub record IsFromRoot (begun : Job C S P A R E) (why_not : Option NotStarted) (it : DirEntryIter C S P A L R E) : Type 0 where
    pub job : job_of it ≡ begun
    pub within : IsWithin it
    pub sourced : IsSourced it
    pub placed : IsPlaced it
    pub start : IsRefused it ⊎ AtDepth 0 (items_of it)
    pub width : width_of it ≡ options.width_of (options_of begun).parallelism
    pub ahead : by_crew it ≡ false → BeginsWith (unread_of it) (frontier_of it) (read_ahead it)
    pub holds : HoldsList why_not it
    pub root : IfSome read (λ r. IsOfRoot r.list) → IsRefused it ⊎ IsOfRoot (items_of it)
    pub one : IfSome read (λ r. length r.list ≡ 1) → length (held it) ≡ 1
    pub busy : why_not ≡ Some Busy → (options_of begun).parallelism ≡ crew
    pub by : by_crew it ≡ true → (options_of begun).parallelism ≡ crew
