-- Walks whose kept metadata is forgotten, and callbacks that ignore it.
use Rattle.std.specs.Prelude.{◌≡◌, ℕ, false, List, map, Option, None, Ok, Err}
use Rattle.jwalk_model.specs.FileSystem.{Functions}
use Rattle.jwalk_model.specs.Options.{Options, with_keep_metadata}
use Rattle.jwalk_model.specs.Entry.{Entry, Item}
use Rattle.jwalk_model.specs.ReadDir.{Spec, Reading, Outcome}
use Rattle.jwalk_model.specs.Job.{Job, Processing, reading, root_list}
use Rattle.jwalk_model.specs.Walk.{stateless_job, whole_walk}

module _ {R E : Type 0} where
  -- the same entry, with no metadata
  abbrev pub forgotten_entry : Entry R E → Entry R E
  forgotten_entry e = record e { seen = None }

  abbrev pub forgotten_item : Item R E → Item R E
  forgotten_item (Ok e) = Ok (forgotten_entry e)
  forgotten_item (Err f) = Err f

  abbrev pub forgotten_reading : Reading R E → Reading R E
  forgotten_reading r = record r { list = map forgotten_item r.list }

  abbrev pub forgotten_outcome : Outcome R E → Outcome R E
  forgotten_outcome (Ok r) = Ok (forgotten_reading r)
  forgotten_outcome (Err f) = Err f

  -- What a callback makes of a list without its metadata is what it makes of the list, without metadata.
  abbrev pub IgnoresMetadata : Processing R E → Type 0
  IgnoresMetadata processed = (depth : Option ℕ) (path : List ℕ) (state : R) (list : List (Item R E)) → processed depth path state (map forgotten_item list) ≡ forgotten_reading (processed depth path state list)

  -- the job that keeps no metadata
  abbrev pub keeping_none : Job R E → Job R E
  keeping_none job = record job { options = with_keep_metadata false job.options }

  -- Metadata forgotten, a job reads and walks as it would if it kept none.
  pub record GoesAsKeepingNone (job : Job R E) : Type 0 where
    pub readings : (spec : Spec R) → forgotten_outcome (reading job spec) ≡ reading (keeping_none job) spec
    pub root_lists : (root : List ℕ) (state : R) → forgotten_reading (root_list job root state) ≡ root_list (keeping_none job) root state
    pub walks : (root : List ℕ) (state : R) → map forgotten_item (whole_walk job root state) ≡ whole_walk (keeping_none job) root state

-- Where the callback ignores metadata, keeping it changes nothing else of a walk.
abbrev pub MetadataChangesNothingElse : Type 0 → Type 0 → Type 0
MetadataChangesNothingElse R E = (job : Job R E) → IgnoresMetadata job.processed → GoesAsKeepingNone job

-- What a job with no callback makes of lists ignores metadata.
abbrev pub StatelessJobsIgnoreMetadata : Type 0
StatelessJobsIgnoreMetadata = (fs : Functions) (options : Options) → IgnoresMetadata (stateless_job fs options).processed
