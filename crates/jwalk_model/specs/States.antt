-- Walks whose states are left aside, and callbacks that change states alone.
use Rattle.std.specs.Prelude.{◌≡◌, ℕ, List, map, Option, None, option_map, Ok, Err}
use Rattle.jwalk_model.specs.Entry.{Children, Entry, Item}
use Rattle.jwalk_model.specs.ReadDir.{Spec, Reading, Outcome}
use Rattle.jwalk_model.specs.Counted.{Worth, blank}
use Rattle.jwalk_model.specs.Job.{Job, Processing, reading, root_list}
use Rattle.jwalk_model.specs.Walk.{stateless_job, whole_walk, stateless_walk}

-- a directory to be read, with no state of its own
abbrev pub bare_children : {R : Type 0} → Children R → Children Worth
bare_children c = record { path = c.path; error = c.error; state = None }

-- the same directory, with no state
abbrev pub bare_spec : {R : Type 0} → Spec R → Spec Worth
bare_spec s = record { directory = s.directory; state = blank }

module _ {R E : Type 0} where
  -- the same entry, with no states
  abbrev pub bare_entry : Entry R E → Entry Worth Worth
  bare_entry e = record {
    depth = e.depth;
    file_name = e.file_name;
    file_type = e.file_type;
    seen = e.seen;
    client_state = blank;
    parent_path = e.parent_path;
    through_link = e.through_link;
    ancestors = e.ancestors;
    read_children = option_map bare_children e.read_children;
  }

  abbrev pub bare_item : Item R E → Item Worth Worth
  bare_item (Ok e) = Ok (bare_entry e)
  bare_item (Err f) = Err f

  abbrev pub bare_reading : Reading R E → Reading Worth Worth
  bare_reading r = record { state = blank; list = map bare_item r.list }

  abbrev pub bare_outcome : Outcome R E → Outcome Worth Worth
  bare_outcome (Ok r) = Ok (bare_reading r)
  bare_outcome (Err f) = Err f

  -- A callback leaves of every list the same items in the same order, states left aside.
  abbrev pub ChangesStatesAlone : Processing R E → Type 0
  ChangesStatesAlone processed = (depth : Option ℕ) (path : List ℕ) (state : R) (list : List (Item R E)) → map bare_item (processed depth path state list).list ≡ map bare_item list

  -- the readings of a job without its callback
  abbrev pub without_callback : Job R E → Job Worth Worth
  without_callback job = stateless_job job.fs job.options

  -- States left aside, a job reads and walks as it would without its callback.
  pub record GoesAsWithout (job : Job R E) : Type 0 where
    pub readings : (spec : Spec R) → bare_outcome (reading job spec) ≡ reading (without_callback job) (bare_spec spec)
    pub root_lists : (root : List ℕ) (state : R) → bare_reading (root_list job root state) ≡ root_list (without_callback job) root blank
    pub walks : (root : List ℕ) (state : R) → map bare_item (whole_walk job root state) ≡ stateless_walk job.fs job.options root

-- A callback that changes states alone changes nothing else of a walk.
abbrev pub StatesChangeNothingElse : Type 0 → Type 0 → Type 0
StatesChangeNothingElse R E = (job : Job R E) → ChangesStatesAlone job.processed → GoesAsWithout job
