-- Walks over listings that say types alone, in the order of names.
use Rattle.std.specs.Prelude.{◌≡◌, Bool, true, false, List, filter, Result, Ok, Err, ℕ}
use Rattle.std.specs.declared.io.ErrorKind.{ErrorKind}
use Rattle.jwalk_model.specs.FileSystem.{Functions}
use Rattle.jwalk_model.specs.Options.{Options, with_keep_metadata}
use Rattle.jwalk_model.specs.Entry.{Entry, Item, metadata_of}
use Rattle.jwalk_model.specs.ReadDir.{Spec}
use Rattle.jwalk_model.specs.Job.{Job, reading, root_list}
use Rattle.jwalk_model.specs.Kept.{keeping_none}
use Rattle.jwalk_model.specs.Walk.{whole_walk}
use Rattle.jwalk_model.specs.declared.metadata.Metadata.{Metadata}
use Rattle.jwalk_indexed_fs.specs.Asking.{asking_functions, ListsWhole}
use Rattle.jwalk_indexed_fs.specs.Listing.{typed_functions}

-- Options under which a walk needs no more of a listing than types: it sorts, follows no links, and may leave its file system.
pub record NeedsTypesAlone (o : Options) : Type 0 where
  pub sorts : o.sort ≡ true
  pub follows_none : o.follow_links ≡ false
  pub goes_anywhere : o.same_file_system ≡ false

module _ {R E : Type 0} where
  -- the job over listings that say types alone, which keeps no metadata
  abbrev pub over_types : Job R E → Job R E
  over_types job = record job { fs = typed_functions job.fs; options = with_keep_metadata false job.options }

  -- the entries of a walk that pass a test of what asking for their metadata returns
  abbrev pub passing : (Entry R E → Result Metadata ErrorKind → Bool) → Functions → Item R E → Bool
  passing test fs (Ok e) = test e (metadata_of fs e)
  passing test fs (Err f) = true

  -- Over such listings a job reads and walks as it does where it keeps no metadata, and so does a filter that asks for metadata.
  pub record GoesAsOverTypes (job : Job R E) : Type 0 where
    pub readings : (spec : Spec R) → reading (over_types job) spec ≡ reading (keeping_none job) spec
    pub root_lists : (root : List ℕ) (state : R) → root_list (over_types job) root state ≡ root_list (keeping_none job) root state
    pub walks : (root : List ℕ) (state : R) → whole_walk (over_types job) root state ≡ whole_walk (keeping_none job) root state
    pub filtered : (test : Entry R E → Result Metadata ErrorKind → Bool) (root : List ℕ) (state : R)
        → filter (passing test (typed_functions job.fs)) (whole_walk (over_types job) root state) ≡ filter (passing test job.fs) (whole_walk (keeping_none job) root state)

-- the job over such listings, whose names are asked for if that is wanted
abbrev pub over_asked : {R E : Type 0} → Bool → Job R E → Job R E
over_asked asks job = record job { fs = asking_functions asks (typed_functions job.fs) }

-- A walk over such listings is the same as over the listings themselves, if names are asked for where metadata is kept, and the listings say what asking returns.
abbrev pub AskingIsEnough : Type 0 → Type 0 → Type 0
AskingIsEnough R E =
    (job : Job R E) (asks : Bool) → NeedsTypesAlone job.options → (job.options.keep_metadata ≡ true → asks ≡ true) → (asks ≡ true → ListsWhole job.fs) → (root : List ℕ) (state : R) → whole_walk (over_asked asks job) root state ≡ whole_walk job root state

-- Under such options types are enough, whatever the callback is.
abbrev pub TypesAreEnough : Type 0 → Type 0 → Type 0
TypesAreEnough R E = (job : Job R E) → NeedsTypesAlone job.options → GoesAsOverTypes job
