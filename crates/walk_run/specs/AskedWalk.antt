-- What a walk that is asked for prints.
use Rattle.std.specs.Prelude.{◌≡◌, ℕ, max, min, Bool, true, List, length, Option, None, Some, Result, is_ok, if◌then◌else◌}
use Rattle.std.specs.Arc.{arc_value}
use Rattle.std.specs.List.{list_all}
use Rattle.std.specs.Io.KnownBytes.{Appends}
use Rattle.std.specs.declared.sync.Arc.{Arc}
use Rattle.std.specs.declared.time.Duration.{Duration}
use Rattle.jwalk_job.specs.declared.dir_entry.DirEntry.{DirEntry}
use Rattle.jwalk_job.specs.declared.error.Error.{Error}
use Rattle.jwalk.specs.declared.crew.Crew.{Crew}
use Rattle.jwalk.specs.declared.crew.Session.{Session}
use Rattle.jwalk.specs.declared.walk_dir.WalkDirGeneric.{WalkDirGeneric}
use Rattle.jwalk.specs.DirEntryIter.{DirEntryIter, held}
use Rattle.jwalk.specs.tree_crew.Crew.{workers_of}
use Rattle.jwalk.specs.WalkDir.{described, file_system_of, root_of, options_of, Starts}
use Rattle.jwalk_model.specs.FileSystem.{Functions}
use Rattle.jwalk_model.specs.Counted.{Worth}
use Rattle.jwalk_model.specs.Entry.{Item}
use Rattle.jwalk_model.specs.Walk.{stateless_walk}
use Rattle.jwalk_model.specs.Lines.{lines_of}
use Rattle.walk_text.specs.declared.asked.Asked.{Asked}
use Rattle.walk_text.specs.declared.read_by.ReadBy.{ReadBy}
use Rattle.walk_text.specs.declared.read_by.ReadBy.TheVariants as read
use Rattle.walk_text.specs.Asked.{options_asked}
use Rattle.walk_run.specs.Answers.{PrintsAll}
use Rattle.walk_run.specs.Totals.{totals_line}

-- all that a walk from a root yields, as is asked for, over a file system that always returns the same; for totals its entries keep their metadata
abbrev pub answers_over : Functions → Asked → List ℕ → List (Item Worth Worth)
answers_over fs asked root = stateless_walk fs (options_asked asked) root

-- what is written of all answers: the line of their totals if that is asked for, and a line for each otherwise
abbrev pub written : {R E : Type 0} → Asked → List (Item R E) → List ℕ
written asked l = if asked.usage then totals_line l else lines_of l

-- All answers were written as is asked for, and none of them is an error.
pub record PrintsOver (fs : Functions) (asked : Asked) (root : List ℕ) (old new : Option (List ℕ)) : Type 0 where
  pub prints : Appends old new (written asked (answers_over fs asked root))
  pub clean : list_all is_ok (answers_over fs asked root) ≡ true

-- A walk's crew is there if one is named, with as many workers, but at least one and at most 256. The walk blocks for a place of it without a limit.
abbrev pub IsReadBy : {T A : Type 0} → Option ReadBy → Option (Arc (Crew T) A × Option Duration) → Type 0
IsReadBy (Some (read.Crew workers)) (Some (crew, limit)) = (workers_of (arc_value crew) ≡ max 1 (min workers 256)) × (limit ≡ None)
IsReadBy (Some (read.Crew workers)) None = ⊥
IsReadBy _ own = own ≡ None

-- a walk under way, which may have a crew
abbrev pub CrewWalk : (T C S P A R E : Type 0) → Type 0
CrewWalk T C S P A R E = DirEntryIter C S P A (Session T C S P A R E) R E

-- what is said of one call of it: of the walk, the answer, and the walk after the call
abbrev pub CrewCalls : (T C S P A R E : Type 0) → Type 1
CrewCalls T C S P A R E = CrewWalk T C S P A R E → Option (Result (DirEntry C A R E) (Error A)) → CrewWalk T C S P A R E → Type 0

module _ {T C S P A R E : Type 0} (calls : CrewCalls T C S P A R E) where
  -- A walk over a file system and from a root began as is asked for, and held one item. It was called until it ended, what is asked for was written of its answers, and it is known whether none was an error.
  pub record PrintsBegun (fs : S) (asked : Asked) (root : List ℕ) (old new : Option (List ℕ)) (clean : Bool) : Type 0 where
    pub walk : WalkDirGeneric C S P A (Crew T) R E
    pub file_system : file_system_of walk ≡ fs
    pub root_of_it : root_of walk ≡ root
    pub options : options_of walk ≡ options_asked asked
    pub crew : IsReadBy asked.read_by (described walk).crew
    pub it : CrewWalk T C S P A R E
    pub starts : Starts walk it
    pub one : length (held it) ≡ 1
    pub prints : PrintsAll (written asked) calls it old new clean
