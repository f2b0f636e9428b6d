-- Walks that honour ignore files, from a root and from a directory below it.
use Rattle.std.specs.Prelude.{◌≡◌, ◌≢◌, ℕ, ◌+◌, ◌-◌, ◌<◌, true, false, All, List, [], ◌∷◌, ◌++◌, map, Some, Ok, Err}
use Rattle.jwalk_model.specs.Counted.{Worth, blank}
use Rattle.jwalk_model.specs.Entry.{Children, Entry, Item}
use Rattle.jwalk_model.specs.FileSystem.{Functions, Listed}
use Rattle.jwalk_model.specs.Job.{ordered}
use Rattle.jwalk_model.specs.Metadata.{type_of}
use Rattle.jwalk_model.specs.Options.{Options}
use Rattle.jwalk_model.specs.Paths.{join, parent}
use Rattle.jwalk_model.specs.PathTexts.{IsName}
use Rattle.jwalk_model.specs.Walk.{stateless_job, whole_walk}
use Rattle.jwalk_model.specs.declared.file_type.FileType.TheVariants.{Dir}
use Rattle.jwalk_model.specs.declared.metadata.Metadata.{Metadata}
use Rattle.jwalk_ignore.specs.Callback.Given.{job_ignoring, no_rules_yet}
use Rattle.jwalk_ignore.specs.Callback.IgnoreFiles.{depth_of}
use Rattle.jwalk_ignore.specs.Rules.Texts.{Texts}
use Rattle.jwalk_ignore.specs.Callback.Settings.{Settings}
use Rattle.jwalk_ignore_laws.specs.Deeper.{below_first, deeper_than, item_deeper}
use Rattle.jwalk_ignore_laws.specs.Starts.{Agrees, below}

-- all that a walk yields that honours ignore files
abbrev pub walk_ignoring : Settings → Texts → Functions → Options → List ℕ → List (Item Worth Worth)
walk_ignoring settings texts fs options root = whole_walk (job_ignoring settings texts fs options) root no_rules_yet

-- the options of a walk that starts at this depth of another: no least depth, and a greatest one that is less by it
abbrev pub options_below : ℕ → Options → Options
options_below depth options = record options { min_depth = 0; max_depth = options.max_depth - depth }

-- the same options without a least depth
abbrev pub without_least_depth : Options → Options
without_least_depth options = record options { min_depth = 0 }

-- the list of a directory, as a walk makes it of a listing before rules are used
abbrev pub list_at : Functions → Options → List ℕ → List Listed → List (Item Worth Worth)
list_at fs options path items = ordered (stateless_job fs options) (record { directory = record { depth = 0; path = path; ancestors = [] }; state = blank }) items

-- A walk can start at a path: it is its own absolute one, and a directory is there.
pub record IsStart (texts : Texts) (fs : Functions) (path : List ℕ) : Type 0 where
  pub some : path ≢ []
  pub absolute : texts.absolute_of path ≡ Ok path
  pub is_there : (m : Metadata) × (fs.link_meta_of path ≡ Ok m) × (type_of m ≡ Dir)

-- What a listing names can be the name of a component.
abbrev pub HasName : Listed → Type 0
HasName (Ok n) = IsName n.name
HasName (Err kind) = Unit {0}

-- The disk below a root agrees with the texts: the root is the parent of what is in it, and of each directory that can be listed the names are proper and the list agrees.
pub record AgreeBelow (texts : Texts) (fs : Functions) (options : Options) (root : List ℕ) : Type 0 where
  pub parents : (name : List ℕ) → IsName name → parent (join root name) ≡ Some root
  pub named : (names : List (List ℕ)) (items : List Listed) → All IsName names → fs.list_of (below root names) ≡ Ok items → All HasName items
  pub lists : (names : List (List ℕ)) (items : List Listed) → All IsName names → fs.list_of (below root names) ≡ Ok items → Agrees texts (below root names) (list_at fs options (below root names) items)

-- Walks that follow no links can start at a root and at a directory, the disk below the root agrees with the texts, and rules above the root count.
pub record AreStarts (settings : Settings) (texts : Texts) (fs : Functions) (options : Options) (root directory : List ℕ) : Type 0 where
  pub no_links : options.follow_links ≡ false
  pub agree : AgreeBelow texts fs options root
  pub from_above : settings.above_the_root ≡ true
  pub first : IsStart texts fs root
  pub second : IsStart texts fs directory

-- ---- what is below a directory

-- The entry of a directory that is to be read is in a list, with these items behind it.
pub record IsIn (list : List (Item Worth Worth)) (directory : List ℕ) (e : Entry Worth Worth) (behind : List (Item Worth Worth)) : Type 0 where
  pub front : List (Item Worth Worth)
  pub list_is : list ≡ front ++ Ok e ∷ behind
  pub child : Children Worth
  pub reads : e.read_children ≡ Some child
  pub path_is : child.path ≡ directory

-- What is below an entry, of the items behind it, is what another list has below its first item, as many levels deeper as the entry is.
abbrev pub AreTheSameBelow : Entry Worth Worth → List (Item Worth Worth) → List (Item Worth Worth) → Type 0
AreTheSameBelow e behind list = deeper_than e.depth behind ≡ map (item_deeper e.depth) (below_first list)

-- Where a walk comes to a directory, it yields below it what a walk yields that starts there.
abbrev pub WalksAreTheSame : Type 0
WalksAreTheSame = (settings : Settings) (texts : Texts) (fs : Functions) (options : Options) (root directory : List ℕ) (e : Entry Worth Worth) (behind : List (Item Worth Worth))
    → AreStarts settings texts fs options root directory → IsIn (walk_ignoring settings texts fs options root) directory e behind
    → AreTheSameBelow e behind (walk_ignoring settings texts fs (options_below e.depth options) directory)

-- The walk that starts there may have the greatest depth of the other, if nothing that it yields would be at it in the other.
abbrev pub DepthsMayBeTheSame : Type 0
DepthsMayBeTheSame = (settings : Settings) (texts : Texts) (fs : Functions) (options : Options) (root directory : List ℕ) (e : Entry Worth Worth) (behind : List (Item Worth Worth))
    → AreStarts settings texts fs options root directory → IsIn (walk_ignoring settings texts fs options root) directory e behind
    → All (λ x. depth_of x + e.depth < options.max_depth) (walk_ignoring settings texts fs (without_least_depth options) directory)
    → AreTheSameBelow e behind (walk_ignoring settings texts fs (without_least_depth options) directory)
