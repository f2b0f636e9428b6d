-- Totals by what entries keep, and totals by asking.
use Rattle.std.specs.Prelude.{◌≡◌, ℕ, true, false, List, All, Ok, Err}
use Rattle.std.specs.List.{list_all}
use Rattle.jwalk_model.specs.declared.file_type.FileType.{FileType}
use Rattle.jwalk_model.specs.declared.seen.Seen.TheVariants.{TypeAlone}
use Rattle.jwalk_model.specs.FileType.{is_file}
use Rattle.jwalk_model.specs.FileSystem.{Listed, Functions}
use Rattle.jwalk_model.specs.Options.{Options, with_keep_metadata}
use Rattle.jwalk_model.specs.Entry.{Item}
use Rattle.jwalk_model.specs.Counted.{Worth}
use Rattle.jwalk_model.specs.Walk.{stateless_walk}
use Rattle.jwalk_usage.specs.Totals.{totals}
use Rattle.jwalk_usage.specs.Kept.{is_known, kept_totals}
use Rattle.jwalk_usage_laws.specs.Agreement.{Agrees, IsAskedAlike}

-- what a walk with no callback yields that keeps metadata
abbrev pub keeping_walk : Functions → Options → List ℕ → List (Item Worth Worth)
keeping_walk fs options root = stateless_walk fs (with_keep_metadata true options) root

-- what the same walk yields that keeps none
abbrev pub asking_walk : Functions → Options → List ℕ → List (Item Worth Worth)
asking_walk fs options root = stateless_walk fs (with_keep_metadata false options) root

-- Of no file does an item of a listing say the type alone.
abbrev pub SaysAllOfFile : Listed → Type 0
SaysAllOfFile (Ok n) = (type : FileType) → n.seen ≡ Ok (TypeAlone type) → is_file type ≡ false
SaysAllOfFile (Err kind) = Unit {0}

-- No listing says the type alone of a file.
abbrev pub SaysAllOfFiles : Functions → Type 0
SaysAllOfFiles fs = (path : List ℕ) (items : List Listed) → fs.list_of path ≡ Ok items → All SaysAllOfFile items

-- Over a file system that agrees with itself, where each file that a walk yields keeps its metadata, what is kept comes to the same as what asking returns.
abbrev pub KeptTotalsAreTotals : Type 0
KeptTotalsAreTotals = (fs : Functions) (options : Options) (root : List ℕ) → Agrees fs → IsAskedAlike fs root
    → list_all is_known (keeping_walk fs options root) ≡ true
    → kept_totals (keeping_walk fs options root) ≡ totals fs (asking_walk fs options root)

-- Where listings say all of files, each file that a walk yields keeps its metadata.
abbrev pub FilesKeepMetadata : Type 0
FilesKeepMetadata = (fs : Functions) (options : Options) (root : List ℕ) → SaysAllOfFiles fs → list_all is_known (keeping_walk fs options root) ≡ true
