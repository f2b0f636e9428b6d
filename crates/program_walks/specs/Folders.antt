-- Roots that directories are in, and which crew reads below a root.
use Rattle.std.specs.Prelude.{◌≡◌, ◌⊎◌, ◌==◌, ℕ, Bool, false, not, ◌&&◌, ◌||◌, List, Option, Some, None, Result, Ok, Err, if◌then◌else◌}
use Rattle.std.specs.declared.io.ErrorKind.{ErrorKind}
use Rattle.jwalk.specs.jwalk_model.FileSystem.{Functions}
use Rattle.jwalk.specs.jwalk_model.FileType.{is_dir}
use Rattle.jwalk.specs.jwalk_model.Metadata.{details_of, type_of}
use Rattle.jwalk.specs.jwalk_model.declared.metadata.Details.{Details}
use Rattle.jwalk.specs.jwalk_model.declared.metadata.Metadata.{Metadata}

-- what a path leads to, if that is known
abbrev pub found_in : Result Metadata ErrorKind → Option Metadata
found_in (Ok m) = Some m
found_in (Err k) = None

-- whether something has two names, as a directory has that no other is in, where a file system counts them
abbrev has_two_names : Option Details → Bool
has_two_names None = false
has_two_names (Some d) = d.links == 2

-- whether directories may be in something, or in what links in it lead to if links are followed
abbrev pub has_folders : Bool → Option Metadata → Bool
has_folders follow None = false
has_folders follow (Some m) = is_dir (type_of m) && (follow || not (has_two_names (details_of m)))

-- the crew that reads below a root: where no directory is in it, none is needed
abbrev pub crew_at : {W : Type 0} → Functions → Bool → Option W → List ℕ → Option W
crew_at fs follow crew root = if has_folders follow (found_in (fs.meta_of root)) then crew else None

-- What reads below a root is this crew, or no crew. Which of the two is known if the disk always returns the same, which `fixed` says.
pub record IsCrewAt {W : Type 0} (fixed : Type 0) (fs : Functions) (follow : Bool) (crew : Option W) (root : List ℕ) (reads : Option W) : Type 0 where
  pub own : (reads ≡ crew) ⊎ (reads ≡ None)
  pub by : fixed → reads ≡ crew_at fs follow crew root
