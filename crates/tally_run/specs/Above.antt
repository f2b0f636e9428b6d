-- The directories that are above what a path leads to.
use Rattle.std.specs.Prelude.{◌≡◌, ◌⊎◌, ℕ, zero, suc, true, List, [], ◌∷◌, Option, None, Some, if◌then◌else◌}
use Rattle.std.specs.List.{list_any}
use Rattle.jwalk.specs.jwalk_model.FileSystem.{Functions}
use Rattle.jwalk.specs.jwalk_model.FileType.{is_dir}
use Rattle.jwalk.specs.jwalk_model.Metadata.{identity_of, same_file, type_of}
use Rattle.jwalk.specs.jwalk_model.Paths.{dot, dots, join, parent}
use Rattle.jwalk.specs.jwalk_model.declared.metadata.Identity.{Identity}
use Rattle.jwalk.specs.jwalk_model.declared.metadata.Metadata.{Metadata}
use Rattle.program_walks.specs.Folders.{found_in}

-- which directory something is, if it is one and that is known
abbrev pub folder_in : Option Metadata → Option Identity
folder_in None = None
folder_in (Some m) = if is_dir (type_of m) then identity_of m else None

-- which directory a path leads to
abbrev pub folder_at : Functions → List ℕ → Option Identity
folder_at fs path = folder_in (found_in (fs.meta_of path))

-- the path of the directory so far above another
abbrev pub above : ℕ → List ℕ → List ℕ
above zero path = path
above (suc n) path = join (above n path) dots

-- A path leads to one of these directories, or into one: who goes up from it comes to it.
pub record LeadsInto (fs : Functions) (known : List Identity) (path : List ℕ) : Type 0 where
  pub up : ℕ
  pub folder : Identity
  pub at : folder_at fs (above up path) ≡ Some folder
  pub is_known : list_any (λ i. same_file i folder) known ≡ true

-- the folder that is named, or else the one that the program runs in
abbrev named_or_here : Option (List ℕ) → List ℕ
named_or_here None = dot
named_or_here (Some []) = dot
named_or_here (Some (c ∷ cs)) = c ∷ cs

-- the folder that a path lies in
abbrev pub folder_of : List ℕ → List ℕ
folder_of path = named_or_here (parent path)

-- A path leads to one of these directories, or lies in one or below it.
abbrev pub LiesBelow : Functions → List Identity → List ℕ → Type 0
LiesBelow fs known path = LeadsInto fs known path ⊎ LeadsInto fs known (folder_of path)
