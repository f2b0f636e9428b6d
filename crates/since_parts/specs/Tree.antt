-- Which tree is compared, and what of it is left out.
use Rattle.std.specs.Prelude.{◌≡◌, ℕ, Bool, true, false, not, ◌&&◌, ◌||◌, List, [], length, drop, bytes_eq, codes, nat_eq, Option, Some, None, option_map, Ok, string_bytes, if◌then◌else◌}
use Rattle.std.specs.List.{starts_with}
use Rattle.std.specs.declared.alloc.Global.{Global}
use Rattle.std.specs.declared.string.String.{String}
use Rattle.jwalk_model.specs.Paths.{dot, file_name, join, parent}
use Rattle.jwalk_ignore_rules.specs.Rules.Texts.{Texts}
use Rattle.since_parts.specs.Choice.{keeps_names}
use Rattle.since_parts.specs.declared.tree.Tree.{Tree}

-- what is behind a front in a path that begins with it
abbrev pub strip : List ℕ → List ℕ → Option (List ℕ)
strip front path = if starts_with nat_eq path front then Some (drop (length front) path) else None

abbrev pub or_whole : List ℕ → Option (List ℕ) → List ℕ
or_whole path None = path
or_whole path (Some rest) = rest

-- what is behind a front, or the whole path
abbrev pub behind : List ℕ → List ℕ → List ℕ
behind front path = or_whole path (strip front path)

-- what the paths below a root begin with: the root, and a slash
abbrev pub front_of : List ℕ → List ℕ
front_of root = join root []

abbrev pub folder_above : Option (List ℕ) → List ℕ
folder_above None = dot
folder_above (Some folder) = if bytes_eq folder [] then dot else folder

-- the folder that a path lies in
abbrev pub folder_in : List ℕ → List ℕ
folder_in path = folder_above (parent path)

-- the path of a name in a folder behind an absolute root, if it lies below that
abbrev pub own_below : List ℕ → List ℕ → List ℕ → Option (List ℕ)
own_below folder name root = strip (front_of root) (join folder name)

-- The path of a file with this name behind an absolute root, if it lies below that.
abbrev pub IsNamedBelow : Texts → List ℕ → Option (List ℕ) → List ℕ → Option (List ℕ) → Type 0
IsNamedBelow texts file None root own = own ≡ None
IsNamedBelow texts file (Some name) root own = (folder : List ℕ) × (texts.absolute_of (folder_in file) ≡ Ok folder) × (own ≡ own_below folder name root)

abbrev pub IsOwnOf : Texts → List ℕ → List ℕ → Option (List ℕ) → Type 0
IsOwnOf texts file root own = IsNamedBelow texts file (file_name file) root own

-- whether this follows a file's name in that, or in a temporary name of the file
abbrev pub is_temporary : List ℕ → Bool
is_temporary rest = bytes_eq rest [] || starts_with nat_eq rest (codes ".new-")

abbrev pub is_own_rest : Option (List ℕ) → Bool
is_own_rest None = false
is_own_rest (Some rest) = is_temporary rest

-- whether a path is that of a file, or of its temporary names
abbrev pub is_own : List ℕ → List ℕ → Bool
is_own own path = is_own_rest (strip own path)

-- whether a path counts: if it isn't the file's, where that lies below the root
abbrev pub counts : Option (List ℕ) → List ℕ → Bool
counts None path = true
counts (Some own) path = not (is_own own path)

abbrev pub own_texts : Option (String Global) → Option (List ℕ)
own_texts = option_map string_bytes

abbrev pub front_in : Tree → List ℕ
front_in tree = string_bytes tree.front

abbrev pub own_in : Tree → Option (List ℕ)
own_in tree = own_texts tree.own

abbrev pub is_text : List ℕ → Option (List ℕ) → Bool
is_text text None = false
is_text text (Some other) = bytes_eq other text

-- whether a file lies in the directory with this path
abbrev pub holds : List ℕ → List ℕ → Bool
holds own path = is_text path (parent own)

-- whether no name is left out of a directory for the file with the snapshot
abbrev pub keeps_own : Option (List ℕ) → List ℕ → Bool
keeps_own None path = true
keeps_own (Some own) path = not (holds own path)

-- whether no name is left out of the directory with this path behind the root: neither by what is chosen, nor the file's
abbrev pub keeps_all : Tree → List ℕ → Bool
keeps_all tree path = keeps_names tree.choice && keeps_own (own_in tree) path

-- The tree below a root without a file, by what absolute paths are.
pub record IsTree (texts : Texts) (file root : List ℕ) (tree : Tree) : Type 0 where
  pub absolute : texts.absolute_of root ≡ Ok (string_bytes tree.absolute)
  pub own : IsOwnOf texts file (string_bytes tree.absolute) (own_in tree)
