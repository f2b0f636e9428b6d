-- The folders above a root.
use Prim.Native.Nat.{zero}
use Rattle.std.specs.Prelude.{ℕ, suc, Bool, ◌||◌, List, [], ◌∷◌, Option, Some, None, if◌then◌else◌}
use Rattle.jwalk_model.specs.Paths.{parent}
use Rattle.jwalk_model.specs.declared.file_type.FileType.{FileType}
use Rattle.jwalk_ignore_rules.specs.Rules.Git.{git_at, is_repository}
use Rattle.jwalk_ignore_rules.specs.Rules.Texts.{Texts}
use Rattle.jwalk_ignore_rules.specs.declared.rules.folder.Folder.{Folder as CodeFolder}

-- a folder above the root: what its `.git` leads to, and whether a nearer one is a repository, where `.git` doesn't count
pub record Folder : Type 0 where
  pub path : List ℕ
  pub git : Option FileType
  pub is_outer : Bool

-- a folder by value
abbrev pub folder_value : CodeFolder → Folder
folder_value folder = record { path = folder.path.now; git = folder.git; is_outer = folder.is_outer }

-- whether no `.git` counts above a folder
abbrev pub ends_git : Folder → Bool
ends_git folder = folder.is_outer || is_repository folder.git

module _ (texts : Texts) where
  -- the folder at a path
  abbrev pub folder_at : Bool → List ℕ → Folder
  folder_at is_outer path = record { path = path; git = if is_outer then None else git_at texts path; is_outer = is_outer }

  -- the folders above a path, the nearest first, where a nearer one is a repository or none; at most this many
  abbrev pub folders_above : Bool → ℕ → List ℕ → List Folder
  folders_above is_outer zero path = []
  folders_above is_outer (suc n) path =
      elim (parent path) [
        | None ↦ []
        | Some above ↦ folder_at is_outer above ∷ folders_above (ends_git (folder_at is_outer above)) n above
      ]
