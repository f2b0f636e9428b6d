-- What a walk goes over, as a file system.
use Rattle.std.specs.Prelude.{◌≡◌, ℕ, Bool, List, Option, None, Some, is_some, IfSome}
use Rattle.jwalk_model.specs.FileSystem.{Functions}
use Rattle.jwalk_model.specs.Tree as tree
use Rattle.jwalk_model.specs.Tree.{functions_of}
use Rattle.jwalk_memory_fs.specs.declared.memory_fs.MemoryFs.{MemoryFs}
use Rattle.jwalk_memory_fs.specs.MemoryFs.{tree_of}
use Rattle.walk_text.specs.TextLines.{text_lines}
use Rattle.walk_text.specs.Built.{Builds}
use Rattle.walk_run.specs.declared.source.Source.{Source}
use Rattle.walk_run.specs.declared.source.Source.TheVariants.{Disk, Tree}

-- A tree always returns the same. The disk does, if that is said of it.
abbrev pub IsFixedSource : {S A : Type 0} → (S → Type 0) → Source S A → Type 0
IsFixedSource fixed (Disk disk) = fixed disk
IsFixedSource fixed (Tree tree) = Unit {0}

-- what it then returns
abbrev pub source_functions : {S A : Type 0} → (S → Functions) → Source S A → Functions
source_functions functions (Disk disk) = functions disk
source_functions functions (Tree tree) = functions_of (tree_of tree)

-- what a walk goes over: the disk, or the tree
abbrev pub IsSource : {S A : Type 0} → S → Option tree.Tree → Source S A → Type 0
IsSource disk None source = source ≡ Disk disk
IsSource {S} {A} disk (Some t) source = (tree : MemoryFs A) × (source ≡ Tree tree) × (tree_of tree ≡ t)

-- A walk goes over this source: the tree that the bytes to come build, if one is asked for, and the disk otherwise.
pub record GoesOver {S A : Type 0} (asked : Bool) (disk : S) (to_come : Option (List ℕ)) (source : Source S A) : Type 0 where
  pub tree : Option tree.Tree
  pub wanted : is_some tree ≡ asked
  pub builds : IfSome tree (λ t. IfSome to_come (λ bytes. Builds (text_lines bytes) t))
  pub over : IsSource disk tree source
