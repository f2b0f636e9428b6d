-- The tree that a file system in memory is.
use Rattle.std.specs.Prelude.{◌≡◌, ◌↔◌, List, ℕ, Result, Ok, Err, OnOk, OnErr}
use Rattle.jwalk_model.specs.Tree.{Place, Tree, Node, Refusal, add}
use Rattle.jwalk_model.specs.Tree as refusal
use Rattle.jwalk_memory_fs.specs.declared.build_error.BuildError.{BuildError}
use Rattle.jwalk_memory_fs.specs.declared.build_error.BuildError.TheVariants.{NotFound, AlreadyExists}
use Rattle.jwalk_memory_fs.specs.declared.memory_fs.MemoryFs.{MemoryFs}
use Rattle.jwalk_memory_fs.specs.Branch.{tree_of_table}
use Rattle.jwalk_memory_fs.specs.Table.{branches}

-- what is at each place
abbrev pub tree_of : {A : Type 0} → MemoryFs A → Tree
tree_of fs = tree_of_table (branches fs.table)

-- The trees have the same at each place.
abbrev pub IsSameTree : Tree → Tree → Type 0
IsSameTree old new = (place : Place) → new place ≡ old place

-- The step of building succeeded, and this is the tree that it gave.
abbrev pub IsBuilt : Result Tree Refusal → Tree → Type 0
IsBuilt (Ok tree) new = IsSameTree tree new
IsBuilt (Err refusal) new = ⊥

-- What adding a node at a path returns, and the tree after it. If it succeeds, that is the tree with the node. If not, the definition fails too or memory ran out, and the tree is as it was.
pub record IsAddition (node : Node) (path : List ℕ) (old : Tree) (result : Result (Unit {0}) BuildError) (new : Tree) : Type 0 where
  pub added : OnOk result (IsBuilt (add node path old) new)
  pub not_found : (result ≡ Err NotFound) ↔ (add node path old ≡ Err refusal.not_found)
  pub already_exists : (result ≡ Err AlreadyExists) ↔ (add node path old ≡ Err refusal.already_exists)
  pub err : OnErr result (IsSameTree old new)
