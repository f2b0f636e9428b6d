-- Trees in memory whose listings agree with what asking returns.
use Rattle.std.specs.Prelude.{◌≡◌, ℕ, List, All, Option, Some, Result, Ok}
use Rattle.std.specs.declared.io.ErrorKind.{ErrorKind}
use Rattle.jwalk_model.specs.PathTexts.{IsName}
use Rattle.jwalk_model.specs.Options.{Options}
use Rattle.jwalk_model.specs.Tree.{Place, Node, directory, file, link, Tree, functions_of, only_root, Refusal, add, deny, remove}
use Rattle.jwalk_usage.specs.Totals.{totals}
use Rattle.jwalk_usage.specs.Kept.{kept_totals}
use Rattle.jwalk_usage_laws.specs.Agreement.{Agrees, IsAskedAlike}
use Rattle.jwalk_usage_laws.specs.Totals.{keeping_walk, asking_walk, SaysAllOfFiles}

-- Every name in a directory of the tree is one that a path's component can be.
abbrev pub HasPlainNames : Tree → Type 0
HasPlainNames tree = (place : Place) (names : List (List ℕ)) (denied : Option ErrorKind) → tree place ≡ Some (directory names denied) → All IsName names

-- A tree with such names agrees with itself, says all of files, and any root is asked alike.
pub record ActsAsFileSystem (tree : Tree) : Type 0 where
  pub agrees : Agrees (functions_of tree)
  pub says_all : SaysAllOfFiles (functions_of tree)
  pub roots : (root : List ℕ) → IsAskedAlike (functions_of tree) root

-- Each tree with such names does.
abbrev pub TreesAgree : Type 0
TreesAgree = (tree : Tree) → HasPlainNames tree → ActsAsFileSystem tree

-- Every name that a node has, if it is a directory, is such a name.
abbrev pub HasPlainNamesItself : Node → Type 0
HasPlainNamesItself (directory names denied) = All IsName names
HasPlainNamesItself (file len) = Unit {0}
HasPlainNamesItself (link target) = Unit {0}

-- What a step makes of a tree with such names is one.
abbrev pub KeepsPlainNames : (Tree → Result Tree Refusal) → Type 0
KeepsPlainNames step = (tree new : Tree) → HasPlainNames tree → step tree ≡ Ok new → HasPlainNames new

-- The tree with nothing below its root has such names, and each step of building keeps them.
pub record BuiltTreesHavePlainNames : Type 0 where
  pub empty : HasPlainNames only_root
  pub adding : (node : Node) (path : List ℕ) → HasPlainNamesItself node → KeepsPlainNames (add node path)
  pub denying : (k : ErrorKind) (path : List ℕ) → KeepsPlainNames (deny k path)
  pub removing : (path : List ℕ) → KeepsPlainNames (remove path)

-- Over a tree with such names, what a walk's entries keep comes to the same as what asking returns.
abbrev pub KeptTotalsOverTrees : Type 0
KeptTotalsOverTrees = (tree : Tree) (options : Options) (root : List ℕ) → HasPlainNames tree
    → kept_totals (keeping_walk (functions_of tree) options root) ≡ totals (functions_of tree) (asking_walk (functions_of tree) options root)
