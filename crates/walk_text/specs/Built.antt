-- Trees built from lines.
use Rattle.std.specs.Prelude.{◌≡◌, ℕ, ◌+◌, List, [], ◌∷◌, ◌++◌, length, ◌⊎◌, Option, None, IfSome, Result, IsErr, IsUtf8}
use Rattle.std.specs.declared.io.ErrorKind.TheVariants.{PermissionDenied}
use Rattle.jwalk_model.specs.Tree.{Tree, Refusal, directory, file, link, add, deny, only_root}
use Rattle.jwalk_memory_fs.specs.MemoryFs.{IsSameTree, IsBuilt}
use Rattle.walk_text.specs.declared.failure.Failure.{Failure}
use Rattle.walk_text.specs.declared.failure.Failure.TheVariants.{BadWords, BadTree, TooMany, Memory, Output}
use Rattle.walk_text.specs.declared.tree_line.TreeLine.{TreeLine}
use Rattle.walk_text.specs.declared.tree_line.TreeLine.TheVariants.{Dir, File, Link, Deny}
use Rattle.walk_text.specs.TextLines.{text_lines}
use Rattle.walk_text.specs.TreeLine.{Says, IsTreeLine}

-- the tree after what a line says
abbrev pub added : TreeLine → Tree → Result Tree Refusal
added (Dir path) tree = add (directory [] None) path.now tree
added (File len path) tree = add (file len) path.now tree
added (Link target path) tree = add (link target.now) path.now tree
added (Deny path) tree = deny PermissionDenied path.now tree

-- The line makes the second tree of the first. An empty line changes nothing.
abbrev pub Adds : List ℕ → Tree → Tree → Type 0
Adds [] old new = new ≡ old
Adds (c ∷ cs) old new = (line : TreeLine) × Says (c ∷ cs) line × IsBuilt (added line old) new

-- The lines do so, one after another.
abbrev pub AddsAll : List (List ℕ) → Tree → Tree → Type 0
AddsAll [] old new = new ≡ old
AddsAll (line ∷ others) old new = (mid : Tree) × Adds line old mid × AddsAll others mid new

-- The line isn't text, or no line of a tree, or says what can't be added.
abbrev pub CannotAdd : List ℕ → Tree → Type 0
CannotAdd text tree = ¬ (IsUtf8 text) ⊎ ¬ (IsTreeLine text) ⊎ ((line : TreeLine) × Says text line × IsErr (added line tree))

-- The lines build the tree.
abbrev pub Builds : List (List ℕ) → Tree → Type 0
Builds lines tree = (start : Tree) × IsSameTree only_root start × AddsAll lines start tree

-- The line of this number, counted from 1, is the first bad one: those before it build a tree that it can't be added to.
pub record IsFirstBad (lines : List (List ℕ)) (number : ℕ) : Type 0 where
  pub before : List (List ℕ)
  pub line : List ℕ
  pub after : List (List ℕ)
  pub tree : Tree
  pub parts : lines ≡ before ++ line ∷ after
  pub counted : number ≡ length before + 1
  pub built : Builds before tree
  pub bad : CannotAdd line tree

-- Why the lines build no tree: the first bad one, or memory ran out.
abbrev pub TellsOf : List (List ℕ) → Failure → Type 0
TellsOf lines (BadTree number) = IsFirstBad lines number
TellsOf lines Memory = Unit {0}
TellsOf lines TooMany = ⊥
TellsOf lines BadWords = ⊥
TellsOf lines Output = ⊥

-- Why the bytes to come build no tree: they can't be read, and the number is 0. Or the first bad line. Or memory ran out.
abbrev pub TellsOfInput : Option (List ℕ) → Failure → Type 0
TellsOfInput to_come (BadTree number) = (number ≡ 0) ⊎ IfSome to_come (λ bytes. IsFirstBad (text_lines bytes) number)
TellsOfInput to_come Memory = Unit {0}
TellsOfInput to_come TooMany = ⊥
TellsOfInput to_come BadWords = ⊥
TellsOfInput to_come Output = ⊥
