-- How a call of the program ends.
use Rattle.std.specs.Prelude.{◌≡◌, ◌≤◌, ◌⊎◌, ℕ, Bool, true, false, List, Option, is_some, IfSome, IfNone}
use Rattle.jwalk_model.specs.Tree as tree
use Rattle.jwalk_model.specs.Tree.{functions_of}
use Rattle.jwalk_fs.specs.declared.file_system.FileSystem as FileSystem
use Rattle.walk_text.specs.declared.asked.Asked.{Asked}
use Rattle.walk_text.specs.declared.failure.Failure.{Failure}
use Rattle.walk_text.specs.declared.failure.Failure.TheVariants.{BadWords, BadTree, TooMany, Memory, Output}
use Rattle.walk_text.specs.Failure.{status_of}
use Rattle.walk_text.specs.Words.{Ask, AreGood, AskForTree}
use Rattle.walk_text.specs.TextLines.{text_lines}
use Rattle.walk_text.specs.Built.{Builds, TellsOfInput}
use Rattle.walk_run.specs.AskedWalk.{CrewCalls, PrintsBegun, PrintsOver}
use Rattle.walk_run.specs.declared.source.Source.{Source}
use Rattle.walk_run.specs.Source.{IsSource}

-- The words ask for a walk. If it is to go over a tree, there is one, and the bytes to come build it.
pub record BeginsWalk (words : List (List ℕ)) (to_come : Option (List ℕ)) : Type 0 where
  pub asked : Asked
  pub root : List ℕ
  pub ask : Ask words asked root
  pub tree : Option tree.Tree
  pub wanted : is_some tree ≡ asked.tree
  pub builds : IfSome tree (λ t. IfSome to_come (λ bytes. Builds (text_lines bytes) t))

module _ {T C S P A R E : Type 0} (calls : CrewCalls T C (Source S A) P A R E) (files : FileSystem.Ghosts S) where
  -- The walk that begins so was printed to its end, or its totals were, and it is known whether no answer is an error.
  pub record PrintsAnswers (disk : S) (words : List (List ℕ)) (to_come old new : Option (List ℕ)) (clean : Bool) : Type 0 where
    pub walk : BeginsWalk words to_come
    pub source : Source S A
    pub over : IsSource disk walk.tree source
    pub begun : PrintsBegun calls source walk.asked walk.root old new clean

  -- The same, and no answer is an error. The answers are the whole walk over its tree. Without a tree, they are that over the disk, if it always returns the same.
  pub record PrintsWalk (disk : S) (words : List (List ℕ)) (to_come old new : Option (List ℕ)) : Type 0 where
    pub printed : PrintsAnswers disk words to_come old new true
    pub over_tree : IfSome printed.walk.tree (λ t. PrintsOver (functions_of t) printed.walk.asked printed.walk.root old new)
    pub over_disk : IfNone printed.walk.tree (files.IsFixed disk → PrintsOver (files.functions disk) printed.walk.asked printed.walk.root old new)

  -- A call whose status is 1 printed all answers, and one is an error; or it ended early, and why was told last.
  abbrev pub IsFailed : S → List (List ℕ) → Option (List ℕ) → Option (List ℕ) → Option (List ℕ) → Type 0 → Type 0
  IsFailed disk words to_come old new is_told = PrintsAnswers disk words to_come old new false ⊎ is_told

-- Why a call begins no walk: its words ask for none, or the bytes to come build no tree where one is asked for, or memory ran out.
abbrev pub TellsOfCall : List (List ℕ) → Option (List ℕ) → Failure → Type 0
TellsOfCall words to_come BadWords = ¬ (AreGood words)
TellsOfCall words to_come (BadTree number) = AskForTree words × TellsOfInput to_come (BadTree number)
TellsOfCall words to_come Memory = Unit {0}
TellsOfCall words to_come TooMany = ⊥
TellsOfCall words to_come Output = ⊥

-- A call ends with the status of the failure that keeps its walk from beginning, or with 0 or 1 once the walk has begun.
abbrev pub Ends : List (List ℕ) → Option (List ℕ) → ℕ → Type 0
Ends words to_come status =
    ((failure : Failure) × TellsOfCall words to_come failure × (status ≡ status_of failure)) ⊎ (BeginsWalk words to_come × (status ≤ 1))
