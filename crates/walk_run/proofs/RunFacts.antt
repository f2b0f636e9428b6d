-- How a call ends.
use Rattle.std.proofs.Common.{◌≡◌, ◌⊎◌, inl, inr, ℕ, List, Option, Some, None, Result, Ok, Err, IfOk, IfSome, subst}
use Rattle.std.specs.Prelude.{IfNone}
use Rattle.jwalk_model.specs.FileSystem.{Functions}
use Rattle.jwalk_model.specs.Tree.{Tree, functions_of}
use Rattle.walk_text.specs.declared.failure.Failure.{Failure}
use Rattle.walk_text.specs.declared.failure.Failure.TheVariants.{BadWords, BadTree, TooMany, Memory, Output}
use Rattle.walk_text.specs.Failure.{status_of}
use Rattle.walk_text.specs.Words.{AskForTree}
use Rattle.walk_text.specs.Built.{TellsOfInput}
use Rattle.walk_run.specs.declared.source.Source.{Source}
use Rattle.walk_run.specs.Source.{IsFixedSource, source_functions, IsSource}
use Rattle.walk_run.specs.Run.{TellsOfCall}

-- no failure ends with 0
pub never_zero : (failure : Failure) → status_of failure ≡ 0 → ⊥
never_zero BadWords is = absurd cc
never_zero (BadTree number) is = absurd cc
never_zero Memory is = absurd cc
never_zero TooMany is = absurd cc
never_zero Output is = absurd cc

-- two facts about a result make another
pub ok_two : {X Y : Type 0} (r : Result X Y) (P Q S : X → Type 0) → IfOk r P → IfOk r Q → ((x : X) → P x → Q x → S x) → IfOk r S
ok_two (Ok x) P Q S first second make = make x first second
ok_two (Err e) P Q S first second make = tt

-- one of two facts, of which the first makes another
pub first_makes : {P Q R : Type 0} → P ⊎ Q → (P → R) → R ⊎ Q
first_makes (inl p) make = inl (make p)
first_makes (inr q) make = inr q

-- why an input builds no tree is why the call begins no walk
pub input_told : (words : List (List ℕ)) (to_come : Option (List ℕ)) (failure : Failure) → AskForTree words → TellsOfInput to_come failure → TellsOfCall words to_come failure
input_told words to_come BadWords asked told = absurd told
input_told words to_come (BadTree number) asked told = (asked, told)
input_told words to_come Memory asked told = tt
input_told words to_come TooMany asked told = told
input_told words to_come Output asked told = told

module _ {S A : Type 0} (disk : S) (source : Source S A) (fixed : S → Type 0) (functions : S → Functions) (P : Functions → Type 0) where
  -- What holds of all that a fixed source returns holds of the tree, if it is one.
  pub of_tree : (tree : Option Tree) → IsSource disk tree source → (IsFixedSource fixed source → P (source_functions functions source)) → IfSome tree (λ t. P (functions_of t))
  of_tree None over holds = tt
  of_tree (Some t) (tree, is, same) holds = subst (λ f. P (functions_of f)) same (subst (λ s. IsFixedSource fixed s → P (source_functions functions s)) is holds tt)

  -- And it holds of the disk otherwise, if that is fixed.
  pub of_disk : (tree : Option Tree) → IsSource disk tree source → (IsFixedSource fixed source → P (source_functions functions source)) → IfNone tree (fixed disk → P (functions disk))
  of_disk None is holds = subst (λ s. IsFixedSource fixed s → P (source_functions functions s)) is holds
  of_disk (Some t) over holds = tt
