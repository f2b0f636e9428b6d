-- What is left of the readings when the directory that comes next is passed over.
use Rattle.std.proofs.Common.{◌≡◌, ◌≢◌, ◌∙◌, ◌≤◌, ℕ, List, [], ◌∷◌, ◌++◌, map, drop, length, length-append, Option, Some, inl, inr, refl, sym, ap, subst, arith}
use Rattle.std.specs.Prelude.{All}
use Rattle.std.proofs.lemmas.List.{map-append}
use Rattle.std.proofs.lemmas.List.Sorted.{All-permutation, IsPermutation-map, length_permutation}
use Rattle.std.specs.declared.clone.Clone as Clone
use Rattle.std.specs.declared.default.Default as Default
use Rattle.jwalk_model.specs.ReadDir.{Spec}
use Rattle.jwalk_fs.specs.declared.file_system.FileSystem as FileSystem
use Rattle.jwalk_order.specs.Frontier.{passed}
use Rattle.jwalk_board.specs.Board.{Board}
use Rattle.jwalk_board.proofs.Skips.{All-right}
use Rattle.tree_walk.specs.BoardWalk as tree
use Rattle.jwalk_job.specs.declared.process_read_dir.ProcessReadDir as ProcessReadDir
use Rattle.jwalk_job.specs.declared.job.Job.{Job}
use Rattle.jwalk_job.specs.declared.read_dir_spec.ReadDirSpec.{ReadDirSpec}
use Rattle.jwalk_job.specs.ReadDirSpec.{spec}
use Rattle.jwalk_job.specs.Given.{Given, counted_spec}
use Rattle.jwalk_readings.specs.Reads.{Read}
use Rattle.jwalk_readings.specs.BatchReads.{seen_made, to_read_on, early_on}
use Rattle.jwalk_readings.specs.Origin.{Origin, spec_at}
use Rattle.jwalk_readings.specs.declared.readers.Readers as Readers
use Rattle.jwalk_readings.specs.CrewReads.{IsSteadyOver}
use Rattle.jwalk_readings.proofs.CrewSteadyFacts.{none_waits}

module _ {C A R E : Type 0} (old new : Option (Board (ReadDirSpec C A R E) (Read C A R E))) where
  pub skipped_to_read : tree.SkipsNext old new → to_read_on new ≡ drop 1 (to_read_on old)
  skipped_to_read (inl nothing) =
      ap to_read_on nothing.2 ∙ ap (map spec) nothing.1 ∙ sym (ap (λ l. drop 1 (map spec l)) nothing.1)
  skipped_to_read (inr skips) = sym (ap (λ l. drop 1 (map spec l)) skips.to_read)

  pub skipped_frontier : tree.SkipsNext old new → tree.frontier_on new ≡ passed (tree.frontier_on old) 0
  skipped_frontier (inl nothing) = ap tree.frontier_on nothing.2 ∙ nothing.0 ∙ sym (ap (λ l. passed l 0) nothing.0)
  skipped_frontier (inr skips) = skips.passes

  pub skipped_early : (P : Read C A R E × List (Spec R) → Type 0) → tree.SkipsNext old new → All P (early_on old) → All P (early_on new)
  skipped_early P (inl nothing) all = subst (λ b. All P (early_on b)) (sym nothing.2) all
  skipped_early P (inr skips) all =
      All-right P (map seen_made skips.gone) (early_on new)
      (subst (All P) (map-append seen_made skips.gone (tree.left_on new).made)
      (All-permutation P (early_on old) (map seen_made (skips.gone ++ (tree.left_on new).made)) (IsPermutation-map seen_made (tree.left_on old).made (skips.gone ++ (tree.left_on new).made) skips.made) all))

  pub skipped_done : tree.SkipsNext old new → length (tree.ahead_of new).done ≤ length (tree.ahead_of old).done
  skipped_done (inl nothing) = omega (arith, ap (λ b. length (tree.ahead_of b).done) nothing.2)
  skipped_done (inr skips) =
      omega (arith, length_permutation (tree.ahead_of old).done (skips.done_gone ++ (tree.ahead_of new).done) skips.done, length-append skips.done_gone (tree.ahead_of new).done)

-- the addresses behind the first are those of what is behind it
rest_placed : {X Y : Type 0} (at : List ℕ → Option Y) (f : X → Y) (addresses : List (List ℕ)) (first : X) (rest : List X) → map at addresses ≡ map (λ x. Some (f x)) (first ∷ rest) → addresses ≢ [] → map at (passed addresses 0) ≡ map (λ x. Some (f x)) rest
rest_placed at f [] first rest is some = absurd (some refl)
rest_placed at f (a ∷ more) first rest is some = ap (drop 1) is

module _ {C S P A L R E : Type 0} (files : FileSystem.Ghosts S) (process : ProcessReadDir.Ghosts P C A R E) (clone : Clone.Ghosts R) (defaults : Default.Ghosts E) (readers : Readers.Ghosts L C S P A R E) where
  -- What is left is steady where the first directory's address is passed by the readers too.
  pub passed_steady : (job : Job C S P A R E) (before after : L) (addresses : List (List ℕ)) (first : Spec R) (rest : List (Spec R)) (given : Given R E)
      → ((origin : Origin C S P A R E) → readers.comes_from before origin → readers.comes_from after origin) → readers.awaits after ≡ passed (readers.awaits before) 0
      → IsSteadyOver files process clone defaults readers job (Some before) addresses (first ∷ rest) given → IsSteadyOver files process clone defaults readers job (Some after) (passed addresses 0) rest given
  passed_steady job before after addresses first rest given same further was =
      let origin : Origin C S P A R E = record { job = job; roots = was.roots } in
      record {
        steady = was.steady;
        roots = was.roots;
        comes = same origin was.comes;
        awaits = further ∙ ap (λ l. passed l 0) was.awaits;
        at = rest_placed (spec_at files process clone defaults origin given) (counted_spec given) addresses first rest was.at (λ none. none_waits files process clone defaults readers job (Some before) addresses first rest given none was);
      }
