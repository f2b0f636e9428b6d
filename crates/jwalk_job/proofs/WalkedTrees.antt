-- The readings of a job's tree, without their addresses.
use Rattle.std.proofs.Common.{◌≡◌, ℕ, zero, suc, ◌+◌, ◌-◌, List, [], ◌∷◌, ◌++◌, map, refl, ap, ◌∙◌}
use Rattle.std.specs.Prelude.{flat_map}
use Rattle.std.proofs.lemmas.List.{map-append}
use Rattle.std.proofs.lemmas.Simd.{map-map}
use Rattle.jwalk_model.specs.ReadDir.{Spec, Outcome, children_of}
use Rattle.jwalk_model.specs.Job.{Job, reading}
use Rattle.jwalk_model.specs.Preorder.{readings}
use Rattle.jwalk_order.specs.Addressed.{Addressed}
use Rattle.jwalk_board.specs.Plan.{forest, read, subtree, subtree_within, specs_in_preorder}
use Rattle.jwalk_job.specs.Plan.{tree_of, TreesAreWalked}

module _ {R E : Type 0} (job : Job R E) where
  abbrev readings_of : List (Addressed (Spec R)) → List (Outcome R E)
  readings_of = map (λ x. reading job x.value)

  of_forest : (f : List ℕ → Spec R → List (Addressed (Spec R))) (g : Spec R → List (Outcome R E)) → ((a : List ℕ) (s : Spec R) → readings_of (f a s) ≡ g s) → (a : List ℕ) (i : ℕ) (specs : List (Spec R)) → readings_of (forest f a i specs) ≡ flat_map g specs
  of_forest f g each a i [] = refl
  of_forest f g each a i (s ∷ specs) =
      map-append (λ (x : Addressed (Spec R)). reading job x.value) (f (a ++ i ∷ []) s) (forest f a (i + 1) specs)
      ∙ ap (λ l. l ++ readings_of (forest f a (i + 1) specs)) (each (a ++ i ∷ []) s)
      ∙ ap (λ l. g s ++ l) (of_forest f g each a (i + 1) specs)

  -- no level, no reading
  of_nothing : (a : List ℕ) (i : ℕ) (specs : List (Spec R)) → readings_of (forest (subtree_within (tree_of job) zero) a i specs) ≡ []
  of_nothing a i [] = refl
  of_nothing a i (s ∷ specs) = of_nothing a (i + 1) specs

  of_subtree : (levels : ℕ) (a : List ℕ) (s : Spec R) → readings_of (subtree_within (tree_of job) (suc levels) a s) ≡ readings (reading job) levels s
  unfolding readings
  of_subtree zero a s = ap (λ l. reading job s ∷ l) (of_nothing a 0 (children_of (reading job s)))
  of_subtree (suc levels) a s = ap (λ l. reading job s ∷ l) (of_forest (subtree_within (tree_of job) (suc levels)) (readings (reading job) levels) (of_subtree levels) a 0 (children_of (reading job s)))

pub trees_walked : {R E : Type 0} → TreesAreWalked R E
trees_walked job roots =
    map-map (λ x. x.value) (read (tree_of job)) (specs_in_preorder (tree_of job) roots)
    ∙ of_forest job (subtree (tree_of job)) (λ spec. readings (reading job) (job.options.max_depth - spec.depth) spec) (λ a s. of_subtree job (job.options.max_depth - s.depth) a s) [] 0 roots
