-- The preorder of a tree, without addresses.
use Rattle.std.proofs.Common.{◌≡◌, ℕ, zero, suc, ◌+◌, List, [], ◌∷◌, ◌++◌, map, refl, sym, ap, ap₂, ◌∙◌, append_assoc}
use Rattle.std.proofs.lemmas.List.{map-append}
use Rattle.std.proofs.lemmas.Simd.{map-map}
use Rattle.jwalk_order.specs.Addressed.{Addressed}
use Rattle.jwalk_board.specs.Plan.{PlanTree, Falls, forest, read, subtree, subtree_within, specs_in_preorder, readings_in_preorder, values}
use Rattle.jwalk_board.proofs.Preorders.{subtree-is}

module _ {S Q : Type 0} (t : PlanTree S Q) where
  -- the specifications that lie at and below these, in preorder
  abbrev pub below : List S → List S
  below specs = values (specs_in_preorder t specs)

  same_forest : (f : List ℕ → S → List (Addressed S)) → ((a b : List ℕ) (s : S) → values (f a s) ≡ values (f b s)) → (a b : List ℕ) (i j : ℕ) (specs : List S) → values (forest f a i specs) ≡ values (forest f b j specs)
  same_forest f each a b i j [] = refl
  same_forest f each a b i j (s ∷ specs) =
      map-append (λ x. x.value) (f (a ++ i ∷ []) s) (forest f a (i + 1) specs)
      ∙ ap₂ (λ l m. l ++ m) (each (a ++ i ∷ []) (b ++ j ∷ []) s) (same_forest f each a b (i + 1) (j + 1) specs)
      ∙ sym (map-append (λ x. x.value) (f (b ++ j ∷ []) s) (forest f b (j + 1) specs))

  same_within : (n : ℕ) (a b : List ℕ) (s : S) → values (subtree_within t n a s) ≡ values (subtree_within t n b s)
  same_within zero a b s = refl
  same_within (suc n) a b s = ap (λ l. s ∷ l) (same_forest (subtree_within t n) (same_within n) a b 0 0 (t.children s))

  same_subtree : (a b : List ℕ) (s : S) → values (subtree t a s) ≡ values (subtree t b s)
  same_subtree a b s = same_within (suc (t.height s)) a b s

  forest-append : (a : List ℕ) (i : ℕ) (xs ys : List S) → values (forest (subtree t) a i (xs ++ ys)) ≡ values (forest (subtree t) a i xs) ++ below ys
  forest-append a i [] ys = same_forest (subtree t) same_subtree a [] i 0 ys
  forest-append a i (x ∷ xs) ys =
      map-append (λ z. z.value) (subtree t (a ++ i ∷ []) x) (forest (subtree t) a (i + 1) (xs ++ ys))
      ∙ ap (λ l. values (subtree t (a ++ i ∷ []) x) ++ l) (forest-append a (i + 1) xs ys)
      ∙ sym (append_assoc (values (subtree t (a ++ i ∷ []) x)) (values (forest (subtree t) a (i + 1) xs)) (below ys))
      ∙ ap (λ l. l ++ below ys) (sym (map-append (λ z. z.value) (subtree t (a ++ i ∷ []) x) (forest (subtree t) a (i + 1) xs)))

  -- The first comes before what is below it, and that before the rest.
  pub below-first : Falls t → (s : S) (rest : List S) → below (s ∷ rest) ≡ s ∷ below (t.children s ++ rest)
  below-first falls s rest =
      map-append (λ x. x.value) (subtree t (0 ∷ []) s) (forest (subtree t) [] 1 rest)
      ∙ ap₂ (λ l m. l ++ m) (ap values (subtree-is t falls (0 ∷ []) s) ∙ ap (λ l. s ∷ l) (same_forest (subtree t) same_subtree (0 ∷ []) [] 0 0 (t.children s))) (same_forest (subtree t) same_subtree [] [] 1 0 rest)
      ∙ ap (λ l. s ∷ l) (sym (forest-append [] 0 (t.children s) rest))

  -- their readings
  pub readings-are : (roots : List S) → values (readings_in_preorder t roots) ≡ map t.reading (below roots)
  readings-are roots = map-map (λ x. x.value) (read t) (specs_in_preorder t roots) ∙ sym (map-map t.reading (λ x. x.value) (specs_in_preorder t roots))

-- one reading more is found
pub one_more : {R Q : Type 0} (value : R → Q) (found : List R) (o : R) (rest all old : List Q) → map value found ++ old ≡ all → old ≡ value o ∷ rest → map value (found ++ o ∷ []) ++ rest ≡ all
one_more value found o rest all old is first =
    ap (λ l. l ++ rest) (map-append value found (o ∷ [])) ∙ append_assoc (map value found) (value o ∷ []) rest ∙ ap (λ l. map value found ++ l) (sym first) ∙ is
