-- A path that is taken apart from its end gives its normalised components, the last first.
use Rattle.std.proofs.Common.{◌≡◌, ◌≢◌, ℕ, zero, suc, ◌+◌, ◌-◌, ◌≤◌, Bool, true, false, cond, List, [], ◌∷◌, ◌++◌, map, length, filter, eqb, Some, refl, sym, ap, ◌∙◌, arith}
use Rattle.std.proofs.lemmas.List.{length-append}
use Rattle.std.proofs.lemmas.List.Sums.{fold-append}
use Rattle.std.specs.Prelude.{fold, slice_index}
use Rattle.std.specs.Fn.{iterate}
use Rattle.std.specs.Path.{slash, root_dir, cur_dir, is_dot_at, first_piece, later_pieces, is_name, leading_components, path_names, path_components, component_bytes, IsLastComponent}
use Rattle.std.specs.declared.path.components.Component.{Component as StdComponent}
use Rattle.std.specs.declared.path.components.Component.TheVariants.{RootDir}
use Rattle.jwalk_model.specs.Paths.{Component, root, up, plain, after_one, after_up}
use Rattle.jwalk_model.specs.PathTexts.{component_read, component_seen}
use Rattle.jwalk_model.proofs.PathFacts.{last_read}

few_kept : {X : Type 0} (keep : X → Bool) (xs : List X) → length (filter keep xs) ≤ length xs
few_kept keep [] = omega arith
few_kept keep (x ∷ xs) = elim (keep x) as (λ b. length (cond b (x ∷ filter keep xs) (filter keep xs)) ≤ suc (length xs)) [ true ↦ omega (arith, few_kept keep xs) | false ↦ omega (arith, few_kept keep xs) ]

few_pieces : (text : List ℕ) → length (later_pieces text) ≤ length text
few_pieces [] = omega arith
few_pieces (b ∷ rest) =
    elim (eqb b 47) as (λ t. length (cond t (first_piece rest ∷ later_pieces rest) (later_pieces rest)) ≤ suc (length rest)) [ true ↦ omega (arith, few_pieces rest) | false ↦ omega (arith, few_pieces rest) ]

few_leading : (b c : Bool) (x y : List ℕ) → length (cond b (x ∷ []) (cond c (y ∷ []) [])) ≤ 1
few_leading true c x y = omega arith
few_leading false true x y = omega arith
few_leading false false x y = omega arith

-- there are at most two components more than bytes
pub few_components : (text : List ℕ) → length (path_components text) ≤ length text + 2
unfolding path_components path_names
few_components text =
    omega (
      arith,
      length-append (leading_components text) (filter is_name (first_piece text ∷ later_pieces text)),
      few_kept is_name (first_piece text ∷ later_pieces text),
      few_pieces text,
      few_leading (eqb (slice_index text 0) slash) (is_dot_at text 0) root_dir cur_dir,
    )

-- what is left of components, normalised, once n names at their end are taken away
abbrev left : ℕ → List (List ℕ) → List Component
left n texts = iterate after_up n (fold after_one [] (map component_read texts))

module _ (n : ℕ) (before after : List (List ℕ)) (d : StdComponent) (taken : IsLastComponent before (Some d) after) where
  -- the last component is the last step
  last_step : (c : StdComponent) → d ≡ c → left n before ≡ iterate after_up n (after_one (left 0 after) (component_seen c))
  last_step c is =
      ap (λ cs. iterate after_up n (fold after_one [] cs)) (last_read before after (Some d) taken ∙ ap (λ e. map component_read after ++ component_seen e ∷ []) is)
      ∙ ap (iterate after_up n) (fold-append after_one [] (map component_read after) (component_seen c ∷ []))

root_stays : (n : ℕ) (cs : List Component) → iterate after_up n (root ∷ cs) ≡ root ∷ cs
root_stays zero cs = refl
root_stays (suc n) cs = root_stays n cs

module _ (before after : List (List ℕ)) (d : StdComponent) (taken : IsLastComponent before (Some d) after) where
  pub left_root : (n : ℕ) → d ≡ RootDir → left n before ≡ component_seen d ∷ left 0 after
  left_root n is = last_step n before after d taken RootDir is ∙ root_stays n (left 0 after) ∙ ap (λ e. component_seen e ∷ left 0 after) (sym is)

  pub left_name : (n : ℕ) → n ≡ 0 → (c : StdComponent) (name : List ℕ) → d ≡ c → component_seen c ≡ plain name → left n before ≡ component_seen d ∷ left n after
  left_name n none c name is named =
      ap (λ k. left k before) none
      ∙ last_step 0 before after d taken c is
      ∙ ap (after_one (left 0 after)) named
      ∙ ap (λ e. e ∷ left 0 after) (sym (ap component_seen is ∙ named))
      ∙ ap (λ k. component_seen d ∷ left k after) (sym none)

  pub left_name_away : (n : ℕ) → n ≢ 0 → (c : StdComponent) (name : List ℕ) → d ≡ c → component_seen c ≡ plain name → left n before ≡ left (n - 1) after
  left_name_away n some c name is named =
      let one_more : n ≡ suc (n - 1) = omega (arith, some) in
      ap (λ k. left k before) one_more
      ∙ last_step (suc (n - 1)) before after d taken c is
      ∙ ap (λ e. iterate after_up (suc (n - 1)) (after_one (left 0 after) e)) named

up_added : (n : ℕ) (cs : List Component) → after_up cs ≡ up ∷ cs → iterate after_up n (up ∷ cs) ≡ up ∷ iterate after_up n cs
up_added zero cs adds = refl
up_added (suc n) cs adds = up_added n (up ∷ cs) refl ∙ ap (λ ds. up ∷ iterate after_up n ds) (sym adds)

-- before the first component the `..`s are left
pub left_ups : (n : ℕ) (before after : List (List ℕ)) → n ≢ 0 → before ≡ [] → after ≡ [] → left n before ≡ up ∷ left (n - 1) after
left_ups n before after some b a =
    let one_more : n ≡ suc (n - 1) = omega (arith, some) in
    ap (left n) b ∙ ap (λ k. left k []) one_more ∙ up_added (n - 1) [] refl ∙ ap (λ l. up ∷ left (n - 1) l) (sym a)

-- one component less is left
pub one_fewer : (before after : List (List ℕ)) (d : StdComponent) → IsLastComponent before (Some d) after → length before ≡ length after + 1
one_fewer before after d taken = ap length taken.0 ∙ length-append after (component_bytes d ∷ [])
