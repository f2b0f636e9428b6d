-- What a look-up by names finds in a table of directories, and that in a sound one each directory has one place.
use Rattle.std.proofs.Common.{◌≡◌, ℕ, zero, suc, ◌<◌, List, [], ◌∷◌, ◌++◌, length, Option, None, Some, refl, sym, ap, ◌∙◌, arith}
use Rattle.std.specs.Prelude.{option_and_then}
use Rattle.jwalk_model.specs.Tree.{Place, above, only_root}
use Rattle.jwalk_memory_fs.specs.Child.{Child, Dir, File, Link}
use Rattle.jwalk_memory_fs.specs.Hit.{hit_of}
use Rattle.jwalk_memory_fs.specs.Branch.{Branch, child_named, children_at, parent_at, child_of, at_end, empty_branch, tree_of_table, IsSound, IsWithin}
use Rattle.jwalk_memory_fs.proofs.PlaceLemmas.{by_last, above-append}

and_then-Some : {X : Type 0} (o : Option X) → option_and_then (λ x. Some x) o ≡ o
and_then-Some None = refl
and_then-Some (Some x) = refl

-- one more name
pub at_end-append : (table : List Branch) (child : Child) (names : Place) (name : List ℕ)
    → at_end table child (names ++ name ∷ []) ≡ option_and_then (λ found. child_of table found name) (at_end table child names)
at_end-append table child [] name = and_then-Some (child_of table child name)
at_end-append table child (m ∷ ms) name =
    elim (child_of table child m) as (λ o. option_and_then (λ next. at_end table next (ms ++ name ∷ [])) o ≡ option_and_then (λ found. child_of table found name) (option_and_then (λ next. at_end table next ms) o))
    [ None ↦ refl | Some next ↦ at_end-append table next ms name ]

-- a name is found in the directory before it
pub record IsLastStep (table : List Branch) (front : Place) (name : List ℕ) (child : Child) : Type 0 where
  pub holder : ℕ
  pub before : at_end table (Dir 0) front ≡ Some (Dir holder)
  pub step : child_named (children_at table holder) name ≡ Some child

pub last_step : (table : List Branch) (front : Place) (name : List ℕ) (child : Child) → at_end table (Dir 0) (front ++ name ∷ []) ≡ Some child → IsLastStep table front name child
last_step table front name child found = by (at_end table (Dir 0) front) refl (sym (at_end-append table (Dir 0) front name) ∙ found)
  where
    by : (o : Option Child) → at_end table (Dir 0) front ≡ o → option_and_then (λ x. child_of table x name) (at_end table (Dir 0) front) ≡ Some child → IsLastStep table front name child
    by None e h = let h' : None ≡ Some child = sym (ap (option_and_then (λ x. child_of table x name)) e) ∙ h in cc
    by (Some (Dir i)) e h = record { holder = i; before = e; step = sym (ap (option_and_then (λ x. child_of table x name)) e) ∙ h }
    by (Some (File len)) e h = let h' : None ≡ Some child = sym (ap (option_and_then (λ x. child_of table x name)) e) ∙ h in cc
    by (Some (Link target)) e h = let h' : None ≡ Some child = sym (ap (option_and_then (λ x. child_of table x name)) e) ∙ h in cc

pub same_dir : (i j : ℕ) → Some (Dir i) ≡ Some (Dir j) → i ≡ j
same_dir i j e = cc

module _ (table : List Branch) (sound : IsSound table) where
  -- the directory that holds one is its parent
  pub at_above : (place : Place) (i : ℕ) → at_end table (Dir 0) place ≡ Some (Dir i) → at_end table (Dir 0) (above place) ≡ Some (Dir (parent_at table i))
  at_above = by_last (λ place. (i : ℕ) → at_end table (Dir 0) place ≡ Some (Dir i) → at_end table (Dir 0) (above place) ≡ Some (Dir (parent_at table i)))
      (λ i e. ap (λ k. Some (Dir k)) (sym sound.own_parent ∙ ap (parent_at table) (same_dir 0 i e)))
      (λ front name hyp i e.
      let s = last_step table front name (Dir i) e in
      ap (at_end table (Dir 0)) (above-append front name) ∙ s.before ∙ ap (λ k. Some (Dir k)) (sym (sound.held s.holder name i s.step).parent))

  -- a directory has one place
  pub one_place : (place other : Place) (i : ℕ) → at_end table (Dir 0) place ≡ Some (Dir i) → at_end table (Dir 0) other ≡ Some (Dir i) → other ≡ place
  one_place = by_last (λ place. (other : Place) (i : ℕ) → at_end table (Dir 0) place ≡ Some (Dir i) → at_end table (Dir 0) other ≡ Some (Dir i) → other ≡ place)
      (by_last (λ other. (i : ℕ) → at_end table (Dir 0) [] ≡ Some (Dir i) → at_end table (Dir 0) other ≡ Some (Dir i) → other ≡ []) (λ i e h. refl)
      (λ front name hyp i e h. let s = last_step table front name (Dir i) h in let r = (sound.held s.holder name i s.step).below_root in let z = same_dir 0 i e in absurd (omega arith)))
      (λ front name hyp. by_last (λ other. (i : ℕ) → at_end table (Dir 0) (front ++ name ∷ []) ≡ Some (Dir i) → at_end table (Dir 0) other ≡ Some (Dir i) → other ≡ front ++ name ∷ [])
      (λ i e h. let s = last_step table front name (Dir i) e in let r = (sound.held s.holder name i s.step).below_root in let z = same_dir 0 i h in absurd (omega arith))
      (λ front' name' hyp' i e h.
      let s = last_step table front name (Dir i) e in
      let s' = last_step table front' name' (Dir i) h in
      let held = sound.held s.holder name i s.step in
      let held' = sound.held s'.holder name' i s'.step in
      let holders : s'.holder ≡ s.holder = sym held'.parent ∙ held.parent in
      let fronts : front' ≡ front = hyp front' s.holder s.before (s'.before ∙ ap (λ k. Some (Dir k)) holders) in
      let names : name' ≡ name = held.only_name name' (ap (λ k. child_named (children_at table k) name') (sym holders) ∙ s'.step) in
      ap (λ (p : Place). p ++ name' ∷ []) fronts ∙ ap (λ (n : List ℕ). front ++ n ∷ []) names))

-- ---- the root alone
pub sound-root : IsSound (empty_branch 0 ∷ [])
sound-root = record { rooted = omega arith; own_parent = refl; parents = parents_root; held = λ holder name index e. absurd (none_held holder name index e) }
  where
    parents_root : (index : ℕ) → index < length (empty_branch 0 ∷ []) → parent_at (empty_branch 0 ∷ []) index < length (empty_branch 0 ∷ [])
    parents_root zero h = omega arith
    parents_root (suc k) h = omega arith

    none_held : (holder : ℕ) (name : List ℕ) (index : ℕ) → child_named (children_at (empty_branch 0 ∷ []) holder) name ≡ Some (Dir index) → ⊥
    none_held zero name index e = cc
    none_held (suc k) name index e = cc

pub tree-root : (place : Place) → tree_of_table (empty_branch 0 ∷ []) place ≡ only_root place
tree-root [] = refl
tree-root (n ∷ ns) = refl

-- ---- what is found is within the table
pub within_directory : (table : List Branch) → IsSound table → (holder : ℕ) (name : List ℕ) (index : ℕ) → child_named (children_at table holder) name ≡ Some (Dir index) → index < length table
within_directory table sound holder name index is = (sound.held holder name index is).within

pub within_hit : (table : List Branch) → IsSound table → (holder : ℕ) → holder < length table → (name : List ℕ) (child : Child) → child_named (children_at table holder) name ≡ Some child → IsWithin table (hit_of holder child)
within_hit table sound holder lt name (Dir index) is = (sound.held holder name index is).within
within_hit table sound holder lt name (File len) is = tt
within_hit table sound holder lt name (Link target) is = lt
