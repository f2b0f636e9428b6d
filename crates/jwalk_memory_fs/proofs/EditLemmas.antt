-- A table in which one directory is edited, and what the edits of its vector are to its branches.
use Rattle.std.proofs.Common.{◌≡◌, ◌≢◌, ℕ, suc, ◌-◌, ◌<◌, List, ◌∷◌, map, length, get_or, sym, ap, ◌∙◌, ◌⊎◌, inl, inr, arith}
use Rattle.std.specs.Prelude.{slice_set}
use Rattle.std.proofs.lemmas.Bool.{cases_eq}
use Rattle.std.proofs.lemmas.List.{get_or-map, get_or-set_same, get_or-set_other, length-map, length-set, map-set}
use Rattle.std.proofs.Math.Seq.{map-set_same}
use Rattle.jwalk_memory_fs.specs.declared.directory.Directory.{Directory}
use Rattle.jwalk_memory_fs.specs.Child.{Child}
use Rattle.jwalk_memory_fs.specs.Branch.{Branch, branch_at, empty_branch, with_child, with_named}
use Rattle.jwalk_memory_fs.specs.Directory.{branch}

-- the table in which the directory at an index is edited
abbrev pub edited : (Branch → Branch) → List Branch → ℕ → List Branch
edited edit table index = slice_set table index (edit (branch_at table index))

module _ (edit : Branch → Branch) (table : List Branch) (index : ℕ) where
  pub at_edited : index < length table → branch_at (edited edit table index) index ≡ edit (branch_at table index)
  at_edited lt = get_or-set_same table index (edit (branch_at table index)) (empty_branch 0) lt

  pub at_other : (other : ℕ) → other ≢ index → branch_at (edited edit table index) other ≡ branch_at table other
  at_other other ne = get_or-set_other table index other (edit (branch_at table index)) (empty_branch 0) ne

  pub length-edited : length (edited edit table index) ≡ length table
  length-edited = length-set table index (edit (branch_at table index))

  -- what the edit keeps of a directory stays everywhere
  pub kept-edited : {X : Type 0} (part : Branch → X) → ((b : Branch) → part (edit b) ≡ part b) → index < length table → (other : ℕ) → part (branch_at (edited edit table index) other) ≡ part (branch_at table other)
  kept-edited part keeps lt other = by (cases_eq other index)
    where
      by : (other ≡ index) ⊎ (other ≢ index) → part (branch_at (edited edit table index) other) ≡ part (branch_at table other)
      by (inl e) = ap (λ k. part (branch_at (edited edit table index) k)) e ∙ ap part (at_edited lt) ∙ keeps (branch_at table index) ∙ ap (λ k. part (branch_at table k)) (sym e)
      by (inr ne) = ap part (at_other other ne)

module _ {A : Type 0} (root : Branch) (items : List (Directory A)) where
  suc_edited : (edit : Branch → Branch) (i : ℕ) (new old : Directory A) → i < length items → old ≡ get_or items i old → branch new ≡ edit (branch old)
      → root ∷ map branch (slice_set items i new) ≡ edited edit (root ∷ map branch items) (suc i)
  suc_edited edit i new old lt stood is =
      ap (λ (bs : List Branch). root ∷ bs) (map-set branch items i new)
      ∙ ap (λ (b : Branch). root ∷ slice_set (map branch items) i b)
      (is ∙ ap (λ (d : Directory A). edit (branch d)) stood ∙ ap edit (sym (get_or-map branch items i old (empty_branch 0) lt)))

  -- a directory behind the root is edited
  pub edited-set : (edit : Branch → Branch) (index : ℕ) (new old : Directory A) → index ≢ 0 → index < length (root ∷ map branch items) → old ≡ get_or items (index - 1) old → branch new ≡ edit (branch old)
      → root ∷ map branch (slice_set items (index - 1) new) ≡ edited edit (root ∷ map branch items) index
  edited-set edit index new old ne lt stood is =
      let e : suc (index - 1) ≡ index = omega arith in
      let l : length (map branch items) ≡ length items = length-map items branch in
      suc_edited edit (index - 1) new old (omega arith) stood is ∙ ap (λ k. edited edit (root ∷ map branch items) k) e

  suc_there : (i : ℕ) (old : Directory A) → i < length items → old ≡ get_or items i old → branch_at (root ∷ map branch items) (suc i) ≡ branch old
  suc_there i old lt stood = get_or-map branch items i old (empty_branch 0) lt ∙ ap branch (sym stood)

  -- where a directory behind the root is
  pub branch_there : (index : ℕ) (old : Directory A) → index ≢ 0 → index < length (root ∷ map branch items) → old ≡ get_or items (index - 1) old → branch_at (root ∷ map branch items) index ≡ branch old
  branch_there index old ne lt stood =
      let e : suc (index - 1) ≡ index = omega arith in
      let l : length (map branch items) ≡ length items = length-map items branch in
      ap (λ k. branch_at (root ∷ map branch items) k) (sym e) ∙ suc_there (index - 1) old (omega arith) stood

  -- a directory that is seen as it was
  pub same-set : (i : ℕ) (new old : Directory A) → old ≡ get_or items i old → branch new ≡ branch old → root ∷ map branch (slice_set items i new) ≡ root ∷ map branch items
  same-set i new old stood is = ap (λ (bs : List Branch). root ∷ bs) (map-set_same branch items i new old (is ∙ ap branch stood))

-- a directory that gets a child leaves as many directories as before
pub length-others : {A : Type 0} (root first : Branch) (new old : List (Directory A)) (holder : ℕ) (name : List ℕ) (child : Child) → root ∷ map branch new ≡ with_named (first ∷ map branch old) holder name child → length new ≡ length old
length-others root first new old holder name child is =
    let all : length (root ∷ map branch new) ≡ length (with_named (first ∷ map branch old) holder name child) = ap (λ (bs : List Branch). length bs) is in
    let kept : length (with_named (first ∷ map branch old) holder name child) ≡ length (first ∷ map branch old) = length-edited (with_child name child) (first ∷ map branch old) holder in
    let here : length (map branch new) ≡ length new = length-map new branch in
    let there : length (map branch old) ≡ length old = length-map old branch in
    omega arith
