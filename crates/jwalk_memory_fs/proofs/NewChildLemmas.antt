-- The table with a new file, and with a new directory.
use Rattle.std.proofs.Common.{◌≡◌, ◌≢◌, ℕ, zero, suc, ◌+◌, ◌<◌, ◌≤◌, false, List, [], ◌∷◌, ◌++◌, length, is_some, Option, None, Some, refl, sym, ap, subst, ◌∙◌, arith}
use Rattle.std.specs.declared.io.ErrorKind.{ErrorKind}
use Rattle.std.proofs.lemmas.List.{length-append, get_or_past, nil_from_length}
use Rattle.jwalk_model.specs.Tree.{directory}
use Rattle.jwalk_memory_fs.specs.Child.{Child, Dir}
use Rattle.jwalk_memory_fs.specs.Branch.{Branch, child_named, branch_at, children_at, parent_at, denied_at, child_of, empty_branch, names_of, node_of, with_child, with_named, with_parent, with_parent_at, IsSound, IsLoose, IsEmptied}
use Rattle.jwalk_memory_fs.proofs.EditLemmas.{at_edited, at_other, length-edited, kept-edited}
use Rattle.jwalk_memory_fs.proofs.GrowthLemmas.{Grows, IsNewPlace, Extends}

module _ (table : List Branch) (holder : ℕ) (name : List ℕ) (child : Child) (lt : holder < length table) where
  parent-named : (index : ℕ) → parent_at (with_named table holder name child) index ≡ parent_at table index
  parent-named = kept-edited (with_child name child) table holder (λ (b : Branch). b.parent) (λ b. refl) lt

  denied-named : (index : ℕ) → denied_at (with_named table holder name child) index ≡ denied_at table index
  denied-named = kept-edited (with_child name child) table holder (λ (b : Branch). b.denied) (λ b. refl) lt

  children-named : children_at (with_named table holder name child) holder ≡ children_at table holder ++ (name, child) ∷ []
  children-named = ap (λ (b : Branch). b.children) (at_edited (with_child name child) table holder lt)

  children-other : (index : ℕ) → index ≢ holder → children_at (with_named table holder name child) index ≡ children_at table index
  children-other index ne = ap (λ (b : Branch). b.children) (at_other (with_child name child) table holder index ne)

  length-named : length (with_named table holder name child) ≡ length table
  length-named = length-edited (with_child name child) table holder

module _ (table : List Branch) (holder : ℕ) (name : List ℕ) (lt : holder < length table) (free : child_named (children_at table holder) name ≡ None) where
  -- ---- a file or a link
  pub grows-leaf : (child : Child) → ((other : List ℕ) → child_of (with_named table holder name child) child other ≡ None) → Grows table (with_named table holder name child) holder name child
  grows-leaf child leaf = record {
    free = free;
    here = children-named table holder name child lt;
    others = children-other table holder name child lt;
    denials = denied-named table holder name child lt;
    leaf = leaf;
  }

  pub extends-leaf : (child : Child) → ((index : ℕ) → child ≢ Dir index) → Extends table (with_named table holder name child) holder child
  extends-leaf child no_dir =
      let l = length-named table holder name child lt in
      record {
        within = lt;
        longer = omega arith;
        kept = λ index h ne. parent-named table holder name child lt index;
        added = λ index h h'. absurd (omega arith);
        new_dir = λ index e. absurd (no_dir index e);
      }

-- ---- an empty directory behind the others
module _ {X : Type 0} (part : Branch → X) (empty : (parent : ℕ) → part (empty_branch parent) ≡ part (empty_branch 0)) where
  -- what all empty directories have alike is seen past the end too
  pushed : (table : List Branch) (parent index : ℕ) → part (branch_at (table ++ empty_branch parent ∷ []) index) ≡ part (branch_at table index)
  pushed [] parent zero = empty parent
  pushed [] parent (suc k) = refl
  pushed (b ∷ bs) parent zero = refl
  pushed (b ∷ bs) parent (suc k) = pushed bs parent k

parent-pushed : (table : List Branch) (parent index : ℕ) → index < length table → parent_at (table ++ empty_branch parent ∷ []) index ≡ parent_at table index
parent-pushed [] parent index h = absurd (omega arith)
parent-pushed (b ∷ bs) parent zero h = refl
parent-pushed (b ∷ bs) parent (suc k) h = parent-pushed bs parent k (omega arith)

parent-last : (table : List Branch) (parent : ℕ) → parent_at (table ++ empty_branch parent ∷ []) (length table) ≡ parent
parent-last [] parent = refl
parent-last (b ∷ bs) parent = parent-last bs parent

module _ (table : List Branch) (holder : ℕ) (name : List ℕ) (lt : holder < length table) (free : child_named (children_at table holder) name ≡ None) where
  abbrev new_dir : Child
  new_dir = Dir (length table)

  abbrev pub with_directory : List Branch
  with_directory = with_named table holder name (Dir (length table)) ++ empty_branch holder ∷ []

  children_here : (index : ℕ) → children_at with_directory index ≡ children_at (with_named table holder name (Dir (length table))) index
  children_here = pushed (λ (b : Branch). b.children) (λ parent. refl) (with_named table holder name (Dir (length table))) holder

  denied_here : (index : ℕ) → denied_at with_directory index ≡ denied_at table index
  denied_here index = pushed (λ (b : Branch). b.denied) (λ parent. refl) (with_named table holder name (Dir (length table))) holder index ∙ denied-named table holder name (Dir (length table)) lt index

  past : branch_at table (length table) ≡ empty_branch 0
  past = get_or_past table (length table) (empty_branch 0) (omega arith)

  none_past : children_at with_directory (length table) ≡ []
  none_past =
      children_here (length table) ∙ children-other table holder name (Dir (length table)) lt (length table) (λ e. omega arith)
      ∙ ap (λ (b : Branch). b.children) past

  pub grows-directory : Grows table with_directory holder name (Dir (length table))
  grows-directory = record {
    free = free;
    here = children_here holder ∙ children-named table holder name (Dir (length table)) lt;
    others = λ index ne. children_here index ∙ children-other table holder name (Dir (length table)) lt index ne;
    denials = denied_here;
    leaf = λ other. ap (λ (es : List (List ℕ × Child)). child_named es other) none_past;
  }

  length-directory : length with_directory ≡ length table + 1
  length-directory = length-append (with_named table holder name (Dir (length table))) (empty_branch holder ∷ []) ∙ ap (λ n. n + 1) (length-named table holder name (Dir (length table)) lt)

  added_parent : (index : ℕ) → length table ≤ index → index < length with_directory → parent_at with_directory index ≡ holder
  added_parent index h h' =
      let l = length-directory in
      let e : index ≡ length (with_named table holder name (Dir (length table))) = let n = length-named table holder name (Dir (length table)) lt in omega arith in
      ap (parent_at with_directory) e ∙ parent-last (with_named table holder name (Dir (length table))) holder

  pub extends-directory : IsSound table → Extends table with_directory holder (Dir (length table))
  extends-directory sound =
      let l = length-directory in
      record {
        within = lt;
        longer = omega arith;
        kept = λ index h ne.
            parent-pushed (with_named table holder name (Dir (length table))) holder index (let n = length-named table holder name (Dir (length table)) lt in omega arith)
            ∙ parent-named table holder name (Dir (length table)) lt index;
        added = λ index h h'. ap (λ k. Dir k) (omega arith);
        new_dir = λ index e.
            let same : length table ≡ index = cc in
            record {
              below_root = omega arith;
              within = omega arith;
              parent = added_parent index (omega arith) (omega arith);
              unnamed = λ other n is. let w = (sound.held other n index is).within in omega arith;
            };
      }

  -- nothing is in it, and it may be read
  pub node-directory : node_of with_directory (Dir (length table)) ≡ directory [] None
  node-directory =
      ap (λ (es : List (List ℕ × Child)). directory (names_of es) (denied_at with_directory (length table))) none_past
      ∙ ap (λ (d : Option ErrorKind). directory [] d) (denied_here (length table) ∙ ap (λ (b : Branch). b.denied) past)

-- ---- an empty directory at a free place
none_from : {X : Type 0} (o : Option X) → is_some o ≡ false → o ≡ None
none_from None e = refl
none_from (Some x) e = cc

module _ (table : List Branch) (holder : ℕ) (name : List ℕ) (lt : holder < length table) (free : child_named (children_at table holder) name ≡ None)
    (place : ℕ) (loose : IsLoose table place) (empty : IsEmptied (branch_at table place)) (aside : place ≢ holder) where
  abbrev named : List Branch
  named = with_named table holder name (Dir place)

  abbrev pub with_reused : List Branch
  with_reused = with_parent_at named place holder

  length-reused-named : length named ≡ length table
  length-reused-named = length-named table holder name (Dir place) lt

  within_named : place < length named
  within_named = let l = length-reused-named in let w = loose.within in omega arith

  children_reused : (index : ℕ) → children_at with_reused index ≡ children_at named index
  children_reused = kept-edited (with_parent holder) named place (λ (b : Branch). b.children) (λ b. refl) within_named

  denied_reused : (index : ℕ) → denied_at with_reused index ≡ denied_at table index
  denied_reused index = kept-edited (with_parent holder) named place (λ (b : Branch). b.denied) (λ b. refl) within_named index ∙ denied-named table holder name (Dir place) lt index

  none_reused : children_at with_reused place ≡ []
  none_reused = children_reused place ∙ children-other table holder name (Dir place) lt place aside ∙ nil_from_length (children_at table place) empty.0

  pub grows-reused : Grows table with_reused holder name (Dir place)
  grows-reused = record {
    free = free;
    here = children_reused holder ∙ children-named table holder name (Dir place) lt;
    others = λ index ne. children_reused index ∙ children-other table holder name (Dir place) lt index ne;
    denials = denied_reused;
    leaf = λ other. ap (λ (es : List (List ℕ × Child)). child_named es other) none_reused;
  }

  pub length-reused : length with_reused ≡ length table
  length-reused = length-edited (with_parent holder) named place ∙ length-reused-named

  new_place : IsNewPlace table with_reused holder place
  new_place = record {
    below_root = loose.below_root;
    within = let l = length-reused in let w = loose.within in omega arith;
    parent = ap (λ (b : Branch). b.parent) (at_edited (with_parent holder) named place within_named);
    unnamed = loose.unnamed;
  }

  pub extends-reused : Extends table with_reused holder (Dir place)
  extends-reused = record {
    within = lt;
    longer = let l = length-reused in omega arith;
    kept = λ index h ne.
        ap (λ (b : Branch). b.parent) (at_other (with_parent holder) named place index (λ e. ne (ap (λ k. Dir k) (sym e))))
        ∙ parent-named table holder name (Dir place) lt index;
    added = λ index h h'. let l = length-reused in absurd (omega arith);
    new_dir = λ index e. let same : place ≡ index = cc in subst (IsNewPlace table with_reused holder) same new_place;
  }

  -- nothing is in it, and it may be read
  pub node-reused : node_of with_reused (Dir place) ≡ directory [] None
  node-reused =
      ap (λ (es : List (List ℕ × Child)). directory (names_of es) (denied_at with_reused place)) none_reused
      ∙ ap (λ (d : Option ErrorKind). directory [] d) (denied_reused place ∙ none_from (denied_at table place) empty.1)
