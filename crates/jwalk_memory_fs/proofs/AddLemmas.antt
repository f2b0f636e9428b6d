-- What is added to the table is added to the tree.
use Rattle.std.proofs.Common.{◌≡◌, ◌≢◌, ℕ, ◌-◌, ◌<◌, ◌≤◌, List, [], ◌∷◌, ◌++◌, length, take, slice_index_or, Option, None, Some, Result, Ok, Err, refl, sym, ap, subst, ◌∙◌, ◌⊎◌, inl, inr, arith}
use Rattle.std.specs.declared.alloc.AllocError.{AllocError}
use Rattle.std.proofs.lemmas.List.{length-take-le, get_or-take}
use Rattle.std.proofs.lemmas.Option.{slice_get_cases, get_or_from_slice_get}
use Rattle.std.specs.Prelude.{MatchOption, slice_get, ◌↔◌, OnOk, OnErr, is_some, option_and_then, if◌then◌else◌}
use Rattle.std.specs.Option.{option_map}
use Rattle.jwalk_model.specs.Paths.{components}
use Rattle.jwalk_model.specs.Tree.{Place, Tree, Node, directory, Refusal, not_found, already_exists, Spot, spot_of, place_of, with_child as with_node, add_at, add}
use Rattle.jwalk_memory_fs.specs.Child.{Child, Dir}
use Rattle.jwalk_memory_fs.specs.declared.build_error.BuildError.{BuildError}
use Rattle.jwalk_memory_fs.specs.declared.build_error.BuildError.TheVariants.{NotFound, AlreadyExists, Memory}
use Rattle.jwalk_memory_fs.specs.Branch.{Branch, child_named, children_at, child_of, at_end, node_of, tree_of_table, if_free, named_spot, free_spot, branch_at, empty_branch, with_named, with_parent_at, IsSound, IsLoose, IsEmptied, AreSpare, IsDirectoryAdded}
use Rattle.jwalk_memory_fs.specs.MemoryFs.{IsBuilt, IsAddition}
use Rattle.jwalk_memory_fs.proofs.TableLemmas.{at_end-append}
use Rattle.jwalk_memory_fs.proofs.SpareLemmas.{not_loose, spare-taken}
use Rattle.jwalk_memory_fs.proofs.GrowthLemmas.{Grows, tree-grown, sound-grown, spare-grown}
use Rattle.jwalk_memory_fs.proofs.NewChildLemmas.{grows-leaf, extends-leaf, grows-directory, extends-directory, with_directory, node-directory, grows-reused, extends-reused, with_reused, node-reused}
use Rattle.jwalk_memory_fs.proofs.SpotLemmas.{SpotsAgree, spots_agree}

-- the spot of the tree is the one of the table
pub record IsSpot (table : List Branch) (answer : Result Tree Refusal) (node : Node) (holder : ℕ) (name : List ℕ) : Type 0 where
  pub place : Place
  pub stands : at_end table (Dir 0) place ≡ Some (Dir holder)
  pub free : child_named (children_at table holder) name ≡ None
  pub answer_is : answer ≡ Ok (with_node node (record { holder = place; name = name }) (tree_of_table table))

-- Both fail alike, or both found the same spot.
abbrev pub AddsAlike : List Branch → Result Tree Refusal → Node → Result (ℕ × List ℕ) BuildError → Type 0
AddsAlike table answer node (Ok spot) = IsSpot table answer node spot.0 spot.1
AddsAlike table answer node (Err NotFound) = answer ≡ Err not_found
AddsAlike table answer node (Err AlreadyExists) = answer ≡ Err already_exists
AddsAlike table answer node (Err Memory) = ⊥

module _ (table : List Branch) (node : Node) where
  in_directory : (s : Spot) (holder : ℕ) → at_end table (Dir 0) s.holder ≡ Some (Dir holder)
      → (o : Option Child) → at_end table (Dir 0) (place_of s) ≡ o → child_named (children_at table holder) s.name ≡ o
      → AddsAlike table (add_at (tree_of_table table) node (Some s)) node (if is_some o then Err AlreadyExists else Ok (holder, s.name))
  in_directory s holder stands None q named = record {
    place = s.holder;
    stands = stands;
    free = named;
    answer_is = ap (λ (o : Option Child). if is_some (option_map (node_of table) o) then Err already_exists else Ok (with_node node s (tree_of_table table))) q;
  }
  in_directory s holder stands (Some x) q named =
      ap (λ (o : Option Child). if is_some (option_map (node_of table) o) then Err already_exists else Ok (with_node node s (tree_of_table table))) q

  alike : (s : Option Spot) (t : Option (ℕ × List ℕ)) → SpotsAgree table s t → AddsAlike table (add_at (tree_of_table table) node s) node (if_free table t)
  alike None None agree = refl
  alike None (Some t) agree = absurd agree
  alike (Some s) None agree = absurd agree
  alike (Some s) (Some t) agree =
      subst (λ (name : List ℕ). AddsAlike table (add_at (tree_of_table table) node (Some s)) node (if_free table (Some (t.0, name)))) agree.1
      (in_directory s t.0 agree.0 (child_named (children_at table t.0) s.name) (at_end-append table (Dir 0) s.holder s.name ∙ ap (option_and_then (λ x. child_of table x s.name)) agree.0) refl)

  pub add_alike : IsSound table → (path : List ℕ) → AddsAlike table (add node path (tree_of_table table)) node (free_spot table (components path))
  add_alike sound path = alike (spot_of (tree_of_table table) path) (named_spot table (components path)) (spots_agree table sound path)

-- where the new table has the child, the tree has the node
pub built-grown : (table : List Branch) → IsSound table → (holder : ℕ) (name : List ℕ) (answer : Result Tree Refusal) (node : Node) → IsSpot table answer node holder name
    → (child : Child) (new more : List Branch) → new ≡ more → Grows table more holder name child → node_of more child ≡ node → IsBuilt answer (tree_of_table new)
built-grown table sound holder name answer node spot child new more is grows of =
    subst (λ (t : List Branch). IsBuilt answer (tree_of_table t)) (sym is)
    (subst (λ (a : Result Tree Refusal). IsBuilt a (tree_of_table more)) (sym spot.answer_is) (tree-grown table more holder name child grows sound spot.place spot.stands node of))

-- ---- failures
-- what a failure says of the tree, and that no other one does
pub record IsToldApart (answer : Result Tree Refusal) (result : Result (Unit {0}) BuildError) : Type 0 where
  pub not_found : (result ≡ Err NotFound) ↔ (answer ≡ Err not_found)
  pub already_exists : (result ≡ Err AlreadyExists) ↔ (answer ≡ Err already_exists)

pub told-refusal : (table : List Branch) (answer : Result Tree Refusal) (node : Node) (e : BuildError) → AddsAlike table answer node (Err e) → IsToldApart answer (Err e)
told-refusal table answer node NotFound is = record {
  not_found = (λ h. is, λ h. refl);
  already_exists = (λ h. cc, λ h. let z : ◌≡◌ {A = Result Tree Refusal} (Err not_found) (Err already_exists) = sym is ∙ h in cc);
}
told-refusal table answer node AlreadyExists is = record {
  not_found = (λ h. cc, λ h. let z : ◌≡◌ {A = Result Tree Refusal} (Err already_exists) (Err not_found) = sym is ∙ h in cc);
  already_exists = (λ h. is, λ h. refl);
}
told-refusal table answer node Memory is = absurd is

told-other : (answer : Result Tree Refusal) (tree : Tree) (result : Result (Unit {0}) BuildError) → (result ≡ Err NotFound → ⊥) → (result ≡ Err AlreadyExists → ⊥) → answer ≡ Ok tree → IsToldApart answer result
told-other answer tree result n a is = record {
  not_found = (λ h. absurd (n h), λ h. let z : ◌≡◌ {A = Result Tree Refusal} (Ok tree) (Err not_found) = sym is ∙ h in cc);
  already_exists = (λ h. absurd (a h), λ h. let z : ◌≡◌ {A = Result Tree Refusal} (Ok tree) (Err already_exists) = sym is ∙ h in cc);
}

pub told-memory : (table : List Branch) (answer : Result Tree Refusal) (node : Node) (holder : ℕ) (name : List ℕ) → IsSpot table answer node holder name → IsToldApart answer (Err Memory)
told-memory table answer node holder name spot = told-other answer _ (Err Memory) (λ h. cc) (λ h. cc) spot.answer_is

pub told-ok : (table : List Branch) (answer : Result Tree Refusal) (node : Node) (holder : ℕ) (name : List ℕ) → IsSpot table answer node holder name → IsToldApart answer (Ok tt)
told-ok table answer node holder name spot = told-other answer _ (Ok tt) (λ h. cc) (λ h. cc) spot.answer_is

module _ (table : List Branch) (sound : IsSound table) (node : Node) (path : List ℕ) where
  pub found-spot : (holder : ℕ) (name : List ℕ) → free_spot table (components path) ≡ Ok (holder, name) → IsSpot table (add node path (tree_of_table table)) node holder name
  found-spot holder name is = subst (AddsAlike table (add node path (tree_of_table table)) node) is (add_alike table node sound path)

  -- where there is no such spot
  pub refused-spot : (e : BuildError) (result : Result (Unit {0}) BuildError) → free_spot table (components path) ≡ Err e → result ≡ Err e → IsAddition node path (tree_of_table table) result (tree_of_table table)
  refused-spot e result is was =
      let told = told-refusal table (add node path (tree_of_table table)) node e (subst (AddsAlike table (add node path (tree_of_table table)) node) is (add_alike table node sound path)) in
      subst (λ (r : Result (Unit {0}) BuildError). IsAddition node path (tree_of_table table) r (tree_of_table table)) (sym was)
      (record { added = tt; not_found = told.not_found; already_exists = told.already_exists; err = λ place. refl })

  module _ (holder : ℕ) (name : List ℕ) (is : free_spot table (components path) ≡ Ok (holder, name)) where
    -- where memory ran out
    pub refused-memory : (result : Result (Unit {0}) BuildError) (new : List Branch) → result ≡ Err Memory → new ≡ table → IsAddition node path (tree_of_table table) result (tree_of_table new)
    refused-memory result new was same =
        let told = told-memory table (add node path (tree_of_table table)) node holder name (found-spot holder name is) in
        subst (λ (r : Result (Unit {0}) BuildError). IsAddition node path (tree_of_table table) r (tree_of_table new)) (sym was)
        (record { added = tt; not_found = told.not_found; already_exists = told.already_exists; err = λ place. ap (λ (t : List Branch). tree_of_table t place) same })

    pub was-added : (new : List Branch) → IsBuilt (add node path (tree_of_table table)) (tree_of_table new) → IsAddition node path (tree_of_table table) (Ok tt) (tree_of_table new)
    was-added new built =
        let told = told-ok table (add node path (tree_of_table table)) node holder name (found-spot holder name is) in
        record { added = built; not_found = told.not_found; already_exists = told.already_exists; err = tt }

-- ---- what is always so
-- the table is sound, and its free places are empty
abbrev pub Holds : List Branch → List ℕ → Type 0
Holds table free = IsSound table × AreSpare table free (length free)

-- whether the child was added or not
pub holds-either : (r : Result (Unit {0}) AllocError) (old more new : List Branch) (free left : List ℕ) → OnOk r (new ≡ more) → OnErr r (new ≡ old) → left ≡ free → Holds old free → Holds more free → Holds new left
holds-either (Ok u) old more new free left ok err kept before after = subst (Holds new) (sym kept) (subst (λ (t : List Branch). Holds t free) (sym ok) after)
holds-either (Err e) old more new free left ok err kept before after = subst (Holds new) (sym kept) (subst (λ (t : List Branch). Holds t free) (sym err) before)

module _ (table : List Branch) (free : List ℕ) (holds : Holds table free) (holder : ℕ) (name : List ℕ) (lt : holder < length table)
    (answer : Result Tree Refusal) (node : Node) (spot : IsSpot table answer node holder name) where
  -- a name leads to the holder, so it isn't free
  aside : (k : ℕ) → k < length free → slice_index_or free k 0 ≢ holder
  aside k h e = not_loose table spot.place holder spot.stands (subst (IsLoose table) e (holds.1.loose k h))

  pub holds-leaf : (child : Child) → ((other : List ℕ) → child_of (with_named table holder name child) child other ≡ None) → ((index : ℕ) → child ≢ Dir index) → Holds (with_named table holder name child) free
  holds-leaf child leaf no_dir =
      let grows = grows-leaf table holder name lt spot.free child leaf in
      let more = extends-leaf table holder name lt spot.free child no_dir in (
        sound-grown table (with_named table holder name child) holder name child grows holds.0 more,
        spare-grown table (with_named table holder name child) holder name child grows free (length free) (omega arith) more.longer holds.1 (λ k h. no_dir (slice_index_or free k 0)) aside,
      )

  -- a new directory behind the others
  holds-behind : Holds (with_directory table holder name lt spot.free) free
  holds-behind =
      let grows = grows-directory table holder name lt spot.free in
      let more = extends-directory table holder name lt spot.free holds.0 in (
        sound-grown table (with_directory table holder name lt spot.free) holder name (Dir (length table)) grows holds.0 more,
        spare-grown table (with_directory table holder name lt spot.free) holder name (Dir (length table)) grows free (length free) (omega arith) more.longer holds.1
            (λ k h e. let same : length table ≡ slice_index_or free k 0 = cc in let w = (holds.1.loose k h).within in omega arith) aside,
      )

  -- a new directory at the last free place
  module _ (some : 0 < length free) where
    abbrev place : ℕ
    place = slice_index_or free (length free - 1) 0

    loose_place : IsLoose table place
    loose_place = holds.1.loose (length free - 1) (omega arith)

    empty_place : IsEmptied (branch_at table place)
    empty_place = holds.1.emptied (length free - 1) (omega arith)

    abbrev reused : List Branch
    reused = with_reused table holder name lt spot.free place loose_place empty_place (aside (length free - 1) (omega arith))

    holds-reused : Holds reused (take (length free - 1) free)
    holds-reused =
        let grows = grows-reused table holder name lt spot.free place loose_place empty_place (aside (length free - 1) (omega arith)) in
        let more = extends-reused table holder name lt spot.free place loose_place empty_place (aside (length free - 1) (omega arith)) in
        let fewer : length (take (length free - 1) free) ≡ length free - 1 = length-take-le (length free - 1) free (omega arith) in (
          sound-grown table reused holder name (Dir place) grows holds.0 more,
          spare-grown table reused holder name (Dir place) grows (take (length free - 1) free) (length (take (length free - 1) free)) (omega arith) more.longer
              (spare-taken table free (length free) (length free - 1) holds.1 (omega arith) (omega arith))
              (λ k h e. let same : place ≡ slice_index_or (take (length free - 1) free) k 0 = cc in holds.1.apart k (length free - 1) (omega arith) (omega arith) (sym (same ∙ get_or-take (length free - 1) free k 0 (omega arith))))
              (λ k h e. aside k (omega arith) (sym (get_or-take (length free - 1) free k 0 (omega arith)) ∙ e)),
        )

abbrev AddedBy : List Branch → List ℕ → ℕ → List ℕ → List Branch → List ℕ → Option ℕ → Type 0
AddedBy table free holder name new left o =
    MatchOption o ((new ≡ with_named table holder name (Dir (length table)) ++ empty_branch holder ∷ []) × (left ≡ free))
    (λ place. (new ≡ with_parent_at (with_named table holder name (Dir place)) place holder) × (left ≡ take (length free - 1) free))

-- what is added is added to the tree, and all stays as it must be
module _ (table : List Branch) (free : List ℕ) (holds : Holds table free) (holder : ℕ) (name : List ℕ) (lt : holder < length table)
    (answer : Result Tree Refusal) (spot : IsSpot table answer (directory [] None) holder name) (new : List Branch) (left : List ℕ) where
  pub directory-added : IsDirectoryAdded table free holder name new left → Holds new left × IsBuilt answer (tree_of_table new)
  directory-added is = by (slice_get_cases free (length free - 1)).1
    where
      by : ((x : ℕ) × (length free - 1 < length free) × (slice_get free (length free - 1) ≡ Some x) × (slice_index_or free (length free - 1) x ≡ x)) ⊎ ((length free ≤ length free - 1) × (slice_get free (length free - 1) ≡ None))
          → Holds new left × IsBuilt answer (tree_of_table new)
      by (inl found) =
          let some : 0 < length free = let h = found.1 in omega arith in
          let at : slice_index_or free (length free - 1) 0 ≡ found.0 = get_or_from_slice_get free (length free - 1) found.0 0 found.2 in
          let last = slice_index_or free (length free - 1) 0 in
          let loose = holds.1.loose (length free - 1) (omega arith) in
          let empty = holds.1.emptied (length free - 1) (omega arith) in
          let apart = aside table free holds holder name lt answer (directory [] None) spot (length free - 1) (omega arith) in
          let both = subst (λ o. AddedBy table free holder name new left o) (found.2 ∙ ap (λ k. Some k) (sym at)) is in (
            subst (Holds new) (sym both.1) (subst (λ (t : List Branch). Holds t (take (length free - 1) free)) (sym both.0) (holds-reused table free holds holder name lt answer (directory [] None) spot some)),
            built-grown table holds.0 holder name answer (directory [] None) spot (Dir last) new (with_reused table holder name lt spot.free last loose empty apart) both.0
                (grows-reused table holder name lt spot.free last loose empty apart) (node-reused table holder name lt spot.free last loose empty apart),
          )
      by (inr past) =
          let both = subst (λ o. AddedBy table free holder name new left o) past.1 is in (
            subst (Holds new) (sym both.1) (subst (λ (t : List Branch). Holds t free) (sym both.0) (holds-behind table free holds holder name lt answer (directory [] None) spot)),
            built-grown table holds.0 holder name answer (directory [] None) spot (Dir (length table)) new (with_directory table holder name lt spot.free) both.0
                (grows-directory table holder name lt spot.free) (node-directory table holder name lt spot.free),
          )

-- whether the directory was added or not
pub directory-either : (r : Result (Unit {0}) AllocError) (table : List Branch) (free : List ℕ) → Holds table free → (holder : ℕ) (name : List ℕ) → holder < length table
    → (answer : Result Tree Refusal) → IsSpot table answer (directory [] None) holder name → (new : List Branch) (left : List ℕ)
    → OnOk r (IsDirectoryAdded table free holder name new left) → OnErr r (new ≡ table) → OnErr r (left ≡ free) → Holds new left
directory-either (Ok u) table free holds holder name lt answer spot new left ok err kept = (directory-added table free holds holder name lt answer spot new left ok).0
directory-either (Err e) table free holds holder name lt answer spot new left ok err kept = subst (Holds new) (sym kept) (subst (λ (t : List Branch). Holds t free) (sym err) holds)
