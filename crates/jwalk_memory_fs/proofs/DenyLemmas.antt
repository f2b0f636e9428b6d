-- A directory that is denied in the table is denied in the tree.
use Rattle.std.proofs.Common.{◌≡◌, ◌≢◌, ℕ, ◌<◌, Bool, List, [], ◌∷◌, length, Option, None, Some, Result, Ok, Err, refl, sym, ap, subst, ◌∙◌, ◌⊎◌, inl, inr}
use Rattle.std.specs.Prelude.{◌↔◌, option_and_then, if◌then◌else◌}
use Rattle.std.specs.Option.{option_map}
use Rattle.std.specs.declared.io.ErrorKind.{ErrorKind}
use Rattle.jwalk_model.specs.Paths.{components}
use Rattle.jwalk_model.specs.Tree.{Place, Tree, Node, directory, same_place, Refusal, not_found, Spot, spot_of, place_of, with_denied as with_denied_node, deny_at, deny}
use Rattle.jwalk_memory_fs.specs.Child.{Child, Dir, File, Link}
use Rattle.jwalk_memory_fs.specs.declared.build_error.BuildError.{BuildError}
use Rattle.jwalk_memory_fs.specs.declared.build_error.BuildError.TheVariants.{NotFound}
use Rattle.jwalk_memory_fs.specs.Branch.{Branch, branch_at, child_named, children_at, parent_at, denied_at, child_of, at_end, names_of, node_of, tree_of_table, with_denied, with_denial, index_of_child, named_spot, directory_spot, IsHeld, IsSound, IsLoose, AreSpare}
use Rattle.jwalk_memory_fs.specs.MemoryFs.{IsBuilt}
use Rattle.jwalk_memory_fs.proofs.PlaceLemmas.{same_place-refl, same_place-false, place_cases}
use Rattle.jwalk_memory_fs.proofs.TableLemmas.{at_end-append, one_place}
use Rattle.jwalk_memory_fs.proofs.EditLemmas.{at_edited, at_other, length-edited, kept-edited}
use Rattle.jwalk_memory_fs.proofs.SpareLemmas.{not_loose, spare-put}
use Rattle.jwalk_memory_fs.proofs.SpotLemmas.{SpotsAgree, spots_agree}

-- ---- tables that differ only in what is denied
module _ (old new : List Branch) (children : (i : ℕ) → children_at new i ≡ children_at old i) where
  named_same : (i : ℕ) (name : List ℕ) → child_named (children_at new i) name ≡ child_named (children_at old i) name
  named_same i name = ap (λ (es : List (List ℕ × Child)). child_named es name) (children i)

  child_same : (c : Child) (name : List ℕ) → child_of new c name ≡ child_of old c name
  child_same (Dir i) name = named_same i name
  child_same (File len) name = refl
  child_same (Link target) name = refl

  -- the same is everywhere
  at_end-same : (c : Child) (names : Place) → at_end new c names ≡ at_end old c names
  at_end-same c [] = refl
  at_end-same c (name ∷ names) =
      ap (option_and_then (λ next. at_end new next names)) (child_same c name)
      ∙ elim (child_of old c name) as (λ o. option_and_then (λ next. at_end new next names) o ≡ option_and_then (λ next. at_end old next names) o)
      [ None ↦ refl | Some next ↦ at_end-same next names ]

  sound-same : length new ≡ length old → ((i : ℕ) → parent_at new i ≡ parent_at old i) → IsSound old → IsSound new
  sound-same lengths parents sound = record {
    rooted = subst (λ n. 0 < n) (sym lengths) sound.rooted;
    own_parent = parents 0 ∙ sound.own_parent;
    parents = λ i lt. subst (λ n. parent_at new i < n) (sym lengths) (subst (λ p. p < length old) (sym (parents i)) (sound.parents i (subst (λ n. i < n) lengths lt)));
    held = λ i name j e. held_same i name j (sound.held i name j (sym (named_same i name) ∙ e));
  }
    where
      held_same : (i : ℕ) (name : List ℕ) (j : ℕ) → IsHeld old i name j → IsHeld new i name j
      held_same i name j h = record {
        within = subst (λ n. j < n) (sym lengths) h.within;
        below_root = h.below_root;
        parent = parents j ∙ h.parent;
        only_name = λ other e. h.only_name other (sym (named_same i other) ∙ e);
      }

-- ---- one directory denied
module _ (table : List Branch) (index : ℕ) (k : ErrorKind) (lt : index < length table) where
  children-denied : (i : ℕ) → children_at (with_denial table index k) i ≡ children_at table i
  children-denied = kept-edited (with_denied k) table index (λ (b : Branch). b.children) (λ b. refl) lt

  parent-denied : (i : ℕ) → parent_at (with_denial table index k) i ≡ parent_at table i
  parent-denied = kept-edited (with_denied k) table index (λ (b : Branch). b.parent) (λ b. refl) lt

  pub sound-denied : IsSound table → IsSound (with_denial table index k)
  sound-denied = sound-same table (with_denial table index k) children-denied (length-edited (with_denied k) table index) parent-denied

  node-denied : node_of (with_denial table index k) (Dir index) ≡ directory (names_of (children_at table index)) (Some k)
  node-denied =
      ap (λ (es : List (List ℕ × Child)). directory (names_of es) (denied_at (with_denial table index k) index)) (children-denied index)
      ∙ ap (λ (b : Branch). directory (names_of (children_at table index)) b.denied) (at_edited (with_denied k) table index lt)

  node-other : (i : ℕ) → i ≢ index → node_of (with_denial table index k) (Dir i) ≡ node_of table (Dir i)
  node-other i ne = ap (λ (b : Branch). directory (names_of b.children) b.denied) (at_other (with_denied k) table index i ne)

  module _ (sound : IsSound table) (at : Place) (stands : at_end table (Dir 0) at ≡ Some (Dir index)) where
    elsewhere : (q : Place) → q ≢ at → (o : Option Child) → at_end table (Dir 0) q ≡ o → option_map (node_of (with_denial table index k)) o ≡ option_map (node_of table) o
    elsewhere q ne None e = refl
    elsewhere q ne (Some (File len)) e = refl
    elsewhere q ne (Some (Link target)) e = refl
    elsewhere q ne (Some (Dir i)) e =
        ap (λ (n : Node). Some n) (node-other i (λ h. ne (one_place table sound at q index stands (e ∙ ap (λ j. Some (Dir j)) h))))

    -- the directory is denied at its place, and all else is as it was
    pub tree-denied : (q : Place) → tree_of_table (with_denial table index k) q ≡ (if same_place q at then Some (directory (names_of (children_at table index)) (Some k)) else tree_of_table table q)
    tree-denied q = ap (option_map (node_of (with_denial table index k))) (at_end-same table (with_denial table index k) children-denied (Dir 0) q) ∙ by (place_cases q at)
      where
        by : (q ≡ at) ⊎ (q ≢ at)
            → option_map (node_of (with_denial table index k)) (at_end table (Dir 0) q) ≡ (if same_place q at then Some (directory (names_of (children_at table index)) (Some k)) else tree_of_table table q)
        by (inl e) =
            ap (option_map (node_of (with_denial table index k))) (ap (at_end table (Dir 0)) e ∙ stands) ∙ ap (λ (n : Node). Some n) node-denied
            ∙ sym (ap (λ (b : Bool). if b then Some (directory (names_of (children_at table index)) (Some k)) else tree_of_table table q) (ap (λ (p : Place). same_place p at) e ∙ same_place-refl at))
        by (inr ne) =
            elsewhere q ne (at_end table (Dir 0) q) refl
            ∙ sym (ap (λ (b : Bool). if b then Some (directory (names_of (children_at table index)) (Some k)) else tree_of_table table q) (same_place-false q at ne))

-- ---- what the definition returns
-- the tree with the directory of the table denied
pub record IsDenied (table : List Branch) (answer : Result Tree Refusal) (k : ErrorKind) (index : ℕ) : Type 0 where
  pub at : Place
  pub stands : at_end table (Dir 0) at ≡ Some (Dir index)
  pub answer_is : answer ≡ Ok (λ q. if same_place q at then Some (directory (names_of (children_at table index)) (Some k)) else tree_of_table table q)

-- Both fail, or both found the same directory.
abbrev pub DeniesAlike : List Branch → Result Tree Refusal → ErrorKind → Option ℕ → Type 0
DeniesAlike table answer k None = answer ≡ Err not_found
DeniesAlike table answer k (Some index) = IsDenied table answer k index

module _ (table : List Branch) (k : ErrorKind) where
  at_child : (s : Spot) (o : Option Child) → at_end table (Dir 0) (place_of s) ≡ o → DeniesAlike table (deny_at (tree_of_table table) k (Some s)) k (index_of_child o)
  at_child s None e = ap (λ (o : Option Child). with_denied_node k s (tree_of_table table) (option_map (node_of table) o)) e
  at_child s (Some (File len)) e = ap (λ (o : Option Child). with_denied_node k s (tree_of_table table) (option_map (node_of table) o)) e
  at_child s (Some (Link target)) e = ap (λ (o : Option Child). with_denied_node k s (tree_of_table table) (option_map (node_of table) o)) e
  at_child s (Some (Dir i)) e = record {
    at = place_of s;
    stands = e;
    answer_is = ap (λ (o : Option Child). with_denied_node k s (tree_of_table table) (option_map (node_of table) o)) e;
  }

  alike : (s : Option Spot) (t : Option (ℕ × List ℕ)) → SpotsAgree table s t
      → DeniesAlike table (deny_at (tree_of_table table) k s) k (option_and_then (λ found. index_of_child (child_named (children_at table found.0) found.1)) t)
  alike None None agree = refl
  alike None (Some t) agree = absurd agree
  alike (Some s) None agree = absurd agree
  alike (Some s) (Some t) agree =
      subst (λ (name : List ℕ). DeniesAlike table (deny_at (tree_of_table table) k (Some s)) k (index_of_child (child_named (children_at table t.0) name))) agree.1
      (at_child s (child_named (children_at table t.0) s.name) (at_end-append table (Dir 0) s.holder s.name ∙ ap (option_and_then (λ x. child_of table x s.name)) agree.0))

  deny_alike : IsSound table → (path : List ℕ) → DeniesAlike table (deny k path (tree_of_table table)) k (directory_spot table (components path))
  deny_alike sound path = alike (spot_of (tree_of_table table) path) (named_spot table (components path)) (spots_agree table sound path)

module _ (table : List Branch) (sound : IsSound table) (k : ErrorKind) (path : List ℕ) where
  -- where no directory was found
  pub refused : None ≡ directory_spot table (components path) → deny k path (tree_of_table table) ≡ Err not_found
  refused is = subst (DeniesAlike table (deny k path (tree_of_table table)) k) (sym is) (deny_alike table k sound path)

  -- where one was
  pub found-directory : (index : ℕ) → Some index ≡ directory_spot table (components path) → IsDenied table (deny k path (tree_of_table table)) k index
  found-directory index is = subst (DeniesAlike table (deny k path (tree_of_table table)) k) (sym is) (deny_alike table k sound path)

  pub built-denied : (index : ℕ) → Some index ≡ directory_spot table (components path) → index < length table → (new : List Branch) → new ≡ with_denial table index k
      → IsBuilt (deny k path (tree_of_table table)) (tree_of_table new)
  built-denied index is lt new same =
      let d = found-directory index is in
      subst (λ (t : List Branch). IsBuilt (deny k path (tree_of_table table)) (tree_of_table t)) (sym same)
      (subst (λ (a : Result Tree Refusal). IsBuilt a (tree_of_table (with_denial table index k))) (sym d.answer_is) (tree-denied table index k lt sound d.at d.stands))

  pub told-refused : None ≡ directory_spot table (components path) → (◌≡◌ {A = Result (Unit {0}) BuildError} (Err NotFound) (Err NotFound)) ↔ (deny k path (tree_of_table table) ≡ Err not_found)
  told-refused is = (λ h. refused is, λ h. refl)

  pub told-denied : (index : ℕ) → Some index ≡ directory_spot table (components path)
      → (◌≡◌ {A = Result (Unit {0}) BuildError} (Ok tt) (Err NotFound)) ↔ (deny k path (tree_of_table table) ≡ Err not_found)
  told-denied index is = (λ h. cc, λ h. let z : ◌≡◌ {A = Result Tree Refusal} (Ok _) (Err not_found) = sym (found-directory index is).answer_is ∙ h in cc)

-- the free places are as they were
pub spare-denied : (table : List Branch) (free : List ℕ) → IsSound table → AreSpare table free (length free) → (k : ErrorKind) (path : List ℕ) (index : ℕ) → Some index ≡ directory_spot table (components path) → index < length table
    → (new : List Branch) (left : List ℕ) → new ≡ with_denial table index k → left ≡ free → AreSpare new left (length left)
spare-denied table free sound spare k path index is lt new left same kept =
    let d = found-directory table sound k path index is in
    subst (λ (ks : List ℕ). AreSpare new ks (length ks)) (sym kept)
    (subst (λ (t : List Branch). AreSpare t free (length free)) (sym same)
    (spare-put table index (with_denied k (branch_at table index)) lt (λ n c e. e) free (length free) spare
    (λ i h e. not_loose table d.at index d.stands (subst (IsLoose table) e (spare.loose i h)))))
