-- What is done to a directory that no name refers to isn't seen in the tree.
use Rattle.std.proofs.Common.{◌≡◌, ◌≢◌, ℕ, zero, suc, ◌+◌, ◌-◌, ◌<◌, ◌≤◌, List, [], ◌∷◌, ◌++◌, length, take, slice_index_or, Option, None, Some, refl, sym, ap, subst, ◌∙◌, ◌⊎◌, inl, inr, arith}
use Rattle.std.specs.Prelude.{option_and_then, slice_set}
use Rattle.std.specs.Option.{option_map}
use Rattle.std.proofs.lemmas.Bool.{cases_eq, cases_lt}
use Rattle.std.proofs.lemmas.List.{get_or-set_same, get_or-set_other, length-set, length-append, length-take-le, get_or-take, get_or_append_left}
use Rattle.std.proofs.Math.Seq.{get_or-append_seam}
use Rattle.indexmap.proofs.IndexTableLemmas.Probe.{pigeonhole}
use Rattle.jwalk_model.specs.Tree.{Place, directory}
use Rattle.jwalk_memory_fs.specs.Child.{Child, Dir, File, Link}
use Rattle.jwalk_memory_fs.specs.Branch.{Branch, child_named, branch_at, children_at, parent_at, child_of, at_end, names_of, node_of, tree_of_table, empty_branch, IsHeld, IsSound, IsLoose, IsEmptied, AreSpare}
use Rattle.jwalk_memory_fs.proofs.PlaceLemmas.{by_last}
use Rattle.jwalk_memory_fs.proofs.TableLemmas.{at_end-append, last_step, same_dir}

-- no place leads to a directory that no name refers to
pub not_loose : (table : List Branch) (place : Place) (i : ℕ) → at_end table (Dir 0) place ≡ Some (Dir i) → IsLoose table i → ⊥
not_loose table = by_last (λ place. (i : ℕ) → at_end table (Dir 0) place ≡ Some (Dir i) → IsLoose table i → ⊥)
    (λ i e loose. let r = loose.below_root in let z = same_dir 0 i e in omega arith)
    (λ front name hyp i e loose. let s = last_step table front name (Dir i) e in loose.unnamed s.holder name s.step)

-- ---- another directory in the place of one
module _ (table : List Branch) (d : ℕ) (b : Branch) (lt : d < length table) where
  abbrev pub put : List Branch
  put = slice_set table d b

  pub at_put : branch_at put d ≡ b
  at_put = get_or-set_same table d b (empty_branch 0) lt

  pub at_others : (i : ℕ) → i ≢ d → branch_at put i ≡ branch_at table i
  at_others i ne = get_or-set_other table d i b (empty_branch 0) ne

  pub length-put : length put ≡ length table
  length-put = length-set table d b

  module _ (narrows : (name : List ℕ) (c : Child) → child_named b.children name ≡ Some c → child_named (children_at table d) name ≡ Some c) where
    -- each name referred to the same before
    pub named_before : (i : ℕ) (name : List ℕ) (c : Child) → child_named (children_at put i) name ≡ Some c → child_named (children_at table i) name ≡ Some c
    named_before i name c e = by (cases_eq i d)
      where
        by : (i ≡ d) ⊎ (i ≢ d) → child_named (children_at table i) name ≡ Some c
        by (inl h) =
            ap (λ k. child_named (children_at table k) name) h
            ∙ narrows name c (sym (ap (λ (x : Branch). child_named x.children name) at_put) ∙ ap (λ k. child_named (children_at put k) name) (sym h) ∙ e)
        by (inr ne) = sym (ap (λ (x : Branch). child_named x.children name) (at_others i ne)) ∙ e

    pub loose-put : (i : ℕ) → IsLoose table i → IsLoose put i
    loose-put i loose = record {
      below_root = loose.below_root;
      within = subst (λ n. i < n) (sym length-put) loose.within;
      unnamed = λ holder name e. loose.unnamed holder name (named_before holder name (Dir i) e);
    }

    pub sound-put : IsSound table → parent_at put 0 ≡ 0 → b.parent < length table
        → ((holder : ℕ) (name : List ℕ) (j : ℕ) → child_named (children_at table holder) name ≡ Some (Dir j) → parent_at put j ≡ parent_at table j) → IsSound put
    sound-put sound own within kept = record {
      rooted = subst (λ n. 0 < n) (sym length-put) sound.rooted;
      own_parent = own;
      parents = λ i h. subst (λ n. parent_at put i < n) (sym length-put) (parent_within i (subst (λ n. i < n) length-put h) (cases_eq i d));
      held = λ holder name j e. held_put holder name j (named_before holder name (Dir j) e);
    }
      where
        parent_within : (i : ℕ) → i < length table → (i ≡ d) ⊎ (i ≢ d) → parent_at put i < length table
        parent_within i h (inl e) = subst (λ k. k < length table) (sym (ap (λ k. parent_at put k) e ∙ ap (λ (x : Branch). x.parent) at_put)) within
        parent_within i h (inr ne) = subst (λ k. k < length table) (sym (ap (λ (x : Branch). x.parent) (at_others i ne))) (sound.parents i h)

        held_put : (holder : ℕ) (name : List ℕ) (j : ℕ) → child_named (children_at table holder) name ≡ Some (Dir j) → IsHeld put holder name j
        held_put holder name j e =
            let h = sound.held holder name j e in
            record {
              within = subst (λ n. j < n) (sym length-put) h.within;
              below_root = h.below_root;
              parent = kept holder name j e ∙ h.parent;
              only_name = λ other e'. h.only_name other (named_before holder other (Dir j) e');
            }

    pub spare-put : (free : List ℕ) (done : ℕ) → AreSpare table free done → ((k : ℕ) → k < done → slice_index_or free k 0 ≢ d) → AreSpare put free done
    spare-put free done spare aside = record {
      apart = spare.apart;
      loose = λ k h. loose-put (slice_index_or free k 0) (spare.loose k h);
      emptied = λ k h. subst (λ (x : Branch). IsEmptied x) (sym (at_others (slice_index_or free k 0) (aside k h))) (spare.emptied k h);
    }

  module _ (sound : IsSound table) (loose : IsLoose table d) where
    aside : (place : Place) (k : ℕ) → at_end table (Dir 0) place ≡ Some (Dir k) → k ≢ d
    aside place k e h = not_loose table place k e (subst (IsLoose table) (sym h) loose)

    at_end-put : (q : Place) → at_end put (Dir 0) q ≡ at_end table (Dir 0) q
    at_end-put = by_last (λ q. at_end put (Dir 0) q ≡ at_end table (Dir 0) q) refl
        (λ front name hyp.
        at_end-append put (Dir 0) front name ∙ ap (option_and_then (λ x. child_of put x name)) hyp ∙ by front name (at_end table (Dir 0) front) refl ∙ sym (at_end-append table (Dir 0) front name))
      where
        by : (front : Place) (name : List ℕ) (o : Option Child) → at_end table (Dir 0) front ≡ o
            → option_and_then (λ x. child_of put x name) (at_end table (Dir 0) front) ≡ option_and_then (λ x. child_of table x name) (at_end table (Dir 0) front)
        by front name None e = ap (option_and_then (λ x. child_of put x name)) e ∙ sym (ap (option_and_then (λ x. child_of table x name)) e)
        by front name (Some (File len)) e = ap (option_and_then (λ x. child_of put x name)) e ∙ sym (ap (option_and_then (λ x. child_of table x name)) e)
        by front name (Some (Link target)) e = ap (option_and_then (λ x. child_of put x name)) e ∙ sym (ap (option_and_then (λ x. child_of table x name)) e)
        by front name (Some (Dir k)) e =
            ap (option_and_then (λ x. child_of put x name)) e ∙ ap (λ (x : Branch). child_named x.children name) (at_others k (aside front k e))
            ∙ sym (ap (option_and_then (λ x. child_of table x name)) e)

    -- the tree is as it was
    pub tree-put : (q : Place) → tree_of_table put q ≡ tree_of_table table q
    tree-put q = ap (option_map (node_of put)) (at_end-put q) ∙ by (at_end table (Dir 0) q) refl
      where
        by : (o : Option Child) → at_end table (Dir 0) q ≡ o → option_map (node_of put) o ≡ option_map (node_of table) o
        by None e = refl
        by (Some (File len)) e = refl
        by (Some (Link target)) e = refl
        by (Some (Dir k)) e = ap (λ (x : Branch). Some (directory (names_of x.children) x.denied)) (at_others k (aside q k e))

-- ---- the list of free places
abbrev pub place_at : List ℕ → ℕ → ℕ
place_at free k = slice_index_or free k 0

-- a place is free only once, so there are no more than directories behind the root
pub spare-length : (table : List Branch) (free : List ℕ) (done : ℕ) → 0 < length table → AreSpare table free done → length free < length table
spare-length table free done rooted spare = by (length table) refl
  where
    apart_by : (i j : ℕ) → i < length free → j < length free → (i < j) ⊎ (j ≤ i) → (j < i) ⊎ (i ≤ j) → place_at free i ≡ place_at free j → i ≡ j
    apart_by i j hi hj (inl l) r e = absurd (spare.apart i j l hj e)
    apart_by i j hi hj (inr g) (inl l) e = absurd (spare.apart j i l hi (sym e))
    apart_by i j hi hj (inr g) (inr h) e = omega arith

    by : (n : ℕ) → length table ≡ n → length free < length table
    by zero e = absurd (omega arith)
    by (suc n) e =
        let most : length free ≤ n = pigeonhole (length free) n (λ k. place_at free k - 1)
        (λ k h. let w = (spare.loose k h).within in let r = (spare.loose k h).below_root in omega arith)
        (λ i j hi hj same. let a = (spare.loose i hi).below_root in let b = (spare.loose j hj).below_root in apart_by i j hi hj (cases_lt i j) (cases_lt j i) (omega arith)) in
        omega arith

-- a place that becomes free
pub spare-pushed : (table : List Branch) (free : List ℕ) (done j : ℕ) → AreSpare table free done → done ≤ length free → IsLoose table j → ((k : ℕ) → k < length free → place_at free k ≢ j) → AreSpare table (free ++ j ∷ []) done
spare-pushed table free done j spare le loose other = record {
  apart = λ k l h h'. apart_by k l h (let n = length-append free (j ∷ []) in omega arith) (cases_lt l (length free));
  loose = λ k h. loose_by k (let n = length-append free (j ∷ []) in omega arith) (cases_lt k (length free));
  emptied = λ k h. subst (λ i. IsEmptied (branch_at table i)) (sym (get_or_append_left free (j ∷ []) 0 k (omega arith))) (spare.emptied k h);
}
  where
    at_last : (k : ℕ) → length free ≡ k → place_at (free ++ j ∷ []) k ≡ j
    at_last k e = ap (place_at (free ++ j ∷ [])) (sym e) ∙ get_or-append_seam free j [] 0

    apart_by : (k l : ℕ) → k < l → l ≤ length free → (l < length free) ⊎ (length free ≤ l) → place_at (free ++ j ∷ []) k ≢ place_at (free ++ j ∷ []) l
    apart_by k l h h' (inl lt) e = spare.apart k l h lt (sym (get_or_append_left free (j ∷ []) 0 k (omega arith)) ∙ e ∙ get_or_append_left free (j ∷ []) 0 l lt)
    apart_by k l h h' (inr ge) e = other k (omega arith) (sym (get_or_append_left free (j ∷ []) 0 k (omega arith)) ∙ e ∙ at_last l (omega arith))

    loose_by : (k : ℕ) → k ≤ length free → (k < length free) ⊎ (length free ≤ k) → IsLoose table (place_at (free ++ j ∷ []) k)
    loose_by k h (inl lt) = subst (IsLoose table) (sym (get_or_append_left free (j ∷ []) 0 k lt)) (spare.loose k lt)
    loose_by k h (inr ge) = subst (IsLoose table) (sym (at_last k (omega arith))) loose

-- one more of them is empty
pub spare-emptied : (table : List Branch) (free : List ℕ) (done : ℕ) → AreSpare table free done → IsEmptied (branch_at table (place_at free done)) → AreSpare table free (done + 1)
spare-emptied table free done spare empty = record { apart = spare.apart; loose = spare.loose; emptied = λ k h. by k h (cases_lt k done) }
  where
    by : (k : ℕ) → k < done + 1 → (k < done) ⊎ (done ≤ k) → IsEmptied (branch_at table (place_at free k))
    by k h (inl lt) = spare.emptied k lt
    by k h (inr ge) = let e : done ≡ k = omega arith in subst (λ i. IsEmptied (branch_at table (place_at free i))) e empty

-- only the first of them
pub spare-taken : (table : List Branch) (free : List ℕ) (done n : ℕ) → AreSpare table free done → n ≤ length free → n ≤ done → AreSpare table (take n free) (length (take n free))
spare-taken table free done n spare le le' =
    let fewer : length (take n free) ≡ n = length-take-le n free le in
    record {
      apart = λ k l h h' e. spare.apart k l h (omega arith) (sym (get_or-take n free k 0 (omega arith)) ∙ e ∙ get_or-take n free l 0 (omega arith));
      loose = λ k h. subst (IsLoose table) (sym (get_or-take n free k 0 (omega arith))) (spare.loose k (omega arith));
      emptied = λ k h. subst (λ i. IsEmptied (branch_at table i)) (sym (get_or-take n free k 0 (omega arith))) (spare.emptied k (omega arith));
    }

pub spare-none : (table : List Branch) (free : List ℕ) → free ≡ [] → AreSpare table free (length free)
spare-none table free none =
    let l : length free ≡ 0 = ap (λ (ks : List ℕ). length ks) none in
    record { apart = λ k m h h'. absurd (omega arith); loose = λ k h. absurd (omega arith); emptied = λ k h. absurd (omega arith) }
