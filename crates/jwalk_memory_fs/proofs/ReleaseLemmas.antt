-- Directories that no name refers to are emptied one child after another, and their places become free.
use Rattle.std.proofs.Common.{◌≡◌, ◌≢◌, ℕ, zero, suc, ◌+◌, ◌-◌, ◌<◌, ◌≤◌, Bool, List, [], ◌∷◌, ◌++◌, length, Option, None, Some, refl, sym, ap, subst, ◌∙◌, String, string_bytes, arith}
use Rattle.std.specs.Prelude.{MatchOption, slice_set, if◌then◌else◌}
use Rattle.std.specs.Str.{bytes_eq}
use Rattle.std.proofs.lemmas.List.{length-append}
use Rattle.std.proofs.lemmas.Slice.Eq.{bytes_eq-Decides}
use Rattle.jwalk_memory_fs.specs.declared.child.Child.{Child as CodeChild}
use Rattle.jwalk_memory_fs.specs.Child.{Child, Dir, child_seen}
use Rattle.jwalk_memory_fs.specs.Branch.{Branch, child_named, branch_at, children_at, parent_at, empty_branch, without_name, without_named, IsHeld, IsSound, IsLoose, IsEmptied, AreSpare, PopsLast, IsRemoved}
use Rattle.jwalk_memory_fs.proofs.EditLemmas.{kept-edited}
use Rattle.jwalk_memory_fs.proofs.GrowthLemmas.{child_named-append, or_last}
use Rattle.jwalk_memory_fs.specs.Table.{size, IsReleasing, IsTurn}
use Rattle.jwalk_memory_fs.proofs.SpareLemmas.{place_at, at_put, at_others, length-put, named_before, sound-put, spare-put, tree-put, spare-pushed, spare-emptied, spare-length}
use Rattle.jwalk_memory_fs.proofs.RemoveLemmas.{gone, narrows-without}

module _ (start now : List Branch) (free : List ℕ) (next : ℕ) (so_far : IsReleasing start now free next) (lt : next < length free) where
  abbrev d : ℕ
  d = place_at free next

  loose_d : IsLoose now d
  loose_d = so_far.spare.loose next lt

  edited-releasing : (b : Branch) → ((name : List ℕ) (c : Child) → child_named b.children name ≡ Some c → child_named (children_at now d) name ≡ Some c) → b.parent < length now
      → IsReleasing start (slice_set now d b) free next
  edited-releasing b narrows within = record {
    sound = sound-put now d b loose_d.within narrows so_far.sound
        (ap (λ (x : Branch). x.parent) (at_others now d b loose_d.within 0 (λ e. let r = loose_d.below_root in omega arith)) ∙ so_far.sound.own_parent) within
        (λ holder name j e. ap (λ (x : Branch). x.parent) (at_others now d b loose_d.within j (λ same. loose_d.unnamed holder name (e ∙ ap (λ k. Some (Dir k)) same))));
    spare = spare-put now d b loose_d.within narrows free next so_far.spare (λ k h e. so_far.spare.apart k next h lt e);
    tree = λ q. tree-put now d b loose_d.within so_far.sound loose_d q ∙ so_far.tree q;
    same_length = length-put now d b loose_d.within ∙ so_far.same_length;
  }

  module _ (name : List ℕ) (child : Child) (b : Branch) (pops : PopsLast (branch_at now d) name child b) where
    narrows-popped : (n : List ℕ) (c : Child) → child_named b.children n ≡ Some c → child_named (children_at now d) n ≡ Some c
    narrows-popped n c e =
        ap (λ (x : Branch). child_named x.children n) pops.0 ∙ child_named-append b.children name n child
        ∙ ap (λ o. or_last o (if bytes_eq n name then Some child else None)) e

    within-popped : b.parent < length now
    within-popped = subst (λ (x : Branch). x.parent < length now) pops.0 (so_far.sound.parents d loose_d.within)

    -- a file or a link is gone
    pub popped-leaf : IsReleasing start (slice_set now d b) free next
    popped-leaf = edited-releasing b narrows-popped within-popped

    named-popped : child_named (children_at now d) name ≡ Some child
    named-popped =
        ap (λ (x : Branch). child_named x.children name) pops.0 ∙ child_named-append b.children name name child
        ∙ ap (λ o. or_last o (if bytes_eq name name then Some child else None)) pops.1
        ∙ ap (λ (t : Bool). if t then Some child else None) ((bytes_eq-Decides name name).1 refl)

    -- a directory's place becomes free
    pub popped-directory : (j : ℕ) → child ≡ Dir j → IsReleasing start (slice_set now d b) (free ++ j ∷ []) next
    popped-directory j is = record {
      sound = popped-leaf.sound;
      spare = spare-pushed (slice_set now d b) free next j popped-leaf.spare (omega arith) loose_j
          (λ k h e. (so_far.spare.loose k h).unnamed d name (named ∙ ap (λ i. Some (Dir i)) (sym e)));
      tree = popped-leaf.tree;
      same_length = popped-leaf.same_length;
    }
      where
        named : child_named (children_at now d) name ≡ Some (Dir j)
        named = named-popped ∙ ap (λ (c : Child). Some c) is

        unnamed_j : (holder : ℕ) (n : List ℕ) → child_named (children_at (slice_set now d b) holder) n ≢ Some (Dir j)
        unnamed_j holder n e =
            let before = named_before now d b loose_d.within narrows-popped holder n (Dir j) e in
            let held = so_far.sound.held d name j named in
            let same : holder ≡ d = sym (so_far.sound.held holder n j before).parent ∙ held.parent in
            let name_same : n ≡ name = held.only_name n (ap (λ i. child_named (children_at now i) n) (sym same) ∙ before) in
            let z : None ≡ Some (Dir j) =
            sym pops.1 ∙ sym (ap (λ (x : Branch). child_named x.children name) (at_put now d b loose_d.within))
            ∙ ap (λ i. child_named (children_at (slice_set now d b) i) name) (sym same) ∙ ap (child_named (children_at (slice_set now d b) holder)) (sym name_same) ∙ e in
            cc

        loose_j : IsLoose (slice_set now d b) j
        loose_j =
            let held = so_far.sound.held d name j named in
            record { below_root = held.below_root; within = subst (λ n. j < n) (sym (length-put now d b loose_d.within)) held.within; unnamed = unnamed_j }

  -- an empty one is done
  pub emptied-releasing : children_at now d ≡ [] → IsReleasing start (slice_set now d (empty_branch 0)) free (next + 1)
  emptied-releasing none =
      let edited = edited-releasing (empty_branch 0) (λ n c e. let z : None ≡ Some c = e in cc) so_far.sound.rooted in
      record {
        sound = edited.sound;
        spare = spare-emptied (slice_set now d (empty_branch 0)) free next edited.spare (subst (λ (x : Branch). IsEmptied x) (sym (at_put now d (empty_branch 0) loose_d.within)) (refl, refl));
        tree = edited.tree;
        same_length = edited.same_length;
      }

-- ---- how many children there are in all
size-set : (table : List Branch) (i : ℕ) (b : Branch) → i < length table → size (slice_set table i b) + length (children_at table i) ≡ size table + length b.children
size-set [] i b h = absurd (omega arith)
size-set (x ∷ xs) zero b h = omega arith
size-set (x ∷ xs) (suc k) b h = let r = size-set xs k b (omega arith) in omega arith

size-popped : (old : Branch) (name : List ℕ) (child : Child) (new : Branch) → PopsLast old name child new → length old.children ≡ length new.children + 1
size-popped old name child new pops = ap (λ (x : Branch). length x.children) pops.0 ∙ length-append new.children ((name, child) ∷ [])

-- ---- the first one
-- a directory whose name is gone is one that no name refers to
pub loose-removed : (table : List Branch) → IsSound table → (holder : ℕ) (name : List ℕ) → holder < length table → (index : ℕ) → child_named (children_at table holder) name ≡ Some (Dir index) → IsLoose (without_named table holder name) index
loose-removed table sound holder name lt index is = record {
  below_root = held.below_root;
  within = subst (λ n. index < n) (sym (length-put table holder (without_name name (branch_at table holder)) lt)) held.within;
  unnamed = λ other n e. unnamed other n e;
}
  where
    held : IsHeld table holder name index
    held = sound.held holder name index is

    unnamed : (other : ℕ) (n : List ℕ) → child_named (children_at (without_named table holder name) other) n ≢ Some (Dir index)
    unnamed other n e =
        let before = named_before table holder (without_name name (branch_at table holder)) lt (narrows-without name (children_at table holder)) other n (Dir index) e in
        let same : other ≡ holder = sym (sound.held other n index before).parent ∙ held.parent in
        let name_same : n ≡ name = held.only_name n (ap (λ i. child_named (children_at table i) n) (sym same) ∙ before) in
        let z : None ≡ Some (Dir index) =
        sym (gone name (children_at table holder)) ∙ sym (ap (λ (x : Branch). child_named x.children name) (at_put table holder (without_name name (branch_at table holder)) lt))
        ∙ ap (λ i. child_named (children_at (without_named table holder name) i) name) (sym same) ∙ ap (child_named (children_at (without_named table holder name) other)) (sym name_same) ∙ e in
        cc

-- a table without a name is as it must be
pub sound-removed : (table : List Branch) → IsSound table → (holder : ℕ) (name : List ℕ) → holder < length table → IsSound (without_named table holder name)
sound-removed table sound holder name lt =
    sound-put table holder (without_name name (branch_at table holder)) lt (narrows-without name (children_at table holder)) sound (kept-parent 0 ∙ sound.own_parent) (sound.parents holder lt)
    (λ other n j e. kept-parent j)
  where
    kept-parent : (i : ℕ) → parent_at (without_named table holder name) i ≡ parent_at table i
    kept-parent = kept-edited (without_name name) table holder (λ (b : Branch). b.parent) (λ b. refl) lt

pub spare-removed : (table : List Branch) (free : List ℕ) → AreSpare table free (length free) → (holder : ℕ) (name : List ℕ) → holder < length table → ((k : ℕ) → k < length free → place_at free k ≢ holder)
    → AreSpare (without_named table holder name) free (length free)
spare-removed table free spare holder name lt aside =
    spare-put table holder (without_name name (branch_at table holder)) lt (narrows-without name (children_at table holder)) free (length free) spare aside

-- the first place becomes free
pub first-releasing : (table : List Branch) (free : List ℕ) (index : ℕ) → IsSound table → AreSpare table free (length free) → IsLoose table index → ((k : ℕ) → k < length free → place_at free k ≢ index)
    → IsReleasing table table (free ++ index ∷ []) (length free)
first-releasing table free index sound spare loose once = record {
  sound = sound;
  spare = spare-pushed table free (length free) index spare (omega arith) loose once;
  tree = λ q. refl;
  same_length = refl;
}

-- the last child of a directory of the table
pub pops-there : {A : Type 0} (r : Option (String A × CodeChild A)) (old new here there : Branch) → old ≡ here → new ≡ there
    → MatchOption r ((old.children ≡ []) × (new ≡ old)) (λ p. PopsLast old (string_bytes p.0) (child_seen p.1) new)
    → MatchOption r (here.children ≡ []) (λ p. PopsLast here (string_bytes p.0) (child_seen p.1) there)
pops-there None old new here there is becomes h = ap (λ (b : Branch). b.children) (sym is) ∙ h.0
pops-there (Some p) old new here there is becomes h =
    subst (λ b. PopsLast b (string_bytes p.0) (child_seen p.1) there) is (subst (λ b. PopsLast old (string_bytes p.0) (child_seen p.1) b) becomes h)

pub set-twice : {X : Type 0} (xs : List X) (i : ℕ) (a b : X) → slice_set (slice_set xs i a) i b ≡ slice_set xs i b
set-twice [] i a b = refl
set-twice (x ∷ xs) zero a b = refl
set-twice (x ∷ xs) (suc k) a b = ap (λ (ys : List _). x ∷ ys) (set-twice xs k a b)

-- ---- one turn
module _ (old : List Branch) (free : List ℕ) (done : ℕ) (sound : IsSound old) (spare : AreSpare old free done) (lt : done < length free) where
  at_first : IsReleasing old old free done
  at_first = record { sound = sound; spare = spare; tree = λ q. refl; same_length = refl }

  module _ (name : List ℕ) (child : Child) (new : List Branch) (is : new ≡ slice_set old (place_at free done) (branch_at new (place_at free done)))
      (pops : PopsLast (branch_at old (place_at free done)) name child (branch_at new (place_at free done))) where
    less-popped : size new + (length new - done) < size old + (length old - done)
    less-popped =
        let loose = spare.loose done lt in
        let all = size-set old (place_at free done) (branch_at new (place_at free done)) loose.within in
        let one = size-popped (branch_at old (place_at free done)) name child (branch_at new (place_at free done)) pops in
        let sizes : size new ≡ size (slice_set old (place_at free done) (branch_at new (place_at free done))) = ap size is in
        let lengths : length new ≡ length old = ap (λ (t : List Branch). length t) is ∙ length-put old (place_at free done) (branch_at new (place_at free done)) loose.within in
        omega arith

    pub turn-leaf : (left : List ℕ) → left ≡ free → IsTurn old done new left done
    turn-leaf left kept = record {
      releasing = subst (λ (ks : List ℕ). IsReleasing old new ks done) (sym kept) (subst (λ (t : List Branch). IsReleasing old t free done) (sym is) (popped-leaf old old free done at_first lt name child _ pops));
      within = let l : length left ≡ length free = ap (λ (ks : List ℕ). length ks) kept in omega arith;
      less = less-popped;
    }

    pub turn-directory : (j : ℕ) → child ≡ Dir j → (after : List Branch) (left : List ℕ) → after ≡ new → left ≡ free ++ j ∷ [] → IsTurn old done after left done
    turn-directory j dir after left same pushed = subst (λ (t : List Branch). IsTurn old done t left done) (sym same) (record {
      releasing = subst (λ (ks : List ℕ). IsReleasing old new ks done) (sym pushed)
          (subst (λ (t : List Branch). IsReleasing old t (free ++ j ∷ []) done) (sym is) (popped-directory old old free done at_first lt name child _ pops j dir));
      within = let l : length left ≡ length (free ++ j ∷ []) = ap (λ (ks : List ℕ). length ks) pushed in let m = length-append free (j ∷ []) in omega arith;
      less = less-popped;
    })

    -- there is room for one more
    pub room-directory : (j capacity : ℕ) → child ≡ Dir j → length old ≤ capacity + 1 → length free < capacity
    room-directory j capacity dir room =
        let after = popped-directory old old free done at_first lt name child _ pops j dir in
        let most = spare-length _ (free ++ j ∷ []) done after.sound.rooted after.spare in
        let m = length-append free (j ∷ []) in
        let l = after.same_length in
        omega arith

  pub turn-empty : (new : List Branch) (left : List ℕ) → children_at old (place_at free done) ≡ [] → new ≡ slice_set old (place_at free done) (empty_branch 0) → left ≡ free → IsTurn old done new left (done + 1)
  turn-empty new left none is kept = record {
    releasing = subst (λ (ks : List ℕ). IsReleasing old new ks (done + 1)) (sym kept) (subst (λ (t : List Branch). IsReleasing old t free (done + 1)) (sym is) (emptied-releasing old old free done at_first lt none));
    within = let l : length left ≡ length free = ap (λ (ks : List ℕ). length ks) kept in omega arith;
    less =
        let loose = spare.loose done lt in
        let all = size-set old (place_at free done) (empty_branch 0) loose.within in
        let zero_children : length (children_at old (place_at free done)) ≡ 0 = ap (λ (es : List (List ℕ × Child)). length es) none in
        let sizes : size new ≡ size (slice_set old (place_at free done) (empty_branch 0)) = ap size is in
        let lengths : length new ≡ length old = ap (λ (t : List Branch). length t) is ∙ length-put old (place_at free done) (empty_branch 0) loose.within in
        let most = spare-length old free done sound.rooted spare in
        omega arith;
  }

-- there is room for the first
pub room-first : (table : List Branch) (free : List ℕ) (index capacity : ℕ) → IsSound table → AreSpare table free (length free) → IsLoose table index → ((k : ℕ) → k < length free → place_at free k ≢ index)
    → length table ≤ capacity + 1 → length free < capacity
room-first table free index capacity sound spare loose once room =
    let first = first-releasing table free index sound spare loose once in
    let most = spare-length table (free ++ index ∷ []) (length free) sound.rooted first.spare in
    let m = length-append free (index ∷ []) in
    omega arith

-- ---- what removing leaves
pub removed-leaf : (table : List Branch) (free : List ℕ) (holder : ℕ) (name : List ℕ) → IsSound table → AreSpare table free (length free) → holder < length table
    → ((k : ℕ) → k < length free → place_at free k ≢ holder) → (new : List Branch) (left : List ℕ) → new ≡ without_named table holder name → left ≡ free → IsRemoved table holder name new left
removed-leaf table free holder name sound spare lt aside new left is kept =
    subst (IsRemoved table holder name new) (sym kept)
    (subst (λ (t : List Branch). IsRemoved table holder name t free) (sym is)
    (record { sound = sound-removed table sound holder name lt; spare = spare-removed table free spare holder name lt aside; tree = λ q. refl }))
