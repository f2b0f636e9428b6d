-- A table with one more child, and the tree that it is then.
use Rattle.std.proofs.Common.{◌≡◌, ◌≢◌, ℕ, ◌<◌, ◌≤◌, Bool, true, false, cond, List, [], ◌∷◌, ◌++◌, length, slice_index_or, is_some, Option, None, Some, refl, sym, ap, ◌∙◌, ◌⊎◌, inl, inr, ⊎_elim, arith}
use Rattle.std.specs.Prelude.{option_and_then, if◌then◌else◌}
use Rattle.std.specs.Option.{option_map}
use Rattle.std.specs.Str.{bytes_eq}
use Rattle.std.specs.declared.io.ErrorKind.{ErrorKind}
use Rattle.std.proofs.lemmas.Bool.{cases_eq, cases_lt, cases_Bool}
use Rattle.std.proofs.lemmas.List.{map-append}
use Rattle.std.proofs.lemmas.Slice.Eq.{bytes_eq-Decides}
use Rattle.jwalk_model.specs.Tree.{Place, Node, directory, file, link, same_place, renamed, with_child as with_node}
use Rattle.jwalk_memory_fs.specs.Child.{Child, Dir, File, Link}
use Rattle.jwalk_memory_fs.specs.Branch.{Branch, child_named, branch_at, children_at, parent_at, denied_at, child_of, at_end, names_of, node_of, tree_of_table, IsHeld, IsSound, IsLoose, IsEmptied, AreSpare}
use Rattle.jwalk_memory_fs.proofs.PlaceLemmas.{by_last, same_front, same_last, longer_place, same_place-refl, same_place-false, place_cases, name_cases}
use Rattle.jwalk_memory_fs.proofs.TableLemmas.{at_end-append, one_place, same_dir}

pub same_branches : {X : Type 0} (b : Bool) (x : X) → x ≡ (if b then x else x)
same_branches true x = refl
same_branches false x = refl

abbrev pub or_last : Option Child → Option Child → Option Child
or_last None last = last
or_last (Some child) last = Some child

pub child_named-append : (children : List (List ℕ × Child)) (name other : List ℕ) (new : Child)
    → child_named (children ++ (name, new) ∷ []) other ≡ or_last (child_named children other) (if bytes_eq other name then Some new else None)
child_named-append [] name other new = refl
child_named-append (e ∷ es) name other new =
    elim (bytes_eq other e.0) as (λ b. cond b (Some e.1) (child_named (es ++ (name, new) ∷ []) other) ≡ or_last (cond b (Some e.1) (child_named es other)) (if bytes_eq other name then Some new else None))
    [ true ↦ refl | false ↦ child_named-append es name other new ]

-- The new table has the new child behind the others, under a name that was free, and nothing is below it. No directory is denied that wasn't.
pub record Grows (old new : List Branch) (holder : ℕ) (name : List ℕ) (child : Child) : Type 0 where
  pub free : child_named (children_at old holder) name ≡ None
  pub here : children_at new holder ≡ children_at old holder ++ (name, child) ∷ []
  pub others : (index : ℕ) → index ≢ holder → children_at new index ≡ children_at old index
  pub denials : (index : ℕ) → denied_at new index ≡ denied_at old index
  pub leaf : (other : List ℕ) → child_of new child other ≡ None

-- The place of a new directory, which no name referred to.
pub record IsNewPlace (old new : List Branch) (holder index : ℕ) : Type 0 where
  pub below_root : 0 < index
  pub within : index < length new
  pub parent : parent_at new index ≡ holder
  pub unnamed : (other : ℕ) (name : List ℕ) → child_named (children_at old other) name ≢ Some (Dir index)

-- No directory has gone or moved, and the new child, if it is one, has a place of its own.
pub record Extends (old new : List Branch) (holder : ℕ) (child : Child) : Type 0 where
  pub within : holder < length old
  pub longer : length old ≤ length new
  pub kept : (index : ℕ) → index < length old → child ≢ Dir index → parent_at new index ≡ parent_at old index
  pub added : (index : ℕ) → length old ≤ index → index < length new → child ≡ Dir index
  pub new_dir : (index : ℕ) → child ≡ Dir index → IsNewPlace old new holder index

is_dir : (c : Child) (i : ℕ) → (c ≡ Dir i) ⊎ (c ≢ Dir i)
is_dir (Dir j) i = by (cases_eq j i)
  where
    by : (j ≡ i) ⊎ (j ≢ i) → (Dir j ≡ Dir i) ⊎ (Dir j ≢ Dir i)
    by (inl e) = inl (ap (λ k. Dir k) e)
    by (inr ne) = inr (λ h. ne (let z : j ≡ i = cc in z))
is_dir (File len) i = inr (λ h. cc)
is_dir (Link target) i = inr (λ h. cc)

module _ (old new : List Branch) (holder : ℕ) (name : List ℕ) (child : Child) (grows : Grows old new holder name child) where
  pub named_new : child_named (children_at new holder) name ≡ Some child
  named_new =
      ap (λ (es : List (List ℕ × Child)). child_named es name) grows.here ∙ child_named-append (children_at old holder) name name child
      ∙ ap (λ o. or_last o (if bytes_eq name name then Some child else None)) grows.free ∙ ap (λ (b : Bool). if b then Some child else None) ((bytes_eq-Decides name name).1 refl)

  or_last-None : (o : Option Child) → or_last o None ≡ o
  or_last-None None = refl
  or_last-None (Some x) = refl

  pub named_old : (other : List ℕ) → other ≢ name → child_named (children_at new holder) other ≡ child_named (children_at old holder) other
  named_old other ne = by (cases_Bool (bytes_eq other name))
    where
      by : (bytes_eq other name ≡ true) ⊎ (bytes_eq other name ≡ false) → child_named (children_at new holder) other ≡ child_named (children_at old holder) other
      by (inl e) = absurd (ne ((bytes_eq-Decides other name).0 e))
      by (inr e) =
          ap (λ (es : List (List ℕ × Child)). child_named es other) grows.here ∙ child_named-append (children_at old holder) name other child
          ∙ ap (λ (b : Bool). or_last (child_named (children_at old holder) other) (if b then Some child else None)) e ∙ or_last-None (child_named (children_at old holder) other)

  module _ (sound : IsSound old) (place : Place) (stands : at_end old (Dir 0) place ≡ Some (Dir holder)) where
    abbrev Claim : Place → Type 0
    Claim q = at_end new (Dir 0) q ≡ (if same_place q (place ++ name ∷ []) then Some child else at_end old (Dir 0) q)

    -- the new place was free
    was_free : at_end old (Dir 0) (place ++ name ∷ []) ≡ None
    was_free = at_end-append old (Dir 0) place name ∙ ap (option_and_then (λ x. child_of old x name)) stands ∙ grows.free

    elsewhere : (front : Place) (last : List ℕ) (o : Option Child) → front ++ last ∷ [] ≢ place ++ name ∷ []
        → o ≡ option_and_then (λ x. child_of old x last) (at_end old (Dir 0) front)
        → o ≡ (if same_place (front ++ last ∷ []) (place ++ name ∷ []) then Some child else at_end old (Dir 0) (front ++ last ∷ []))
    elsewhere front last o ne e =
        e ∙ sym (at_end-append old (Dir 0) front last)
        ∙ sym (ap (λ (b : Bool). if b then Some child else at_end old (Dir 0) (front ++ last ∷ [])) (same_place-false (front ++ last ∷ []) (place ++ name ∷ []) ne))

    -- a place whose front isn't the holder of the new child
    aside : (front : Place) (last : List ℕ) → at_end old (Dir 0) front ≢ Some (Dir holder) → front ++ last ∷ [] ≢ place ++ name ∷ []
    aside front last ne e = ne (ap (at_end old (Dir 0)) (same_front front place last name e) ∙ stands)

    in_holder : (front : Place) (last : List ℕ) → front ≡ place → (last ≡ name) ⊎ (last ≢ name)
        → child_named (children_at new holder) last ≡ (if same_place (front ++ last ∷ []) (place ++ name ∷ []) then Some child else at_end old (Dir 0) (front ++ last ∷ []))
    in_holder front last same (inl e) =
        ap (child_named (children_at new holder)) e ∙ named_new
        ∙ sym (ap (λ (b : Bool). if b then Some child else at_end old (Dir 0) (front ++ last ∷ []))
        (ap (λ (p : Place). same_place p (place ++ name ∷ [])) (ap (λ (p : Place). p ++ last ∷ []) same ∙ ap (λ (n : List ℕ). place ++ n ∷ []) e) ∙ same_place-refl (place ++ name ∷ [])))
    in_holder front last same (inr ne) =
        elsewhere front last (child_named (children_at new holder) last) (λ e. ne (same_last front place last name e))
        (named_old last ne ∙ sym (ap (option_and_then (λ x. child_of old x last)) (ap (at_end old (Dir 0)) same ∙ stands)))

    below_same : (front : Place) (last : List ℕ) (o : Option Child) → at_end old (Dir 0) front ≡ o
        → option_and_then (λ x. child_of new x last) o ≡ (if same_place (front ++ last ∷ []) (place ++ name ∷ []) then Some child else at_end old (Dir 0) (front ++ last ∷ []))
    below_same front last None e =
        elsewhere front last None (aside front last (λ h. let z : None ≡ Some (Dir holder) = sym e ∙ h in cc)) (sym (ap (option_and_then (λ x. child_of old x last)) e))
    below_same front last (Some (File len)) e =
        elsewhere front last None (aside front last (λ h. let z : Some (File len) ≡ Some (Dir holder) = sym e ∙ h in cc)) (sym (ap (option_and_then (λ x. child_of old x last)) e))
    below_same front last (Some (Link target)) e =
        elsewhere front last None (aside front last (λ h. let z : Some (Link target) ≡ Some (Dir holder) = sym e ∙ h in cc)) (sym (ap (option_and_then (λ x. child_of old x last)) e))
    below_same front last (Some (Dir k)) e = by (cases_eq k holder)
      where
        by : (k ≡ holder) ⊎ (k ≢ holder) → child_named (children_at new k) last ≡ (if same_place (front ++ last ∷ []) (place ++ name ∷ []) then Some child else at_end old (Dir 0) (front ++ last ∷ []))
        by (inl h) =
            ap (λ j. child_named (children_at new j) last) h
            ∙ in_holder front last (one_place old sound place front holder stands (e ∙ ap (λ j. Some (Dir j)) h)) (name_cases last name)
        by (inr ne) =
            elsewhere front last (child_named (children_at new k) last) (aside front last (λ h. ne (same_dir k holder (sym e ∙ h))))
            (ap (λ (es : List (List ℕ × Child)). child_named es last) (grows.others k ne) ∙ sym (ap (option_and_then (λ x. child_of old x last)) e))

    -- the new child is at its place, and all else where it was
    pub at_end-grown : (q : Place) → at_end new (Dir 0) q ≡ (if same_place q (place ++ name ∷ []) then Some child else at_end old (Dir 0) q)
    at_end-grown = by_last Claim first more
      where
        first : Claim []
        first = sym (ap (λ (b : Bool). if b then Some child else Some (Dir 0)) (same_place-false [] (place ++ name ∷ []) (λ e. let h : None ≡ Some (Dir 0) = sym was_free ∙ ap (at_end old (Dir 0)) (sym e) in cc)))

        more : (front : Place) (last : List ℕ) → Claim front → Claim (front ++ last ∷ [])
        more front last hyp = at_end-append new (Dir 0) front last ∙ ap (option_and_then (λ x. child_of new x last)) hyp ∙ by (place_cases front (place ++ name ∷ []))
          where
            by : (front ≡ place ++ name ∷ []) ⊎ (front ≢ place ++ name ∷ [])
                → option_and_then (λ x. child_of new x last) (if same_place front (place ++ name ∷ []) then Some child else at_end old (Dir 0) front)
                ≡ (if same_place (front ++ last ∷ []) (place ++ name ∷ []) then Some child else at_end old (Dir 0) (front ++ last ∷ []))
            by (inl e) =
                ap (λ (b : Bool). option_and_then (λ x. child_of new x last) (if b then Some child else at_end old (Dir 0) front)) (ap (λ (p : Place). same_place p (place ++ name ∷ [])) e ∙ same_place-refl (place ++ name ∷ []))
                ∙ grows.leaf last
                ∙ elsewhere front last None (λ h. longer_place front last (h ∙ sym e)) (sym (ap (option_and_then (λ x. child_of old x last)) (ap (at_end old (Dir 0)) e ∙ was_free)))
            by (inr ne) =
                ap (λ (b : Bool). option_and_then (λ x. child_of new x last) (if b then Some child else at_end old (Dir 0) front)) (same_place-false front (place ++ name ∷ []) ne)
                ∙ below_same front last (at_end old (Dir 0) front) refl

    -- so the tree has the new node, and its holder the new name
    pub tree-grown : (node : Node) → node_of new child ≡ node → (q : Place)
        → tree_of_table new q ≡ with_node node (record { holder = place; name = name }) (tree_of_table old) q
    tree-grown node is q = ap (option_map (node_of new)) (at_end-grown q) ∙ by (same_place q (place ++ name ∷ []))
      where
        kept_node : (o : Option Child) → at_end old (Dir 0) q ≡ o
            → option_map (node_of new) o ≡ (if same_place q place then renamed (λ names. names ++ name ∷ []) (option_map (node_of old) o) else option_map (node_of old) o)
        kept_node None e = same_branches (same_place q place) None
        kept_node (Some (File len)) e = same_branches (same_place q place) (Some (file len))
        kept_node (Some (Link target)) e = same_branches (same_place q place) (Some (link target))
        kept_node (Some (Dir k)) e = at (cases_eq k holder)
          where
            at : (k ≡ holder) ⊎ (k ≢ holder)
                → Some (node_of new (Dir k)) ≡ (if same_place q place then Some (directory (names_of (children_at old k) ++ name ∷ []) (denied_at old k)) else Some (node_of old (Dir k)))
            at (inl h) =
                ap (λ (d : Option ErrorKind). Some (directory (names_of (children_at new k)) d)) (grows.denials k)
                ∙ ap (λ (es : List (List ℕ × Child)). Some (directory (names_of es) (denied_at old k))) (ap (children_at new) h ∙ grows.here ∙ ap (λ j. children_at old j ++ (name, child) ∷ []) (sym h))
                ∙ ap (λ (ns : List (List ℕ)). Some (directory ns (denied_at old k))) (map-append (λ e. e.0) (children_at old k) ((name, child) ∷ []))
                ∙ sym (ap (λ (b : Bool). if b then Some (directory (names_of (children_at old k) ++ name ∷ []) (denied_at old k)) else Some (node_of old (Dir k)))
                (ap (λ (p : Place). same_place p place) (one_place old sound place q holder stands (e ∙ ap (λ j. Some (Dir j)) h)) ∙ same_place-refl place))
            at (inr ne) =
                ap (λ (d : Option ErrorKind). Some (directory (names_of (children_at new k)) d)) (grows.denials k)
                ∙ ap (λ (es : List (List ℕ × Child)). Some (directory (names_of es) (denied_at old k))) (grows.others k ne)
                ∙ sym (ap (λ (b : Bool). if b then Some (directory (names_of (children_at old k) ++ name ∷ []) (denied_at old k)) else Some (node_of old (Dir k)))
                (same_place-false q place (λ h. ne (same_dir k holder (sym e ∙ ap (at_end old (Dir 0)) h ∙ stands)))))

        by : (b : Bool) → option_map (node_of new) (if b then Some child else at_end old (Dir 0) q)
            ≡ (if b then Some node else if same_place q place then renamed (λ names. names ++ name ∷ []) (tree_of_table old q) else tree_of_table old q)
        by true = ap (λ (n : Node). Some n) is
        by false = kept_node (at_end old (Dir 0) q) refl

  -- a name that refers to a directory is an old one, or the new one
  edge_cases : (i : ℕ) (n : List ℕ) (j : ℕ) → child_named (children_at new i) n ≡ Some (Dir j)
      → (child_named (children_at old i) n ≡ Some (Dir j)) ⊎ ((i ≡ holder) × (n ≡ name) × (child ≡ Dir j))
  edge_cases i n j e = by (cases_eq i holder) (name_cases n name)
    where
      by : (i ≡ holder) ⊎ (i ≢ holder) → (n ≡ name) ⊎ (n ≢ name) → (child_named (children_at old i) n ≡ Some (Dir j)) ⊎ ((i ≡ holder) × (n ≡ name) × (child ≡ Dir j))
      by (inl h) (inl same) =
          let z : Some child ≡ Some (Dir j) = sym named_new ∙ ap (child_named (children_at new holder)) (sym same) ∙ ap (λ k. child_named (children_at new k) n) (sym h) ∙ e in
          let is : child ≡ Dir j = cc in inr (h, same, is)
      by (inl h) (inr ne) = inl (ap (λ k. child_named (children_at old k) n) h ∙ sym (named_old n ne) ∙ ap (λ k. child_named (children_at new k) n) (sym h) ∙ e)
      by (inr ne) same = inl (ap (λ (es : List (List ℕ × Child)). child_named es n) (sym (grows.others i ne)) ∙ e)

  -- a sound table stays so
  pub sound-grown : IsSound old → Extends old new holder child → IsSound new
  sound-grown sound more = record {
    rooted = let r = sound.rooted in let l = more.longer in omega arith;
    own_parent = more.kept 0 sound.rooted (λ h. let r = (more.new_dir 0 h).below_root in omega arith) ∙ sound.own_parent;
    parents = λ index h. within_new index h (cases_lt index (length old)) (is_dir child index);
    held = λ i n j e. held_new i n j (edge_cases i n j e);
  }
    where
      within_new : (index : ℕ) → index < length new → (index < length old) ⊎ (length old ≤ index) → (child ≡ Dir index) ⊎ (child ≢ Dir index) → parent_at new index < length new
      within_new index h lt (inl is) = let p = (more.new_dir index is).parent in let w = more.within in let l = more.longer in omega arith
      within_new index h (inl lt) (inr ne) = let k = more.kept index lt ne in let p = sound.parents index lt in let l = more.longer in omega arith
      within_new index h (inr le) (inr ne) = absurd (ne (more.added index le h))

      held_new : (i : ℕ) (n : List ℕ) (j : ℕ) → (child_named (children_at old i) n ≡ Some (Dir j)) ⊎ ((i ≡ holder) × (n ≡ name) × (child ≡ Dir j)) → IsHeld new i n j
      held_new i n j (inl e) =
          let h = sound.held i n j e in
          let old_dir : child ≢ Dir j = λ c. (more.new_dir j c).unnamed i n e in
          record {
            within = let w = h.within in let l = more.longer in omega arith;
            below_root = h.below_root;
            parent = more.kept j h.within old_dir ∙ h.parent;
            only_name = λ other e'. ⊎_elim (λ e''. h.only_name other e'') (λ w. absurd (old_dir w.2)) (edge_cases i other j e');
          }
      held_new i n j (inr w) =
          let d = more.new_dir j w.2 in
          record {
            within = d.within;
            below_root = d.below_root;
            parent = d.parent ∙ sym w.0;
            only_name = λ other e'. ⊎_elim (λ e''. absurd (d.unnamed i other e'')) (λ v. v.1 ∙ sym w.1) (edge_cases i other j e');
          }

  loose-grown : (i : ℕ) → length old ≤ length new → IsLoose old i → child ≢ Dir i → IsLoose new i
  loose-grown i longer loose other = record {
    below_root = loose.below_root;
    within = let w = loose.within in omega arith;
    unnamed = λ h n e. ⊎_elim (λ e'. loose.unnamed h n e') (λ w. other w.2) (edge_cases h n i e);
  }

  emptied-grown : (i : ℕ) → i ≢ holder → IsEmptied (branch_at old i) → IsEmptied (branch_at new i)
  emptied-grown i ne empty = (ap (λ (es : List (List ℕ × Child)). length es) (grows.others i ne) ∙ empty.0, ap (λ (d : Option ErrorKind). is_some d) (grows.denials i) ∙ empty.1)

  -- so do the free places, if none of them was taken
  pub spare-grown : (free : List ℕ) (done : ℕ) → done ≤ length free → length old ≤ length new → AreSpare old free done
      → ((k : ℕ) → k < length free → child ≢ Dir (slice_index_or free k 0)) → ((k : ℕ) → k < length free → slice_index_or free k 0 ≢ holder) → AreSpare new free done
  spare-grown free done le longer spare other aside = record {
    apart = spare.apart;
    loose = λ k h. loose-grown (slice_index_or free k 0) longer (spare.loose k h) (other k h);
    emptied = λ k h. emptied-grown (slice_index_or free k 0) (aside k (omega arith)) (spare.emptied k h);
  }
