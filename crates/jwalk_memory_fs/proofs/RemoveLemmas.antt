-- A child that is gone from the table is gone from the tree, with all that it holds.
use Rattle.std.proofs.Common.{◌≡◌, ◌≢◌, ℕ, ◌<◌, Bool, true, false, ◌&&◌, not, List, [], ◌∷◌, ◌++◌, filter, length, Option, None, Some, Result, Ok, Err, refl, sym, ap, subst, ◌∙◌, ◌⊎◌, inl, inr, ⊎_elim}
use Rattle.std.specs.declared.alloc.AllocError.{AllocError}
use Rattle.std.specs.Prelude.{◌↔◌, OnOk, OnErr, slice_index_or, is_some, option_and_then, if◌then◌else◌}
use Rattle.std.specs.Option.{option_map}
use Rattle.std.specs.Str.{bytes_eq}
use Rattle.std.proofs.lemmas.Bool.{cases_eq, cases_Bool, false≢true}
use Rattle.std.proofs.lemmas.Slice.Eq.{bytes_eq-Decides}
use Rattle.jwalk_model.specs.Paths.{components}
use Rattle.jwalk_model.specs.Tree.{Place, directory, file, link, same_place, is_within, renamed, Tree, Refusal, not_found, Spot, spot_of, place_of, without_child, remove_at, remove}
use Rattle.jwalk_memory_fs.specs.Child.{Child, Dir, File, Link}
use Rattle.jwalk_memory_fs.specs.Branch.{Branch, child_named, branch_at, children_at, denied_at, child_of, at_end, names_of, node_of, tree_of_table, without, without_name, without_named, if_taken, named_spot, taken_spot, IsSound, IsLoose, AreSpare, IsRemoved}
use Rattle.jwalk_memory_fs.specs.declared.build_error.BuildError.{BuildError}
use Rattle.jwalk_memory_fs.specs.declared.build_error.BuildError.TheVariants.{NotFound}
use Rattle.jwalk_memory_fs.specs.MemoryFs.{IsBuilt}
use Rattle.jwalk_memory_fs.proofs.PlaceLemmas.{by_last, same_front, same_last, same_place-refl, same_place-false, name_cases}
use Rattle.jwalk_memory_fs.proofs.TableLemmas.{at_end-append, one_place, same_dir}
use Rattle.jwalk_memory_fs.proofs.GrowthLemmas.{same_branches}
use Rattle.jwalk_memory_fs.proofs.SpareLemmas.{not_loose, at_put, at_others}
use Rattle.jwalk_memory_fs.proofs.SpotLemmas.{SpotsAgree, spots_agree}

-- ---- children without the one of a name
abbrev unless : Bool → List ℕ × Child → List (List ℕ × Child) → List (List ℕ × Child)
unless b e es = if not b then e ∷ es else es

pub gone : (name : List ℕ) (es : List (List ℕ × Child)) → child_named (without name es) name ≡ None
gone name [] = refl
gone name (e ∷ es) = by (bytes_eq e.0 name) refl (gone name es)
  where
    by : (b : Bool) → bytes_eq e.0 name ≡ b → child_named (without name es) name ≡ None → child_named (unless (bytes_eq e.0 name) e (without name es)) name ≡ None
    by true h rest = ap (λ c. child_named (unless c e (without name es)) name) h ∙ rest
    by false h rest =
        ap (λ c. child_named (unless c e (without name es)) name) h
        ∙ ap (λ c. if c then Some e.1 else child_named (without name es) name) (other (bytes_eq name e.0) refl) ∙ rest
      where
        other : (c : Bool) → bytes_eq name e.0 ≡ c → bytes_eq name e.0 ≡ false
        other true e' = absurd (false≢true (sym h ∙ (bytes_eq-Decides e.0 name).1 (sym ((bytes_eq-Decides name e.0).0 e'))))
        other false e' = e'

pub stays : (name other : List ℕ) → other ≢ name → (es : List (List ℕ × Child)) → child_named (without name es) other ≡ child_named es other
stays name other ne [] = refl
stays name other ne (e ∷ es) = by (bytes_eq e.0 name) refl (stays name other ne es)
  where
    by : (b : Bool) → bytes_eq e.0 name ≡ b → child_named (without name es) other ≡ child_named es other → child_named (unless (bytes_eq e.0 name) e (without name es)) other ≡ child_named (e ∷ es) other
    by true h rest =
        ap (λ c. child_named (unless c e (without name es)) other) h ∙ rest
        ∙ sym (ap (λ c. if c then Some e.1 else child_named es other) (differs (bytes_eq other e.0) refl))
      where
        differs : (c : Bool) → bytes_eq other e.0 ≡ c → bytes_eq other e.0 ≡ false
        differs true e' = absurd (ne ((bytes_eq-Decides other e.0).0 e' ∙ (bytes_eq-Decides e.0 name).0 h))
        differs false e' = e'
    by false h rest = ap (λ c. child_named (unless c e (without name es)) other) h ∙ ap (λ o. if bytes_eq other e.0 then Some e.1 else o) rest

pub narrows-without : (name : List ℕ) (es : List (List ℕ × Child)) (other : List ℕ) (c : Child) → child_named (without name es) other ≡ Some c → child_named es other ≡ Some c
narrows-without name es other c e = by (name_cases other name)
  where
    by : (other ≡ name) ⊎ (other ≢ name) → child_named es other ≡ Some c
    by (inl same) = let z : None ≡ Some c = sym (gone name es) ∙ ap (child_named (without name es)) (sym same) ∙ e in cc
    by (inr ne) = sym (stays name other ne es) ∙ e

names-without : (name : List ℕ) (es : List (List ℕ × Child)) → names_of (without name es) ≡ filter (λ n. not (bytes_eq n name)) (names_of es)
names-without name [] = refl
names-without name (e ∷ es) =
    elim (bytes_eq e.0 name) as (λ b. names_of (unless b e (without name es)) ≡ (if not b then e.0 ∷ filter (λ n. not (bytes_eq n name)) (names_of es) else filter (λ n. not (bytes_eq n name)) (names_of es)))
    [ true ↦ names-without name es | false ↦ ap (λ (ns : List (List ℕ)). e.0 ∷ ns) (names-without name es) ]

-- ---- places within one
both : (a b : Bool) → (a && b) ≡ true → (a ≡ true) × (b ≡ true)
both true b h = (refl, h)
both false b h = absurd (false≢true h)

within-append : (p q : Place) (last : List ℕ) → is_within p q ≡ true → is_within p (q ++ last ∷ []) ≡ true
within-append [] q last h = refl
within-append (n ∷ ns) [] last h = absurd (false≢true h)
within-append (n ∷ ns) (m ∷ ms) last h = let w = both (bytes_eq n m) (is_within ns ms) h in ap (λ b. b && is_within ns (ms ++ last ∷ [])) w.0 ∙ within-append ns ms last w.1

within-refl : (p : Place) → is_within p p ≡ true
within-refl [] = refl
within-refl (n ∷ ns) = ap (λ b. b && is_within ns ns) ((bytes_eq-Decides n n).1 refl) ∙ within-refl ns

within-last : (p q : Place) (last : List ℕ) → is_within p (q ++ last ∷ []) ≡ true → (is_within p q ≡ true) ⊎ (p ≡ q ++ last ∷ [])
within-last [] q last h = inl refl
within-last (n ∷ []) [] last h = inr (ap (λ (k : List ℕ). k ∷ []) ((bytes_eq-Decides n last).0 ((both (bytes_eq n last) true h).0)))
within-last (n ∷ m ∷ ns) [] last h = absurd (false≢true ((both (bytes_eq n last) false h).1))
within-last (n ∷ ns) (m ∷ ms) last h = by (within-last ns ms last w.1)
  where
    w : (bytes_eq n m ≡ true) × (is_within ns (ms ++ last ∷ []) ≡ true)
    w = both (bytes_eq n m) (is_within ns (ms ++ last ∷ [])) h

    by : (is_within ns ms ≡ true) ⊎ (ns ≡ ms ++ last ∷ []) → (is_within (n ∷ ns) (m ∷ ms) ≡ true) ⊎ (n ∷ ns ≡ m ∷ ms ++ last ∷ [])
    by (inl e) = inl (ap (λ b. b && is_within ns ms) w.0 ∙ e)
    by (inr e) = inr (ap (λ (k : List ℕ). k ∷ ns) ((bytes_eq-Decides n m).0 w.0) ∙ ap (λ (ks : Place). m ∷ ks) e)

-- ---- the tree without the child
module _ (table : List Branch) (sound : IsSound table) (holder : ℕ) (name : List ℕ) (lt : holder < length table) (place : Place) (stands : at_end table (Dir 0) place ≡ Some (Dir holder)) where
  abbrev new : List Branch
  new = without_named table holder name

  at_holder : branch_at new holder ≡ without_name name (branch_at table holder)
  at_holder = at_put table holder (without_name name (branch_at table holder)) lt

  at_other : (i : ℕ) → i ≢ holder → branch_at new i ≡ branch_at table i
  at_other = at_others table holder (without_name name (branch_at table holder)) lt

  abbrev at : Place
  at = place ++ name ∷ []

  not_within : (front : Place) (last : List ℕ) → is_within at front ≡ false → at ≢ front ++ last ∷ [] → is_within at (front ++ last ∷ []) ≡ false
  not_within front last no_front ne = by (is_within at (front ++ last ∷ [])) refl
    where
      by : (b : Bool) → is_within at (front ++ last ∷ []) ≡ b → is_within at (front ++ last ∷ []) ≡ false
      by true h = ⊎_elim (λ w. absurd (false≢true (sym no_front ∙ w))) (λ same. absurd (ne same)) (within-last at front last h)
      by false h = h

  -- what isn't in the holder stays
  kept : (front : Place) (last : List ℕ) (o : Option Child) → is_within at front ≡ false → at ≢ front ++ last ∷ [] → o ≡ option_and_then (λ x. child_of table x last) (at_end table (Dir 0) front)
      → o ≡ (if is_within at (front ++ last ∷ []) then None else at_end table (Dir 0) (front ++ last ∷ []))
  kept front last o no_front ne e =
      e ∙ sym (at_end-append table (Dir 0) front last)
      ∙ sym (ap (λ (b : Bool). if b then None else at_end table (Dir 0) (front ++ last ∷ [])) (not_within front last no_front ne))

  aside : (front : Place) (last : List ℕ) → at_end table (Dir 0) front ≢ Some (Dir holder) → at ≢ front ++ last ∷ []
  aside front last ne e = ne (ap (at_end table (Dir 0)) (sym (same_front place front name last e)) ∙ stands)

  in_holder : (front : Place) (last : List ℕ) → is_within at front ≡ false → front ≡ place → (last ≡ name) ⊎ (last ≢ name)
      → child_named (children_at new holder) last ≡ (if is_within at (front ++ last ∷ []) then None else at_end table (Dir 0) (front ++ last ∷ []))
  in_holder front last no_front same (inl e) =
      ap (child_named (children_at new holder)) e ∙ ap (λ (b : Branch). child_named b.children name) at_holder ∙ gone name (children_at table holder)
      ∙ sym (ap (λ (b : Bool). if b then None else at_end table (Dir 0) (front ++ last ∷ []))
      (ap (is_within at) (ap (λ (p : Place). p ++ last ∷ []) same ∙ ap (λ (n : List ℕ). place ++ n ∷ []) e) ∙ within-refl at))
  in_holder front last no_front same (inr ne) =
      kept front last (child_named (children_at new holder) last) no_front (λ e. ne (sym (same_last place front name last e)))
      (ap (λ (b : Branch). child_named b.children last) at_holder ∙ stays name last ne (children_at table holder)
      ∙ sym (ap (option_and_then (λ x. child_of table x last)) (ap (at_end table (Dir 0)) same ∙ stands)))

  below : (front : Place) (last : List ℕ) → is_within at front ≡ false → (o : Option Child) → at_end table (Dir 0) front ≡ o
      → option_and_then (λ x. child_of new x last) o ≡ (if is_within at (front ++ last ∷ []) then None else at_end table (Dir 0) (front ++ last ∷ []))
  below front last no_front None e =
      kept front last None no_front (aside front last (λ h. let z : None ≡ Some (Dir holder) = sym e ∙ h in cc)) (sym (ap (option_and_then (λ x. child_of table x last)) e))
  below front last no_front (Some (File len)) e =
      kept front last None no_front (aside front last (λ h. let z : Some (File len) ≡ Some (Dir holder) = sym e ∙ h in cc)) (sym (ap (option_and_then (λ x. child_of table x last)) e))
  below front last no_front (Some (Link target)) e =
      kept front last None no_front (aside front last (λ h. let z : Some (Link target) ≡ Some (Dir holder) = sym e ∙ h in cc)) (sym (ap (option_and_then (λ x. child_of table x last)) e))
  below front last no_front (Some (Dir k)) e = by (cases_eq k holder)
    where
      by : (k ≡ holder) ⊎ (k ≢ holder) → child_named (children_at new k) last ≡ (if is_within at (front ++ last ∷ []) then None else at_end table (Dir 0) (front ++ last ∷ []))
      by (inl h) =
          ap (λ j. child_named (children_at new j) last) h
          ∙ in_holder front last no_front (one_place table sound place front holder stands (e ∙ ap (λ j. Some (Dir j)) h)) (name_cases last name)
      by (inr ne) =
          kept front last (child_named (children_at new k) last) no_front (aside front last (λ h. ne (same_dir k holder (sym e ∙ h))))
          (ap (λ (b : Branch). child_named b.children last) (at_other k ne) ∙ sym (ap (option_and_then (λ x. child_of table x last)) e))

  -- nothing is at its place or below, and all else is where it was
  at_end-removed : (q : Place) → at_end new (Dir 0) q ≡ (if is_within at q then None else at_end table (Dir 0) q)
  at_end-removed = by_last (λ q. at_end new (Dir 0) q ≡ (if is_within at q then None else at_end table (Dir 0) q)) (first place) more
    where
      first : (p : Place) → Some (Dir 0) ≡ (if is_within (p ++ name ∷ []) [] then None else Some (Dir 0))
      first [] = refl
      first (n ∷ ns) = refl

      more : (front : Place) (last : List ℕ) → at_end new (Dir 0) front ≡ (if is_within at front then None else at_end table (Dir 0) front)
          → at_end new (Dir 0) (front ++ last ∷ []) ≡ (if is_within at (front ++ last ∷ []) then None else at_end table (Dir 0) (front ++ last ∷ []))
      more front last hyp = at_end-append new (Dir 0) front last ∙ ap (option_and_then (λ x. child_of new x last)) hyp ∙ by (cases_Bool (is_within at front))
        where
          by : (is_within at front ≡ true) ⊎ (is_within at front ≡ false)
              → option_and_then (λ x. child_of new x last) (if is_within at front then None else at_end table (Dir 0) front)
              ≡ (if is_within at (front ++ last ∷ []) then None else at_end table (Dir 0) (front ++ last ∷ []))
          by (inl w) =
              ap (λ (b : Bool). option_and_then (λ x. child_of new x last) (if b then None else at_end table (Dir 0) front)) w
              ∙ sym (ap (λ (b : Bool). if b then None else at_end table (Dir 0) (front ++ last ∷ [])) (within-append at front last w))
          by (inr out) =
              ap (λ (b : Bool). option_and_then (λ x. child_of new x last) (if b then None else at_end table (Dir 0) front)) out
              ∙ below front last out (at_end table (Dir 0) front) refl

  pub tree-removed : (q : Place) → tree_of_table new q ≡ without_child (record { holder = place; name = name }) (tree_of_table table) q
  tree-removed q = ap (option_map (node_of new)) (at_end-removed q) ∙ by (is_within at q)
    where
      kept_node : (o : Option Child) → at_end table (Dir 0) q ≡ o
          → option_map (node_of new) o ≡ (if same_place q place then renamed (filter (λ n. not (bytes_eq n name))) (option_map (node_of table) o) else option_map (node_of table) o)
      kept_node None e = same_branches (same_place q place) None
      kept_node (Some (File len)) e = same_branches (same_place q place) (Some (file len))
      kept_node (Some (Link target)) e = same_branches (same_place q place) (Some (link target))
      kept_node (Some (Dir k)) e = choose (cases_eq k holder)
        where
          choose : (k ≡ holder) ⊎ (k ≢ holder)
              → Some (node_of new (Dir k)) ≡ (if same_place q place then Some (directory (filter (λ n. not (bytes_eq n name)) (names_of (children_at table k))) (denied_at table k)) else Some (node_of table (Dir k)))
          choose (inl h) =
              ap (λ j. Some (node_of new (Dir j))) h ∙ ap (λ (b : Branch). Some (directory (names_of b.children) b.denied)) at_holder
              ∙ ap (λ (ns : List (List ℕ)). Some (directory ns (denied_at table holder))) (names-without name (children_at table holder))
              ∙ ap (λ j. Some (directory (filter (λ n. not (bytes_eq n name)) (names_of (children_at table j))) (denied_at table j))) (sym h)
              ∙ sym (ap (λ (b : Bool). if b then Some (directory (filter (λ n. not (bytes_eq n name)) (names_of (children_at table k))) (denied_at table k)) else Some (node_of table (Dir k)))
              (ap (λ (p : Place). same_place p place) (one_place table sound place q holder stands (e ∙ ap (λ j. Some (Dir j)) h)) ∙ same_place-refl place))
          choose (inr ne) =
              ap (λ (b : Branch). Some (directory (names_of b.children) b.denied)) (at_other k ne)
              ∙ sym (ap (λ (b : Bool). if b then Some (directory (filter (λ n. not (bytes_eq n name)) (names_of (children_at table k))) (denied_at table k)) else Some (node_of table (Dir k)))
              (same_place-false q place (λ h. ne (same_dir k holder (sym e ∙ ap (at_end table (Dir 0)) h ∙ stands)))))

      by : (b : Bool) → option_map (node_of new) (if b then None else at_end table (Dir 0) q)
          ≡ (if b then None else if same_place q place then renamed (filter (λ n. not (bytes_eq n name))) (tree_of_table table q) else tree_of_table table q)
      by true = refl
      by false = kept_node (at_end table (Dir 0) q) refl

-- ---- what the definition returns
-- the tree without the child of the table
pub record IsTaken (table : List Branch) (answer : Result Tree Refusal) (holder : ℕ) (name : List ℕ) : Type 0 where
  pub place : Place
  pub stands : at_end table (Dir 0) place ≡ Some (Dir holder)
  pub answer_is : answer ≡ Ok (without_child (record { holder = place; name = name }) (tree_of_table table))

-- Both fail, or both found the same child.
abbrev pub RemovesAlike : List Branch → Result Tree Refusal → Option (ℕ × List ℕ) → Type 0
RemovesAlike table answer None = answer ≡ Err not_found
RemovesAlike table answer (Some t) = IsTaken table answer t.0 t.1

module _ (table : List Branch) where
  in_directory : (s : Spot) (holder : ℕ) → at_end table (Dir 0) s.holder ≡ Some (Dir holder) → (o : Option Child) → at_end table (Dir 0) (place_of s) ≡ o
      → RemovesAlike table (remove_at (tree_of_table table) (Some s)) (if is_some o then Some (holder, s.name) else None)
  in_directory s holder stands None q =
      ap (λ (o : Option Child). if is_some (option_map (node_of table) o) then Ok (without_child s (tree_of_table table)) else Err not_found) q
  in_directory s holder stands (Some x) q = record {
    place = s.holder;
    stands = stands;
    answer_is = ap (λ (o : Option Child). if is_some (option_map (node_of table) o) then Ok (without_child s (tree_of_table table)) else Err not_found) q;
  }

  alike : (s : Option Spot) (t : Option (ℕ × List ℕ)) → SpotsAgree table s t → RemovesAlike table (remove_at (tree_of_table table) s) (if_taken table t)
  alike None None agree = refl
  alike None (Some t) agree = absurd agree
  alike (Some s) None agree = absurd agree
  alike (Some s) (Some t) agree =
      subst (λ (n : List ℕ). RemovesAlike table (remove_at (tree_of_table table) (Some s)) (if_taken table (Some (t.0, n)))) agree.1
      (in_directory s t.0 agree.0 (child_named (children_at table t.0) s.name) (at_end-append table (Dir 0) s.holder s.name ∙ ap (option_and_then (λ x. child_of table x s.name)) agree.0))

  pub remove_alike : IsSound table → (path : List ℕ) → RemovesAlike table (remove path (tree_of_table table)) (taken_spot table (components path))
  remove_alike sound path = alike (spot_of (tree_of_table table) path) (named_spot table (components path)) (spots_agree table sound path)

module _ (table : List Branch) (sound : IsSound table) (path : List ℕ) where
  -- where no child was found
  pub told-missing : taken_spot table (components path) ≡ None → (◌≡◌ {A = Result (Unit {0}) BuildError} (Err NotFound) (Err NotFound)) ↔ (remove path (tree_of_table table) ≡ Err not_found)
  told-missing is = (λ h. subst (RemovesAlike table (remove path (tree_of_table table))) is (remove_alike table sound path), λ h. refl)

  -- where one was
  pub found-taken : (holder : ℕ) (name : List ℕ) → taken_spot table (components path) ≡ Some (holder, name) → IsTaken table (remove path (tree_of_table table)) holder name
  found-taken holder name is = subst (RemovesAlike table (remove path (tree_of_table table))) is (remove_alike table sound path)

  pub told-taken : (holder : ℕ) (name : List ℕ) → taken_spot table (components path) ≡ Some (holder, name)
      → (result : Result (Unit {0}) BuildError) → (result ≡ Err NotFound → ⊥) → (result ≡ Err NotFound) ↔ (remove path (tree_of_table table) ≡ Err not_found)
  told-taken holder name is result other =
      (λ h. absurd (other h), λ h. let z : ◌≡◌ {A = Result Tree Refusal} (Ok _) (Err not_found) = sym (found-taken holder name is).answer_is ∙ h in cc)

  pub built-removed : (holder : ℕ) (name : List ℕ) → taken_spot table (components path) ≡ Some (holder, name) → holder < length table → (new : List Branch) (left : List ℕ) → IsRemoved table holder name new left
      → IsBuilt (remove path (tree_of_table table)) (tree_of_table new)
  built-removed holder name is lt new left removed =
      let taken = found-taken holder name is in
      subst (λ (a : Result Tree Refusal). IsBuilt a (tree_of_table new)) (sym taken.answer_is) (λ q. removed.tree q ∙ tree-removed table sound holder name lt taken.place taken.stands q)

  -- the holder isn't free
  pub holder-kept : (free : List ℕ) (done : ℕ) → AreSpare table free done → (holder : ℕ) (name : List ℕ) → taken_spot table (components path) ≡ Some (holder, name)
      → (k : ℕ) → k < length free → slice_index_or free k 0 ≢ holder
  holder-kept free done spare holder name is k h e =
      let taken = found-taken holder name is in
      not_loose table taken.place holder taken.stands (subst (IsLoose table) e (spare.loose k h))

-- whether the child was removed or not
pub sound-left : (r : Result (Unit {0}) AllocError) (table : List Branch) (holder : ℕ) (name : List ℕ) (new : List Branch) (left : List ℕ) → IsSound table
    → OnOk r (IsRemoved table holder name new left) → OnErr r (new ≡ table) → IsSound new
sound-left (Ok u) table holder name after left sound ok err = ok.sound
sound-left (Err e) table holder name after left sound ok err = subst IsSound (sym err) sound

pub spare-left : (r : Result (Unit {0}) AllocError) (table : List Branch) (free : List ℕ) (holder : ℕ) (name : List ℕ) (new : List Branch) (left : List ℕ) → AreSpare table free (length free)
    → OnOk r (IsRemoved table holder name new left) → OnErr r (new ≡ table) → OnErr r (left ≡ free) → AreSpare new left (length left)
spare-left (Ok u) table free holder name after left spare ok err kept = ok.spare
spare-left (Err e) table free holder name after left spare ok err kept =
    subst (λ (ks : List ℕ). AreSpare after ks (length ks)) (sym kept) (subst (λ (t : List Branch). AreSpare t free (length free)) (sym err) spare)
