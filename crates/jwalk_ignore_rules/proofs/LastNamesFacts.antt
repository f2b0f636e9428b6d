-- A table of names.
use Rattle.std.proofs.Common.{◌≡◌, ◌∙◌, ℕ, Bool, true, false, cond, List, [], ◌∷◌, Option, Some, None, ap, refl, sym}
use Rattle.std.specs.Prelude.{bytes_eq}
use Rattle.std.specs.BTreeMap.{insert_entry}
use Rattle.std.specs.Cmp.Lexicographic.{slice_cmp}
use Rattle.std.specs.Map.{lookup}
use Rattle.std.specs.Ordering.{is_eq, nat_cmp}
use Rattle.std.specs.declared.cmp.Ordering.{Ordering}
use Rattle.std.specs.declared.cmp.Ordering.TheVariants.{Less, Equal, Greater}
use Rattle.std.proofs.lemmas.Map.Lookups.{exact_bytes}
use Rattle.std.proofs.lemmas.Map.Text.{is_eq-slice_cmp}
use Rattle.std.proofs.lemmas.Slice.Eq.{bytes_eq-Decides}

module _ {K : Type 0} (view : K → List ℕ) where
  -- keys in the order of their names
  abbrev order : K → K → Ordering
  order x y = slice_cmp nat_cmp (view x) (view y)

  -- the same key, by either side
  same_key : (x y : K) → order x y ≡ Equal → (name : List ℕ) → bytes_eq name (view x) ≡ is_eq (slice_cmp nat_cmp name (view y))
  same_key x y is name = ap (bytes_eq name) (exact_bytes (view x) (view y) is) ∙ sym (is_eq-slice_cmp name (view y))

  -- two keys that differ aren't both a name
  apart_keys : (x y : K) → order x y ≡ Greater → (name : List ℕ) → is_eq (slice_cmp nat_cmp name (view y)) ≡ true → bytes_eq name (view x) ≡ true → ⊥
  apart_keys x y greater name at_y at_x =
      let at_own : name ≡ view x = (bytes_eq-Decides name (view x)).0 at_x in
      let at_other : name ≡ view y = (bytes_eq-Decides name (view y)).0 (sym (is_eq-slice_cmp name (view y)) ∙ at_y) in
      let same : bytes_eq (view x) (view y) ≡ true = (bytes_eq-Decides (view x) (view y)).1 (sym at_own ∙ at_other) in
      let clash : true ≡ false = sym same ∙ sym (is_eq-slice_cmp (view x) (view y)) ∙ ap is_eq greater in
      cc

module _ {K X : Type 0} (view : K → List ℕ) where
  -- what is found for a name
  abbrev pub found : List ℕ → List (K × X) → Option X
  found name entries = lookup (λ key. is_eq (slice_cmp nat_cmp name (view key))) entries

  one_put : (b : Bool) (v : X) (old : Option X) (c : Bool) → b ≡ c → cond b (Some v) old ≡ cond c (Some v) old
  one_put b v old c is = ap (λ (d : Bool). cond d (Some v) old) is

  over_old : (b : Bool) (v w : X) (old : Option X) → cond b (Some v) old ≡ cond b (Some v) (cond b (Some w) old)
  over_old true v w old = refl
  over_old false v w old = refl

  beside : (b c : Bool) (v w : X) (old : Option X) → (b ≡ true → c ≡ true → ⊥) → cond b (Some w) (cond c (Some v) old) ≡ cond c (Some v) (cond b (Some w) old)
  beside true true v w old apart = absurd (apart refl refl)
  beside true false v w old apart = refl
  beside false c v w old apart = refl

  inserted_at : (k : K) (v : X) (name : List ℕ) (e : K × X) (es : List (K × X)) (r : Ordering) → order view k e.0 ≡ r
      → found name (insert_entry (order view) es k v) ≡ cond (bytes_eq name (view k)) (Some v) (found name es)
      → found name (insert_entry (order view) (e ∷ es) k v) ≡ cond (bytes_eq name (view k)) (Some v) (found name (e ∷ es))
  inserted_at k v name e es Less is rest = simp is (one_put _ v (found name (e ∷ es)) _ (is_eq-slice_cmp name (view k)))
  inserted_at k v name e es Equal is rest =
      simp is (over_old (is_eq (slice_cmp nat_cmp name (view e.0))) v e.1 (found name es)
      ∙ sym (one_put _ v (found name (e ∷ es)) _ (same_key view k e.0 is name)))
  inserted_at k v name e es Greater is rest =
      simp is (ap (λ (old : Option X). cond (is_eq (slice_cmp nat_cmp name (view e.0))) (Some e.1) old) rest
      ∙ beside (is_eq (slice_cmp nat_cmp name (view e.0))) (bytes_eq name (view k)) v e.1 (found name es) (apart_keys view k e.0 is name))

  -- a new entry is found by its name, and others as before
  pub inserted : (k : K) (v : X) (name : List ℕ) (es : List (K × X)) → found name (insert_entry (order view) es k v) ≡ cond (bytes_eq name (view k)) (Some v) (found name es)
  inserted k v name [] = one_put _ v None _ (is_eq-slice_cmp name (view k))
  inserted k v name (e ∷ es) = inserted_at k v name e es (order view k e.0) refl (inserted k v name es)
