-- A stable sort by a number of each name leaves what ties by name in its order.
use Rattle.std.proofs.Common.{◌≡◌, ℕ, Bool, true, false, cond, not, ◌&&◌, List, [], ◌∷◌, drop, Ok, Err, refl, sym, ap, ◌∙◌}
use Rattle.std.specs.List.{filter}
use Rattle.std.specs.List.Sorted.{IsStableBy, IsStableByKey, ties}
use Rattle.std.specs.Cmp.Lexicographic.{slice_cmp}
use Rattle.std.specs.Ordering.{nat_cmp, is_lt}
use Rattle.std.specs.FinMap.{nat_cmp-IsAntisymmetric, slice_cmp-IsAntisymmetric}
use Rattle.std.specs.declared.cmp.Ordering.{Ordering}
use Rattle.std.specs.declared.cmp.Ordering.TheVariants.{Less, Equal, Greater}
use Rattle.std.proofs.lemmas.Cmp.{nat_cmp_total, nat_list_cmp_total}
use Rattle.std.proofs.lemmas.List.Sorted.{ranks_by}
use Rattle.jwalk_model.specs.Entry.{Item}
use Rattle.jwalk_model.specs.Sorting.{stands_before}
use Rattle.jwalk_job.specs.Sorting.{number, key_of}

module _ {X : Type 0} (p q : X → Bool) (within : (x : X) → p x ≡ true → q x ≡ true) where
  within_by : (x : X) (us vs : List X) (a b : Bool) → p x ≡ a → q x ≡ b → filter p us ≡ vs → filter p (cond b (x ∷ us) us) ≡ cond a (x ∷ vs) vs
  within_by x us vs a true e h k = rw (e, k) refl
  within_by x us vs true false e h k = let f = within x e in cc
  within_by x us vs false false e h k = k

  -- what p keeps, q keeps too
  filter_within : (l : List X) → filter p (filter q l) ≡ filter p l
  filter_within [] = refl
  filter_within (x ∷ xs) = within_by x (filter q xs) (filter p xs) (p x) (q x) refl refl (filter_within xs)

same_bytes : (a b : List ℕ) (o r : Ordering) → slice_cmp nat_cmp a b ≡ o → slice_cmp nat_cmp b a ≡ r → (not (is_lt o) && not (is_lt r)) ≡ true → a ≡ b
same_bytes a b Less r e f h = cc
same_bytes a b Equal r e f h = slice_cmp-IsAntisymmetric nat_cmp-IsAntisymmetric a b e
same_bytes a b Greater r e f h = let g = nat_list_cmp_total.antisymm b a in cc

itself : (n : ℕ) (b : Bool) → is_lt (nat_cmp n n) ≡ b → ties (λ (x y : ℕ). is_lt (nat_cmp x y)) n n ≡ true
itself n true e = let f = (ranks_by nat_cmp_total (λ (x : ℕ). x)).one_way n n e in cc
itself n false e = rw e refl

module _ {R E : Type 0} (from : ℕ) where
  same_key : (x y : Item R E) → ties stands_before x y ≡ true → key_of from y ≡ key_of from x
  same_key (Ok d) (Ok e) h = ap (λ name. number (drop from name)) (sym (same_bytes d.file_name e.file_name _ _ refl refl h))
  same_key (Ok d) (Err g) h = cc
  same_key (Err f) (Ok e) h = cc
  same_key (Err f) (Err g) h = refl

  tied_keys : (x y : Item R E) → ties stands_before x y ≡ true → ties (λ (a b : Item R E). is_lt (nat_cmp (key_of from a) (key_of from b))) x y ≡ true
  tied_keys x y h = rw (same_key x y h) (itself (key_of from x) _ refl)

  pub ties_kept : {T : Type 0} (item : T → Item R E) (l m : List T) → IsStableByKey (λ x. key_of from (item x)) nat_cmp l m → IsStableBy (λ a b. stands_before (item a) (item b)) l m
  ties_kept {T = T} item l m h x =
      let p : T → Bool = ties (λ a b. stands_before (item a) (item b)) x in
      let q : T → Bool = ties (λ a b. is_lt (nat_cmp (key_of from (item a)) (key_of from (item b)))) x in
      let within : (y : T) → p y ≡ true → q y ≡ true = λ y. tied_keys (item x) (item y) in
      sym (filter_within p q within m) ∙ ap (filter p) (h x) ∙ filter_within p q within l
