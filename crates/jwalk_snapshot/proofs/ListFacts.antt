-- Reading values one after the other, as a loop does.
use Rattle.std.proofs.Common.{◌≡◌, ℕ, zero, suc, ◌-◌, ◌+◌, ◌^◌, ◌≤◌, ◌<◌, cond, ltb, List, [], ◌∷◌, ◌++◌, length, map, get_or, drop, Option, Some, None, refl, sym, ap, subst, ◌∙◌, append_assoc, arith}
use Rattle.std.specs.List.{sum_by, flat_map, AllByRecursion}
use Rattle.std.proofs.lemmas.Bool.{lt-ltb, le-ltb}
use Rattle.std.proofs.lemmas.List.Sums.{sum_by-cons, sum_by-drop_more}
use Rattle.std.proofs.lemmas.List.{append-nil, length-map, drop_all, drop_more}
use Rattle.jwalk_snapshot.specs.declared.block.Block.{Block}
use Rattle.jwalk_snapshot.specs.declared.error.SnapshotError.{SnapshotError}
use Rattle.jwalk_snapshot.specs.declared.error.SnapshotError.TheVariants.{Memory, NoSnapshot, OtherVersion, Damaged, NoText}
use Rattle.jwalk_snapshot.specs.Text.{Folder, entry_of, folder_of, count_of, count_in}
use Rattle.jwalk_snapshot.specs.Reading.{◌>>=◌, Fails, list_at}

module _ {A : Type 0} (read : List ℕ → Option (A × List ℕ)) where
  -- what was read before, and what is still read
  abbrev pub with_front : List A → Option (List A × List ℕ) → Option (List A × List ℕ)
  with_front front o = o >>= λ x. Some (front ++ x.0, x.1)

  regroup : (front : List A) (a : A) (o : Option (List A × List ℕ)) → with_front front (o >>= λ x. Some (a ∷ x.0, x.1)) ≡ with_front (front ++ a ∷ []) o
  regroup front a (Some x) = ap (λ (xs : List A). Some (xs, x.1)) (simp append_assoc)
  regroup front a None = refl

  pub goes_on : (front : List A) (count i : ℕ) (bytes : List ℕ) (a : A) (after : List ℕ) (total : Option (List A × List ℕ)) → i < count → read bytes ≡ Some (a, after)
      → with_front front (list_at read (count - i) bytes) ≡ total → with_front (front ++ a ∷ []) (list_at read (count - (i + 1)) after) ≡ total
  unfolding list_at
  goes_on front count i bytes a after total lt h so_far =
      let k : count - i ≡ suc (count - (i + 1)) = omega arith in
      let one : with_front front (list_at read (count - i) bytes) ≡ with_front (front ++ a ∷ []) (list_at read (count - (i + 1)) after) = rw (k, h) (regroup front a (list_at read (count - (i + 1)) after)) in
      sym one ∙ so_far

  pub ends : (front : List A) (count i : ℕ) (bytes : List ℕ) (total : Option (List A × List ℕ)) → i < count → read bytes ≡ None
      → with_front front (list_at read (count - i) bytes) ≡ total → total ≡ None
  unfolding list_at
  ends front count i bytes total lt h so_far =
      let k : count - i ≡ suc (count - (i + 1)) = omega arith in
      let one : with_front front (list_at read (count - i) bytes) ≡ None = rw (k, h) refl in
      sym so_far ∙ one

  pub is_done : (front : List A) (count i : ℕ) (bytes : List ℕ) (total : Option (List A × List ℕ)) → count ≤ i → with_front front (list_at read (count - i) bytes) ≡ total → total ≡ Some (front, bytes)
  unfolding list_at
  is_done front count i bytes total le so_far =
      let k : count - i ≡ 0 = omega arith in
      let one : with_front front (list_at read (count - i) bytes) ≡ Some (front, bytes) = rw k (ap (λ (xs : List A). Some (xs, bytes)) (append-nil front)) in
      sym so_far ∙ one

  pub fails : (e : SnapshotError) (front : List A) (count i : ℕ) (bytes : List ℕ) (total : Option (List A × List ℕ)) → i < count → Fails e (read bytes)
      → with_front front (list_at read (count - i) bytes) ≡ total → Fails e total
  fails Memory front count i bytes total lt h so_far = tt
  fails NoSnapshot front count i bytes total lt h so_far = absurd h
  fails OtherVersion front count i bytes total lt h so_far = absurd h
  fails Damaged front count i bytes total lt h so_far = ends front count i bytes total lt h so_far
  fails NoText front count i bytes total lt h so_far = absurd h

-- ---- counting names

abbrev pub names_in : Block → ℕ
names_in b = length b.names.items

pub count_is : (bs : List Block) → count_of (map folder_of bs) ≡ sum_by names_in bs
count_is [] = refl
count_is (b ∷ bs) =
    sum_by-cons (λ (f : Folder). length f.names) (folder_of b) (map folder_of bs)
    ∙ ap (λ (k : ℕ). k + count_of (map folder_of bs)) (length-map b.names.items entry_of)
    ∙ ap (λ (k : ℕ). length b.names.items + k) (count_is bs)
    ∙ sym (sum_by-cons names_in b bs)

pub count_fits : (bs : List Block) (n : ℕ) → n ≡ sum_by names_in bs → n < 2 ^ 64 → Some n ≡ count_in (map folder_of bs)
count_fits bs n e lt =
    let is : count_of (map folder_of bs) ≡ n = count_is bs ∙ sym e in
    sym (ap (λ (k : ℕ). cond (ltb k (2 ^ 64)) (Some k) None) is ∙ rw (lt-ltb n (2 ^ 64) lt) refl)

pub count_exceeds : (bs : List Block) → 2 ^ 64 ≤ sum_by names_in bs → None ≡ count_in (map folder_of bs)
count_exceeds bs le =
    let more : 2 ^ 64 ≤ count_of (map folder_of bs) = subst (λ (k : ℕ). 2 ^ 64 ≤ k) (sym (count_is bs)) le in
    sym (rw (le-ltb (count_of (map folder_of bs)) (2 ^ 64) more) refl)

-- the names of one more directory
pub count_on : (bs : List Block) (i : ℕ) (b : Block) (n total : ℕ) → i < length bs → b ≡ get_or bs i b → n + sum_by names_in (drop i bs) ≡ total → (n + length b.names.items) + sum_by names_in (drop (i + 1) bs) ≡ total
count_on bs i b n total lt is h =
    let e : names_in (get_or bs i b) ≡ names_in b = ap names_in (sym is) in
    omega (arith, sum_by-drop_more names_in bs i b lt, e, h)

pub count_done : (bs : List Block) (i n : ℕ) → length bs ≤ i → n + sum_by names_in (drop i bs) ≡ sum_by names_in bs → n ≡ sum_by names_in bs
count_done bs i n le h =
    let none : sum_by names_in (drop i bs) ≡ 0 = ap (sum_by names_in) (drop_all i bs le) in
    omega (arith, none, h)

-- ---- writing one value after the other, as a loop does

module _ {X A : Type 0} (f : X → A) (text : A → List ℕ) where
  pub text_more : (xs : List X) (i : ℕ) (x : X) (before after all : List ℕ) → i < length xs → x ≡ get_or xs i x → after ≡ before ++ text (f x) → before ++ flat_map text (map f (drop i xs)) ≡ all → after ++ flat_map text (map f (drop (i + 1) xs)) ≡ all
  text_more xs i x before after all lt is h so_far =
      let rest = flat_map text (map f (drop (i + 1) xs)) in
      let e : flat_map text (map f (drop i xs)) ≡ text (f x) ++ rest = ap (λ (l : List X). flat_map text (map f l)) (drop_more xs i x lt) ∙ ap (λ (y : X). text (f y) ++ rest) (sym is) in
      ap (λ (t : List ℕ). t ++ rest) h ∙ append_assoc before (text (f x)) rest ∙ ap (λ (t : List ℕ). before ++ t) (sym e) ∙ so_far

  pub text_at : (xs : List X) (i : ℕ) (d : X) (before after all : List ℕ) → i < length xs → after ≡ before ++ text (f (get_or xs i d)) → before ++ flat_map text (map f (drop i xs)) ≡ all → after ++ flat_map text (map f (drop (i + 1) xs)) ≡ all
  text_at xs i d before after all lt h so_far =
      let rest = flat_map text (map f (drop (i + 1) xs)) in
      let e : flat_map text (map f (drop i xs)) ≡ text (f (get_or xs i d)) ++ rest = ap (λ (l : List X). flat_map text (map f l)) (drop_more xs i d lt) in
      ap (λ (t : List ℕ). t ++ rest) h ∙ append_assoc before (text (f (get_or xs i d))) rest ∙ ap (λ (t : List ℕ). before ++ t) (sym e) ∙ so_far

  pub text_done : (xs : List X) (i : ℕ) (before all : List ℕ) → length xs ≤ i → before ++ flat_map text (map f (drop i xs)) ≡ all → before ≡ all
  text_done xs i before all le so_far = sym (append-nil before) ∙ ap (λ (l : List X). before ++ flat_map text (map f l)) (sym (drop_all i xs le)) ∙ so_far

module _ {X A : Type 0} (f : X → A) (P : A → Type 0) where
  pub fits_more : (xs : List X) (i : ℕ) (x : X) → i < length xs → x ≡ get_or xs i x → P (f x) → AllByRecursion P (map f (drop (i + 1) xs)) → AllByRecursion P (map f (drop i xs))
  fits_more xs i x lt is p rest =
      subst (λ (l : List X). AllByRecursion P (map f l)) (sym (drop_more xs i x lt)) (subst (λ (y : X). P (f y)) is p, rest)

  pub fits_at : (xs : List X) (i : ℕ) (d : X) → i < length xs → P (f (get_or xs i d)) → AllByRecursion P (map f (drop (i + 1) xs)) → AllByRecursion P (map f (drop i xs))
  fits_at xs i d lt p rest = subst (λ (l : List X). AllByRecursion P (map f l)) (sym (drop_more xs i d lt)) (p, rest)

  pub fits_all : (xs : List X) (i : ℕ) → length xs ≤ i → AllByRecursion P (map f (drop i xs))
  fits_all xs i le = subst (λ (l : List X). AllByRecursion P (map f l)) (sym (drop_all i xs le)) tt
