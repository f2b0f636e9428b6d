-- What is yielded where entries are held back.
use Rattle.std.proofs.Common.{◌≡◌, ◌≤◌, ◌<◌, ◌+◌, ℕ, zero, suc, Bool, true, false, List, [], ◌∷◌, ◌++◌, length, Option, Some, None, Ok, Err, inl, inr, refl, sym, ap, ap₂, ◌∙◌, append_assoc, arith}
use Rattle.std.specs.Prelude.{nat_lt, not, ◌&&◌}
use Rattle.std.proofs.lemmas.Bool.Decides.{leb_tells, nat_tests}
use Rattle.jwalk_model.specs.Entry.{Entry, Item}
use Rattle.jwalk_model.specs.Error.{Failure}
use Rattle.jwalk_contents_first.specs.ContentsFirst.{depth_at, below, beyond, each_behind, contents_first}
use Rattle.jwalk_contents_first.specs.Coming.{is_above, last_of, left_of, let_out_of, takes_last, Ascends, SwapsLast, closing}

pub deeper : (d c : ℕ) → nat_lt d c ≡ true → d < c
deeper d c is = grind (arith, nat_tests)

seam : {X : Type 0} (a : List X) (x : X) (b : List X) (y : X) (c : List X) → (a ++ (x ∷ b)) ++ (y ∷ c) ≡ a ++ (x ∷ (b ++ (y ∷ c)))
seam a x b y c = append_assoc a (x ∷ b) (y ∷ c)

and_not : (a b : Bool) → (a && not b) ≡ true → (a ≡ true) × (b ≡ false)
and_not true true is = absurd (cc is)
and_not true false is = (refl, refl)
and_not false b is = absurd (cc is)

pub and_not_true : (a b : Bool) → b ≡ true → (a && not b) ≡ false
and_not_true true b is = ap not is
and_not_true false b is = refl

pub and_not_false : (a b : Bool) → b ≡ false → (a && not b) ≡ a
and_not_false true b is = ap not is
and_not_false false b is = refl

module _ {R E : Type 0} where
  pub length_below : (d : ℕ) (l : List (Item R E)) → length (below d l) ≤ length l
  length_below d [] = omega arith
  length_below d (x ∷ l) = elim (leb_tells (suc d) (depth_at x)) [
    | inl h ↦ rw h.0 (omega (arith, length_below d l))
    | inr h ↦ rw h.0 (omega arith)
  ]

  pub length_beyond : (d : ℕ) (l : List (Item R E)) → length (beyond d l) ≤ length l
  length_beyond d [] = omega arith
  length_beyond d (x ∷ l) = elim (leb_tells (suc d) (depth_at x)) [
    | inl h ↦ rw h.0 (omega (arith, length_beyond d l))
    | inr h ↦ rw h.0 (omega arith)
  ]

  pub below_and_beyond : (d : ℕ) (l : List (Item R E)) → below d l ++ beyond d l ≡ l
  below_and_beyond d [] = refl
  below_and_beyond d (x ∷ l) = elim (leb_tells (suc d) (depth_at x)) [
    | inl h ↦ rw h.0 (ap (λ m. x ∷ m) (below_and_beyond d l))
    | inr h ↦ rw h.0 refl
  ]

  pub below_below : (d c : ℕ) → d ≤ c → (l : List (Item R E)) → below c (below d l) ≡ below c l
  below_below d c le [] = refl
  below_below d c le (x ∷ l) = elim (leb_tells (suc d) (depth_at x)) [
    | inl h ↦ elim (leb_tells (suc c) (depth_at x)) [
      | inl k ↦ rw (h.0, k.0) (ap (λ m. x ∷ m) (below_below d c le l))
      | inr k ↦ rw (h.0, k.0) refl
    ]
    | inr h ↦ elim (leb_tells (suc c) (depth_at x)) [
      | inl k ↦ absurd (omega (arith, le, h.1, k.1))
      | inr k ↦ rw (h.0, k.0) refl
    ]
  ]

  pub beyond_below : (d c : ℕ) → d ≤ c → (l : List (Item R E)) → beyond c (below d l) ≡ below d (beyond c l)
  beyond_below d c le [] = refl
  beyond_below d c le (x ∷ l) = elim (leb_tells (suc d) (depth_at x)) [
    | inl h ↦ elim (leb_tells (suc c) (depth_at x)) [
      | inl k ↦ rw (h.0, k.0) (beyond_below d c le l)
      | inr k ↦ rw (h.0, k.0, h.0) refl
    ]
    | inr h ↦ elim (leb_tells (suc c) (depth_at x)) [
      | inl k ↦ absurd (omega (arith, le, h.1, k.1))
      | inr k ↦ rw (h.0, k.0, h.0) refl
    ]
  ]

  pub beyond_beyond : (d c : ℕ) → d ≤ c → (l : List (Item R E)) → beyond d (beyond c l) ≡ beyond d l
  beyond_beyond d c le [] = refl
  beyond_beyond d c le (x ∷ l) = elim (leb_tells (suc c) (depth_at x)) [
    | inl k ↦ elim (leb_tells (suc d) (depth_at x)) [
      | inl h ↦ rw (k.0, h.0) (beyond_beyond d c le l)
      | inr h ↦ absurd (omega (arith, le, h.1, k.1))
    ]
    | inr k ↦ rw k.0 refl
  ]

  -- a greater limit gives the same
  pub same_limit : (n m : ℕ) (l : List (Item R E)) → length l ≤ n → length l ≤ m → each_behind n l ≡ each_behind m l
  same_limit zero zero l p q = refl
  same_limit zero (suc m) [] p q = refl
  same_limit (suc n) zero [] p q = refl
  same_limit (suc n) (suc m) [] p q = refl
  same_limit zero (suc m) (x ∷ l) p q = absurd (omega arith)
  same_limit (suc n) zero (x ∷ l) p q = absurd (omega arith)
  same_limit (suc n) (suc m) (Err f ∷ l) p q = ap (λ k. Err f ∷ k) (same_limit n m l (omega arith) (omega arith))
  same_limit (suc n) (suc m) (Ok e ∷ l) p q =
      ap₂ (λ a b. a ++ (Ok e ∷ b))
      (same_limit n m (below e.depth l) (omega (arith, length_below e.depth l)) (omega (arith, length_below e.depth l)))
      (same_limit n m (beyond e.depth l) (omega (arith, length_beyond e.depth l)) (omega (arith, length_beyond e.depth l)))

  -- an entry comes behind what is below it, and before the rest
  pub entry_behind : (e : Entry R E) (l : List (Item R E)) → contents_first (Ok e ∷ l) ≡ contents_first (below e.depth l) ++ (Ok e ∷ contents_first (beyond e.depth l))
  entry_behind e l =
      ap₂ (λ a b. a ++ (Ok e ∷ b))
      (same_limit (length l) (length (below e.depth l)) (below e.depth l) (length_below e.depth l) (omega arith))
      (same_limit (length l) (length (beyond e.depth l)) (beyond e.depth l) (length_beyond e.depth l) (omega arith))

  -- Nothing of what comes is below the last entry that is held back, which is let out.
  let_out_first : (e : Entry R E) (es : List (Entry R E)) (l : List (Item R E)) → below e.depth l ≡ [] → closing (e ∷ es) l ≡ Ok e ∷ closing es l
  let_out_first e es l none =
      let whole : beyond e.depth l ≡ l = ap (λ m. m ++ beyond e.depth l) (sym none) ∙ below_and_beyond e.depth l in
      rw (none, whole) refl

  none_below : (d : ℕ) (x : Item R E) (l : List (Item R E)) → nat_lt d (depth_at x) ≡ false → below d (x ∷ l) ≡ []
  none_below d x l not = rw not refl

  -- an entry is let out, since the answer that waits isn't below it
  pub let_out_for : (es : List (Entry R E)) (x : Item R E) (l : List (Item R E)) → is_above (depth_at x) es ≡ false → closing es (x ∷ l) ≡ let_out_of es ++ closing (left_of es) (x ∷ l)
  let_out_for [] x l not = absurd (cc not)
  let_out_for (e ∷ es) x l not = let_out_first e es (x ∷ l) (none_below e.depth x l not)

  -- an entry is let out, since the walk has ended
  pub let_out_last : (es : List (Entry R E)) → closing es [] ≡ let_out_of es ++ closing (left_of es) []
  let_out_last [] = refl
  let_out_last (e ∷ es) = let_out_first e es [] refl

  -- an error is yielded
  pub error_first : (f : Failure) (es : List (Entry R E)) (l : List (Item R E)) → is_above (depth_at {R = R} {E = E} (Err f)) es ≡ true → closing es (Err f ∷ l) ≡ Err f ∷ closing es l
  error_first f [] l above = refl
  error_first f (e ∷ es) l above = rw above refl

  -- an entry is held back
  pub held_back : (e : Entry R E) (es : List (Entry R E)) (l : List (Item R E)) → is_above e.depth es ≡ true → closing es (Ok e ∷ l) ≡ closing (e ∷ es) l
  held_back e [] l above = entry_behind e l
  held_back e (d ∷ es) l above =
      let le : d.depth ≤ e.depth = omega (arith, deeper d.depth e.depth above) in
      rw above
      (ap (λ m. m ++ (Ok d ∷ closing es (beyond d.depth l))) (entry_behind e (below d.depth l))
      ∙ seam (contents_first (below e.depth (below d.depth l))) (Ok e) (contents_first (beyond e.depth (below d.depth l))) (Ok d) (closing es (beyond d.depth l))
      ∙ ap₂ (λ a b. contents_first a ++ (Ok e ∷ (contents_first b ++ (Ok d ∷ closing es (beyond d.depth l))))) (below_below d.depth e.depth le l) (beyond_below d.depth e.depth le l)
      ∙ ap (λ m. contents_first (below e.depth l) ++ (Ok e ∷ (contents_first (below d.depth (beyond e.depth l)) ++ (Ok d ∷ closing es m)))) (sym (beyond_beyond d.depth e.depth le l)))

  -- ---- what is held back

  -- there is one entry less
  pub one_less : (es : List (Entry R E)) → 0 < length es → length (left_of es) + 1 ≡ length es
  one_less [] some = absurd (omega arith)
  one_less (e ∷ es) some = omega arith

  -- some entry is held back if the last isn't above something
  pub some_held : (depth : ℕ) (es : List (Entry R E)) → is_above depth es ≡ false → 0 < length es
  some_held depth [] not = absurd (cc not)
  some_held depth (e ∷ es) not = omega arith

  -- what is let out, if anything is
  pub some_popped : (e : Entry R E) (es : List (Entry R E)) → Some e ≡ last_of es → 0 < length es
  some_popped e [] is = absurd (cc is)
  some_popped e (d ∷ es) is = omega arith

  pub yields_popped : (e : Entry R E) (es : List (Entry R E)) → Some e ≡ last_of es → ◌≡◌ {A = List (Item R E)} (Ok e ∷ []) (let_out_of es)
  yields_popped e [] is = absurd (cc is)
  yields_popped e (d ∷ es) is = cc is

  pub none_popped : (es : List (Entry R E)) → ◌≡◌ {A = Option (Entry R E)} None (last_of es) → es ≡ []
  none_popped [] is = refl
  none_popped (d ∷ es) is = absurd (cc is)

  pub left_ascends : (es : List (Entry R E)) → Ascends es → Ascends (left_of es)
  left_ascends [] h = tt
  left_ascends (e ∷ []) h = tt
  left_ascends (e ∷ d ∷ es) h = h.1

  pub more_ascends : (e : Entry R E) (es : List (Entry R E)) → is_above e.depth es ≡ true → Ascends es → Ascends (e ∷ es)
  more_ascends e [] above h = tt
  more_ascends e (d ∷ es) above h = (deeper d.depth e.depth above, h)

  -- what can take the place of the last is below the one before, and not below the last
  pub fits_last : (depth : ℕ) (es : List (Entry R E)) → takes_last depth es ≡ true → (is_above depth (left_of es) ≡ true) × (is_above depth es ≡ false)
  fits_last depth es takes = and_not (is_above depth (left_of es)) (is_above depth es) takes

  -- an entry takes the place of the last, which is let out for it
  pub swapped_first : (found out : Entry R E) (es new : List (Entry R E)) (l : List (Item R E)) → takes_last found.depth es ≡ true → SwapsLast found es out new → closing es (Ok found ∷ l) ≡ Ok out ∷ closing new l
  swapped_first found out es new l takes c =
      let fits = fits_last found.depth es takes in
      let_out_for es (Ok found) l fits.1
      ∙ ap₂ (λ a b. a ++ b) (sym (yields_popped out es (sym c.last))) (held_back found (left_of es) l fits.0 ∙ ap (λ m. closing m l) (sym c.taken))
