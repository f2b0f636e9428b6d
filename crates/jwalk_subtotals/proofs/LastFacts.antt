-- The last of a list is the first of its reverse.
use Rattle.std.proofs.Common.{◌≡◌, ◌-◌, ◌<◌, ℕ, List, [], ◌∷◌, ◌++◌, map, length, get_or, set, reverse, Some, None, Result, Ok, Err, refl, sym, ap, ◌∙◌, subst, arith}
use Rattle.std.specs.Prelude.{slice_get, OnOk, IfErr}
use Rattle.std.proofs.lemmas.List.{reverse-append, length-append}
use Rattle.std.proofs.Math.Seq.{set-append_seam}

module _ {X : Type 0} where
  -- A list that ends with this.
  pub record EndsWith (xs : List X) (x : X) : Type 0 where
    pub front : List X
    pub is : xs ≡ front ++ x ∷ []

  more_front : (y : X) (xs : List X) (x : X) → EndsWith xs x → EndsWith (y ∷ xs) x
  more_front y xs x h = record { front = y ∷ h.front; is = ap (λ m. y ∷ m) h.is }

  slice_get_last : (ys : List X) (z : X) → slice_get (ys ++ z ∷ []) (length ys) ≡ Some z
  slice_get_last [] z = refl
  slice_get_last (y ∷ ys) z = slice_get_last ys z

  get_or_last : (ys : List X) (z d : X) → get_or (ys ++ z ∷ []) (length ys) d ≡ z
  get_or_last [] z d = refl
  get_or_last (y ∷ ys) z d = get_or_last ys z d

  -- a list that isn't empty ends with something
  pub record HasLast (xs : List X) : Type 0 where
    pub last : X
    pub ends : EndsWith xs last

  has_last : (y : X) (xs : List X) → HasLast (y ∷ xs)
  has_last y [] = record { last = y; ends = record { front = []; is = refl } }
  has_last y (x ∷ xs) = let h = has_last x xs in record { last = h.last; ends = more_front y (x ∷ xs) h.last h.ends }

  length_before : (ys : List X) (z : X) → length (ys ++ z ∷ []) - 1 ≡ length ys
  length_before ys z = omega (arith, length-append ys (z ∷ []))

  pub none_last : (xs : List X) → slice_get xs (length xs - 1) ≡ None → xs ≡ []
  none_last [] none = refl
  none_last (y ∷ xs) none =
      let h = has_last y xs in
      let at = subst (λ l. slice_get l (length l - 1) ≡ None) h.ends.is none in
      let is = subst (λ k. slice_get (h.ends.front ++ h.last ∷ []) k ≡ None) (length_before h.ends.front h.last) at in
      absurd (cc (slice_get_last h.ends.front h.last, is))

  pub some_last : (xs : List X) (x : X) → slice_get xs (length xs - 1) ≡ Some x → EndsWith xs x
  some_last [] x some = absurd cc
  some_last (y ∷ xs) x some =
      let h = has_last y xs in
      let at = subst (λ l. slice_get l (length l - 1) ≡ Some x) h.ends.is some in
      let is = subst (λ k. slice_get (h.ends.front ++ h.last ∷ []) k ≡ Some x) (length_before h.ends.front h.last) at in
      let same : h.last ≡ x = cc (slice_get_last h.ends.front h.last, is) in
      subst (EndsWith (y ∷ xs)) same h.ends

  pub index_last : (xs : List X) (n : ℕ) (x : X) → n ≡ length xs → 0 < n → x ≡ get_or xs (n - 1) x → EndsWith xs x
  index_last [] n x count some same = absurd (omega arith)
  index_last (y ∷ xs) n x count some same =
      let h = has_last y xs in
      let at = subst (λ l. x ≡ get_or l (length l - 1) x) h.ends.is (subst (λ k. x ≡ get_or (y ∷ xs) (k - 1) x) count same) in
      let is = subst (λ k. x ≡ get_or (h.ends.front ++ h.last ∷ []) k x) (length_before h.ends.front h.last) at in
      let same : h.last ≡ x = sym (is ∙ get_or_last h.ends.front h.last x) in
      subst (EndsWith (y ∷ xs)) same h.ends

  -- another last
  pub set_last : (xs : List X) (n : ℕ) (x z : X) → n ≡ length xs → (h : EndsWith xs x) → set xs (n - 1) z ≡ h.front ++ z ∷ []
  set_last xs n x z count h =
      ap (λ k. set xs (k - 1) z) count
      ∙ ap (λ l. set l (length l - 1) z) h.is
      ∙ ap (λ k. set (h.front ++ x ∷ []) k z) (length_before h.front x)
      ∙ set-append_seam h.front x [] z

  -- the last is the first of the reverse
  pub reverse_last : {Y : Type 0} (f : X → Y) (xs : List X) (x : X) → (h : EndsWith xs x) → map f (reverse xs) ≡ f x ∷ map f (reverse h.front)
  reverse_last f xs x h = ap (λ l. map f (reverse l)) h.is ∙ ap (map f) (reverse-append h.front (x ∷ []))

  -- so is another last
  pub reverse_set : {Y : Type 0} (f : X → Y) (xs : List X) (n : ℕ) (x z : X) → n ≡ length xs → (h : EndsWith xs x) → map f (reverse (set xs (n - 1) z)) ≡ f z ∷ map f (reverse h.front)
  reverse_set f xs n x z count h = ap (λ l. map f (reverse l)) (set_last xs n x z count h) ∙ ap (map f) (reverse-append h.front (z ∷ []))

-- what holds if a call succeeds follows from what else does
pub on_ok : {A B : Type 0} (P Q : Type 0) (r : Result A B) → (P → Q) → OnOk r P → OnOk r Q
on_ok P Q (Ok a) then h = then h
on_ok P Q (Err e) then h = h

pub if_err : {A B : Type 0} (P Q : B → Type 0) (r : Result A B) → ((b : B) → P b → Q b) → IfErr r P → IfErr r Q
if_err P Q (Ok a) then h = h
if_err P Q (Err e) then h = then e h
