-- The last of a list is the first of its reverse.
use Rattle.std.proofs.Common.{◌≡◌, ◌<◌, ◌-◌, ℕ, List, [], ◌∷◌, ◌++◌, map, length, reverse, Some, None, refl, sym, ap, ap₂, ◌∙◌, subst, arith}
use Rattle.std.specs.Prelude.{slice_get, slice_index_or, slice_set}
use Rattle.std.proofs.lemmas.List.{reverse-append, length-append}

module _ {X : Type 0} where
  -- A list that ends with this.
  pub record EndsWith (xs : List X) (x : X) : Type 0 where
    pub front : List X
    pub is : xs ≡ front ++ x ∷ []

  -- a list that isn't empty ends with something
  record HasLast (xs : List X) : Type 0 where
    last : X
    ends : EndsWith xs last

  more_front : (y : X) (xs : List X) (x : X) → EndsWith xs x → EndsWith (y ∷ xs) x
  more_front y xs x h = record { front = y ∷ h.front; is = ap (λ m. y ∷ m) h.is }

  has_last : (y : X) (xs : List X) → HasLast (y ∷ xs)
  has_last y [] = record { last = y; ends = record { front = []; is = refl } }
  has_last y (x ∷ xs) = let h = has_last x xs in record { last = h.last; ends = more_front y (x ∷ xs) h.last h.ends }

  slice_get_last : (ys : List X) (z : X) → slice_get (ys ++ z ∷ []) (length ys) ≡ Some z
  slice_get_last [] z = refl
  slice_get_last (y ∷ ys) z = slice_get_last ys z

  length_before : (ys : List X) (z : X) → length (ys ++ z ∷ []) - 1 ≡ length ys
  length_before ys z = omega (arith, length-append ys (z ∷ []))

  pub none_last : (xs : List X) → slice_get xs (length xs - 1) ≡ None → xs ≡ []
  none_last [] none = refl
  none_last (y ∷ xs) none =
      let h = has_last y xs in
      let at = subst (λ l. slice_get l (length l - 1) ≡ None) h.ends.is none in
      let is = subst (λ k. slice_get (h.ends.front ++ h.last ∷ []) k ≡ None) (length_before h.ends.front h.last) at in
      absurd (cc (slice_get_last h.ends.front h.last, is))

  pub some_last : (xs : List X) (x : X) → slice_get xs (length xs - 1) ≡ Some x → EndsWith xs x
  some_last [] x some = absurd (cc some)
  some_last (y ∷ xs) x some =
      let h = has_last y xs in
      let at = subst (λ l. slice_get l (length l - 1) ≡ Some x) h.ends.is some in
      let is = subst (λ k. slice_get (h.ends.front ++ h.last ∷ []) k ≡ Some x) (length_before h.ends.front h.last) at in
      let same : h.last ≡ x = cc (slice_get_last h.ends.front h.last, is) in
      subst (EndsWith (y ∷ xs)) same h.ends

module _ {X : Type 0} where
  slice_index_or_last : (ys : List X) (z d : X) → slice_index_or (ys ++ z ∷ []) (length ys) d ≡ z
  slice_index_or_last [] z d = refl
  slice_index_or_last (y ∷ ys) z d = slice_index_or_last ys z d

  -- what lies at the last place is the last, of a list of this length
  pub last_lent : (n : ℕ) (xs : List X) (x : X) → n ≡ length xs → 0 < n → x ≡ slice_index_or xs (n - 1) x → EndsWith xs x
  last_lent n [] x same some is = absurd (omega (arith, same, some))
  last_lent n (y ∷ ys) x same some is =
      let h = has_last y ys in
      let all = h.ends.front ++ h.last ∷ [] in
      let place : n - 1 ≡ length h.ends.front = omega (arith, same, ap length h.ends.is, length-append h.ends.front (h.last ∷ [])) in
      let here : x ≡ h.last = is ∙ ap₂ (λ l k. slice_index_or l k x) h.ends.is place ∙ slice_index_or_last h.ends.front h.last x in
      subst (EndsWith (y ∷ ys)) (sym here) h.ends

  slice_set_last : (ys : List X) (z w : X) → slice_set (ys ++ z ∷ []) (length ys) w ≡ ys ++ w ∷ []
  slice_set_last [] z w = refl
  slice_set_last (y ∷ ys) z w = ap (λ l. y ∷ l) (slice_set_last ys z w)

  -- another takes the place of the last
  pub set_last : (n : ℕ) (xs : List X) (x w : X) → n ≡ length xs → (ends : EndsWith xs x) → slice_set xs (n - 1) w ≡ ends.front ++ w ∷ []
  set_last n xs x w same ends =
      let place : n - 1 ≡ length ends.front = omega (arith, same, ap length ends.is, length-append ends.front (x ∷ [])) in
      ap₂ (λ l k. slice_set l k w) ends.is place ∙ slice_set_last ends.front x w

-- its view comes first in reverse
pub reverse_last : {X Y : Type 0} (view : X → Y) (xs : List X) (x : X) (ends : EndsWith xs x) → map view (reverse xs) ≡ view x ∷ map view (reverse ends.front)
reverse_last view xs x ends = ap (λ l. map view (reverse l)) ends.is ∙ ap (map view) (reverse-append ends.front (x ∷ []))
