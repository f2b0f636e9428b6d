-- Answers up to a limit, one list after another.
use Rattle.std.proofs.Common.{◌≡◌, ◌≢◌, ◌∙◌, ℕ, zero, suc, ◌-◌, true, false, ◌||◌, List, [], ◌∷◌, ◌++◌, Option, None, Some, ap, arith, refl, sym}
use Rattle.std.specs.List.{list_any}
use Rattle.std.specs.Prelude.{if◌then◌else◌}
use Rattle.jwalk_model.specs.Entry.{Item}
use Rattle.seek_words.specs.Sought.{Sought}
use Rattle.seek_found.specs.Limit.{is_hit, left_of, first_of, left_after, one_less, up_to}

left_none : (R E : Type 0) (sought : Sought) (n : ℕ) → left_of {R = R} {E = E} sought n [] ≡ n
left_none R E sought zero = refl
left_none R E sought (suc n) = refl

-- no answers leave a limit unchanged
pub left_as_before : (R E : Type 0) (sought : Sought) (left : Option ℕ) → left_after {R = R} {E = E} sought left [] ≡ left
left_as_before R E sought None = refl
left_as_before R E sought (Some n) = ap Some (left_none R E sought n)

module _ {R E : Type 0} (sought : Sought) where
  first_none : (n : ℕ) → first_of {R = R} {E = E} sought n [] ≡ []
  first_none zero = refl
  first_none (suc n) = refl

  -- if none of the first answers is beyond the limit, the rest of it limits the others
  first_more : (xs ys : List (Item R E)) (n : ℕ) → first_of sought n xs ≡ xs → first_of sought n (xs ++ ys) ≡ xs ++ first_of sought (left_of sought n xs) ys
  first_more [] ys zero within = refl
  first_more [] ys (suc n) within = refl
  first_more (x ∷ xs) ys zero within = absurd (cc)
  first_more (x ∷ xs) ys (suc n) within =
      let next = if is_hit sought x then n else suc n in
      let rest : first_of sought next xs ≡ xs = cc in
      ap (λ l. x ∷ l) (first_more xs ys next rest)

  left_more : (xs ys : List (Item R E)) (n : ℕ) → left_of sought n (xs ++ ys) ≡ left_of sought (left_of sought n xs) ys
  left_more xs ys zero = refl
  left_more [] ys (suc n) = refl
  left_more (x ∷ xs) ys (suc n) = left_more xs ys (if is_hit sought x then n else suc n)

  first_then : (xs ys : List (Item R E)) (n : ℕ) → first_of sought n (xs ++ ys) ≡ first_of sought n xs ++ first_of sought (left_of sought n (first_of sought n xs)) ys
  first_then xs ys zero = refl
  first_then [] ys (suc n) = refl
  first_then (x ∷ xs) ys (suc n) = ap (λ l. x ∷ l) (first_then xs ys (if is_hit sought x then n else suc n))

  -- the rest of a limit after answers and then others
  pub left_then : (left : Option ℕ) (xs ys : List (Item R E)) → left_after sought left (xs ++ ys) ≡ left_after sought (left_after sought left xs) ys
  left_then None xs ys = refl
  left_then (Some n) xs ys = ap Some (left_more xs ys n)

  -- the answers up to a limit, and then others up to the rest of it
  pub up_to_then : (left : Option ℕ) (xs ys : List (Item R E)) → up_to sought left (xs ++ ys) ≡ up_to sought left xs ++ up_to sought (left_after sought left (up_to sought left xs)) ys
  up_to_then None xs ys = refl
  up_to_then (Some n) xs ys = first_then xs ys n

  -- the same, if none of the first is beyond it
  pub up_to_more : (left : Option ℕ) (xs ys : List (Item R E)) → up_to sought left xs ≡ xs → up_to sought left (xs ++ ys) ≡ xs ++ up_to sought (left_after sought left xs) ys
  up_to_more None xs ys within = refl
  up_to_more (Some n) xs ys within = first_more xs ys n within

  -- no answers are beyond it
  pub up_to_none : (left : Option ℕ) → up_to {R = R} {E = E} sought left [] ≡ []
  up_to_none None = refl
  up_to_none (Some n) = first_none n

  -- nor is one, if the limit isn't reached
  pub one_within : (left : Option ℕ) (x : Item R E) → left ≢ Some 0 → up_to sought left (x ∷ []) ≡ x ∷ []
  one_within None x lasts = refl
  one_within (Some zero) x lasts = absurd (lasts refl)
  one_within (Some (suc n)) x lasts = ap (λ l. x ∷ l) (first_none (if is_hit sought x then n else suc n))

  -- nothing is left if the limit is reached
  pub up_to_full : (left : Option ℕ) (ys : List (Item R E)) → left ≡ Some 0 → up_to sought left ys ≡ []
  up_to_full left ys full = rw full refl

  -- an answer that is found takes one of it
  pub left_one : (left : Option ℕ) (x : Item R E) → left_after sought left (x ∷ []) ≡ (if is_hit sought x then one_less left else left)
  left_one None x = elim (is_hit sought x) as (λ b. ◌≡◌ {A = Option ℕ} None (if b then None else None)) [ true ↦ refl | false ↦ refl ]
  left_one (Some zero) x = elim (is_hit sought x) as (λ b. ◌≡◌ {A = Option ℕ} (Some 0) (if b then Some (0 - 1) else Some 0)) [ true ↦ refl | false ↦ refl ]
  left_one (Some (suc n)) x =
      ap Some (left_none R E sought (if is_hit sought x then n else suc n))
      ∙ elim (is_hit sought x) as (λ b. ◌≡◌ {A = Option ℕ} (Some (if b then n else suc n)) (if b then Some (suc n - 1) else Some (suc n))) [ true ↦ (let one : n ≡ suc n - 1 = omega arith in ap Some one) | false ↦ refl ]

  -- if nothing of a limit of one is left, one is found
  pub one_found_among : (xs : List (Item R E)) → left_of sought 1 xs ≡ 0 → list_any (is_hit sought) xs ≡ true
  one_found_among [] none = absurd (let no : 1 ≡ 0 = none in omega (arith, no))
  one_found_among (x ∷ xs) none =
      elim (is_hit sought x) as (λ b. left_of sought (if b then 0 else 1) xs ≡ 0 → (b || list_any (is_hit sought) xs) ≡ true) [
        | true ↦ λ _. refl
        | false ↦ one_found_among xs
      ] none

  -- and if one is found, nothing of such a limit is left
  pub none_left_behind : (xs : List (Item R E)) → list_any (is_hit sought) xs ≡ true → left_of sought 1 xs ≡ 0
  none_left_behind [] found = absurd (cc)
  none_left_behind (x ∷ xs) found =
      elim (is_hit sought x) as (λ b. (b || list_any (is_hit sought) xs) ≡ true → left_of sought (if b then 0 else 1) xs ≡ 0) [
        | true ↦ λ _. refl
        | false ↦ none_left_behind xs
      ] found

  -- up to a limit of one, one is found if and only if one is found at all
  pub one_up_to : (xs : List (Item R E)) → list_any (is_hit sought) (up_to sought (Some 1) xs) ≡ list_any (is_hit sought) xs
  one_up_to [] = refl
  one_up_to (x ∷ xs) =
      elim (is_hit sought x) as (λ b. (b || list_any (is_hit sought) (first_of sought (if b then 0 else 1) xs)) ≡ (b || list_any (is_hit sought) xs)) [
        | true ↦ refl
        | false ↦ one_up_to xs
      ]

-- if one may be found, and no further one after these answers, one of them is found
pub one_of_one : {R E : Type 0} (sought : Sought) (xs : List (Item R E)) {left left' : Option ℕ} → left ≡ Some 1 → left' ≡ left_after sought left xs → left' ≡ Some 0 → list_any (is_hit sought) xs ≡ true
one_of_one sought xs {left} {left'} one limit full =
    let after : Some (left_of sought 1 xs) ≡ Some 0 = sym (limit ∙ ap (λ l. left_after sought l xs) one) ∙ full in
    let none : left_of sought 1 xs ≡ 0 = cc in
    one_found_among sought xs none

-- if one may still be found after these answers, none of them is found
pub none_of_one : {R E : Type 0} (sought : Sought) (xs : List (Item R E)) {left left' : Option ℕ} → left ≡ Some 1 → left' ≡ left_after sought left xs → left' ≢ Some 0 → list_any (is_hit sought) xs ≡ false
none_of_one sought xs {left} {left'} one limit room =
    let after : left' ≡ Some (left_of sought 1 xs) = limit ∙ ap (λ l. left_after sought l xs) one in
    elim (list_any (is_hit sought) xs) as (λ b. list_any (is_hit sought) xs ≡ b → b ≡ false) [
      | true ↦ λ found. absurd (room (after ∙ ap Some (none_left_behind sought xs found)))
      | false ↦ λ _. refl
    ] refl
