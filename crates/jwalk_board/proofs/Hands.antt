-- Lists that change at one index.
use Rattle.std.proofs.Common.{◌≡◌, ℕ, zero, suc, ◌+◌, ◌<◌, Bool, true, false, cond, List, [], ◌∷◌, ◌++◌, length, map, set, take, drop, replicate, refl, sym, ap, ◌∙◌, arith, ⊎_elim, ◌⊎◌, inl, inr, Contains, get_or, Option, Some, None}
use Rattle.std.proofs.lemmas.Bool.{false≢true}
use Rattle.std.proofs.lemmas.List.Elements.{Contains-append_right}
use Rattle.std.specs.List.{slice_get, find, filter}
use Rattle.jwalk_order.specs.IndexPath.{is_before}
use Rattle.jwalk_order.specs.Addresses.{is_same, times}
use Rattle.jwalk_board.specs.Run.{in_hands}
use Rattle.jwalk_board.proofs.Preorders.{IsAscending}
use Rattle.jwalk_order.proofs.Sets.{among_cases, same, times-itself}

pub in_hands-taken : (a c : List ℕ) (hs : List (Option (List ℕ))) (k : ℕ) → slice_get hs k ≡ Some None → times a (in_hands (set hs k (Some c))) ≡ times a (c ∷ in_hands hs)
in_hands-taken a c [] k h = absurd (let e : None ≡ Some None = h in cc)
in_hands-taken a c (None ∷ hs) zero h = refl
in_hands-taken a c (Some d ∷ hs) zero h = absurd (cc)
in_hands-taken a c (None ∷ hs) (suc k) h = in_hands-taken a c hs k h
in_hands-taken a c (Some d ∷ hs) (suc k) h = let r = in_hands-taken a c hs k h in omega arith

pub in_hands-finished : (a c : List ℕ) (hs : List (Option (List ℕ))) (k : ℕ) → slice_get hs k ≡ Some (Some c) → times a (in_hands hs) ≡ times a (c ∷ in_hands (set hs k None))
in_hands-finished a c [] k h = absurd (cc)
in_hands-finished a c (None ∷ hs) zero h = absurd (cc)
in_hands-finished a c (Some d ∷ hs) zero h = let e : d ≡ c = cc in ap (λ z. times a (z ∷ in_hands hs)) e
in_hands-finished a c (None ∷ hs) (suc k) h = in_hands-finished a c hs k h
in_hands-finished a c (Some d ∷ hs) (suc k) h = let r = in_hands-finished a c hs k h in omega arith

pub in_hands-none : (n : ℕ) → in_hands (replicate n None) ≡ []
in_hands-none zero = refl
in_hands-none (suc n) = in_hands-none n

module _ {X : Type 0} where
  pub get_set_cases : (xs : List X) (k j : ℕ) (y z : X) → slice_get (set xs k y) j ≡ Some z → (y ≡ z) ⊎ (slice_get xs j ≡ Some z)
  get_set_cases [] k j y z h = absurd (cc)
  get_set_cases (x ∷ xs) zero zero y z h = inl (cc)
  get_set_cases (x ∷ xs) zero (suc j) y z h = inr h
  get_set_cases (x ∷ xs) (suc k) zero y z h = inr h
  get_set_cases (x ∷ xs) (suc k) (suc j) y z h = get_set_cases xs k j y z h

  pub get_replicate : (n k : ℕ) (y z : X) → slice_get (replicate n y) k ≡ Some z → z ≡ y
  get_replicate zero k y z h = absurd (cc)
  get_replicate (suc n) zero y z h = cc
  get_replicate (suc n) (suc k) y z h = get_replicate n k y z h

  -- One more element goes from the part behind to the part in front.
  pub record Splits (n : ℕ) (xs : List X) (y : X) (ys : List X) : Type 0 where
    pub front : take (suc n) xs ≡ take n xs ++ y ∷ []
    pub rest : drop (suc n) xs ≡ ys
    pub at : slice_get xs n ≡ Some y

  pub splits : (n : ℕ) (xs : List X) (y : X) (ys : List X) → drop n xs ≡ y ∷ ys → Splits n xs y ys
  splits zero [] y ys h = absurd (cc)
  splits zero (x ∷ xs) y ys h = let e : x ≡ y = cc in let d : xs ≡ ys = cc in record { front = ap (λ z. z ∷ []) e; rest = d; at = ap Some e }
  splits (suc n) [] y ys h = absurd (cc)
  splits (suc n) (x ∷ xs) y ys h =
      let r : Splits n xs y ys = splits n xs y ys h in
      record { front = ap (λ z. x ∷ z) r.front; rest = r.rest; at = r.at }

  pub get_past : (n : ℕ) (xs : List X) → drop n xs ≡ [] → slice_get xs n ≡ None
  get_past n [] h = refl
  get_past zero (x ∷ xs) h = absurd (cc)
  get_past (suc n) (x ∷ xs) h = get_past n xs h

map_at : {X Y : Type 0} (f : X → Y) (xs : List X) (k : ℕ) (x : X) → k < length xs → get_or xs k x ≡ x → Contains (map f xs) (f x)
map_at f [] k x less e = absurd (omega arith)
map_at f (y ∷ ys) zero x less e = let l : 0 < length (map f (y ∷ ys)) = omega arith in (0, l, ap f e)
map_at f (y ∷ ys) (suc k) x less e = Contains-append_right (f y ∷ []) (map f ys) (f x) (map_at f ys k x (omega arith) e)

pub contains_map : {X Y : Type 0} (f : X → Y) (xs : List X) (x : X) → Contains xs x → Contains (map f xs) (f x)
contains_map f xs x h = map_at f xs h.0 x h.1 h.2

pub find_first : (p : List ℕ → Bool) (xs : List (List ℕ)) (a : List ℕ) → IsAscending xs → p a ≡ true → 0 < times a xs
    → ((y : List ℕ) → 0 < times y xs → p y ≡ true → is_before y a ≡ false) → find p xs ≡ Some a
find_first p [] a h is there first = absurd (omega arith)
find_first p (x ∷ xs) a h is there first =
    elim (p x) as (λ b. p x ≡ b → cond b (Some x) (find p xs) ≡ Some a) [
      | true ↦ λ e.
          ⊎_elim
          (λ (d : x ≡ a). ap Some d)
          (λ (m : 0 < times a xs). absurd (false≢true (sym (first x (omega (arith, times-itself x xs)) e) ∙ h.0 a m)))
          (among_cases a x xs there)
      | false ↦ λ e.
          ⊎_elim
          (λ (d : x ≡ a). absurd (false≢true (sym e ∙ ap p d ∙ is)))
          (λ (m : 0 < times a xs). find_first p xs a h.1 is m (λ y n q. first y (omega arith) q))
          (among_cases a x xs there)
    ] refl

pub find_none : (p : List ℕ → Bool) (xs : List (List ℕ)) → ((y : List ℕ) → 0 < times y xs → p y ≡ false) → find p xs ≡ None
find_none p [] h = refl
find_none p (x ∷ xs) h =
    ap (λ b. cond b (Some x) (find p xs)) (h x (omega (arith, times-itself x xs))) ∙ find_none p xs (λ y n. h y (omega arith))

-- how often an address is among those that pass
pub times-filter : (p : List ℕ → Bool) (a : List ℕ) (xs : List (List ℕ)) → times a (filter p xs) ≡ cond (p a) (times a xs) 0
times-filter p a [] = elim (p a) as (λ b. times a [] ≡ cond b (times a []) 0) [ true ↦ refl | false ↦ refl ]
times-filter p a (x ∷ xs) =
    elim (is_same a x) as (λ b. is_same a x ≡ b → times a (cond (p x) (x ∷ filter p xs) (filter p xs)) ≡ cond (p a) (cond b 1 0 + times a xs) 0) [
      | true ↦ λ e.
          let d : x ≡ a = same a x e in
          let one : ◌≡◌ {A = ℕ} (cond (is_same a x) 1 0) 1 = ap (λ b. cond b 1 0) e in
          elim (p x) as (λ b. p x ≡ b → times a (cond b (x ∷ filter p xs) (filter p xs)) ≡ cond (p a) (1 + times a xs) 0) [
            | true ↦ λ q.
                let u : cond (p a) (times a xs) 0 ≡ times a xs = ap (λ b. cond b (times a xs) 0) (ap p (sym d) ∙ q) in
                let v : cond (p a) (1 + times a xs) 0 ≡ 1 + times a xs = ap (λ b. cond b (1 + times a xs) 0) (ap p (sym d) ∙ q) in
                omega (arith, one, times-filter p a xs, u, v)
            | false ↦ λ q.
                let u : cond (p a) (times a xs) 0 ≡ 0 = ap (λ b. cond b (times a xs) 0) (ap p (sym d) ∙ q) in
                let v : cond (p a) (1 + times a xs) 0 ≡ 0 = ap (λ b. cond b (1 + times a xs) 0) (ap p (sym d) ∙ q) in
                omega (arith, times-filter p a xs, u, v)
          ] refl
      | false ↦ λ e.
          let none : ◌≡◌ {A = ℕ} (cond (is_same a x) 1 0) 0 = ap (λ b. cond b 1 0) e in
          let same_rest : cond (p a) (0 + times a xs) 0 ≡ cond (p a) (times a xs) 0 = ap (λ n. cond (p a) n 0) (omega arith) in
          elim (p x) as (λ b. times a (cond b (x ∷ filter p xs) (filter p xs)) ≡ cond (p a) (0 + times a xs) 0) [
            | true ↦ omega (arith, none, times-filter p a xs, same_rest)
            | false ↦ omega (arith, times-filter p a xs, same_rest)
          ]
    ] refl
