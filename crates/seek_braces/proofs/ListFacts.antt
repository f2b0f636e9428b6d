-- Lists of texts, forward and in reverse.
use Rattle.std.proofs.Common.{◌≡◌, ◌∙◌, ◌≤◌, ◌<◌, ◌+◌, ◌-◌, ℕ, List, [], ◌∷◌, ◌++◌, length, map, take, drop, reverse, ap, ap₂, sym, refl, append_assoc, arith, inl, inr}
use Rattle.std.proofs.Math.ListN.{get_or, set}
use Rattle.std.proofs.lemmas.Bool.{cases_lt}
use Rattle.std.proofs.lemmas.List.{append-nil, map-append, map-id, reverse-append, reverse-reverse, length-take-le, length-drop, length-append, length-map, length-reverse, take-append-drop, take_at, take_all, take_more, drop_at, drop_all, drop_more, set_at, get_or-map, get_or-drop, get_or-reverse, get_or-append_right, get_or_append_left, get_or_at}
use Rattle.std.specs.declared.vec.Vec.{Vec}
use Rattle.seek_braces.specs.Reading.{bytes_of, copied, forward, last_len, pushed}

pub map_map : {A B C : Type 0} (g : B → C) (f : A → B) (xs : List A) → map g (map f xs) ≡ map (λ x. g (f x)) xs
map_map g f [] = refl
map_map g f (x ∷ xs) = ap (λ l. g (f x) ∷ l) (map_map g f xs)

pub map_same : {A B : Type 0} (f g : A → B) → ((x : A) → f x ≡ g x) → (xs : List A) → map f xs ≡ map g xs
map_same f g same [] = refl
map_same f g same (x ∷ xs) = ap₂ (λ y l. y ∷ l) (same x) (map_same f g same xs)

reverse_cons : {A : Type 0} (x : A) (xs : List A) → reverse (x ∷ xs) ≡ reverse xs ++ x ∷ []
reverse_cons x xs = reverse-append (x ∷ []) xs

pub map_reverse : {A B : Type 0} (f : A → B) (xs : List A) → map f (reverse xs) ≡ reverse (map f xs)
map_reverse f [] = refl
map_reverse f (x ∷ xs) =
    ap (map f) (reverse_cons x xs) ∙ map-append f (reverse xs) (x ∷ []) ∙ ap (λ l. l ++ f x ∷ []) (map_reverse f xs) ∙ sym (reverse_cons (f x) (map f xs))

-- the parts of equal lists, if the first parts are as long
pub same_parts : {A : Type 0} (xs ys us vs : List A) → length xs ≡ length us → xs ++ ys ≡ us ++ vs → (xs ≡ us) × (ys ≡ vs)
same_parts xs ys us vs long same = (
  sym (take_at xs ys (length us) long) ∙ ap (take (length us)) same ∙ take_at us vs (length us) refl,
  sym (drop_at xs ys (length us) long) ∙ ap (drop (length us)) same ∙ drop_at us vs (length us) refl,
)

pub forward_append : (xs ys : List (List ℕ)) → forward (xs ++ ys) ≡ forward ys ++ forward xs
forward_append xs ys = ap reverse (map-append reverse xs ys) ∙ reverse-append (map reverse xs) (map reverse ys)

pub forward_twice : (xs : List (List ℕ)) → forward (forward xs) ≡ xs
forward_twice xs =
    ap reverse (map_reverse reverse (map reverse xs)) ∙ reverse-reverse (map reverse (map reverse xs))
    ∙ map_map reverse reverse xs ∙ map_same (λ x. reverse (reverse x)) (λ x. x) reverse-reverse xs ∙ map-id xs

pub length-forward : (xs : List (List ℕ)) → length (forward xs) ≡ length xs
length-forward xs = length-reverse (map reverse xs) ∙ length-map xs reverse

forward_push : (byte : ℕ) (xs : List (List ℕ)) → forward (map (λ t. t ++ byte ∷ []) xs) ≡ map (λ t. byte ∷ t) (forward xs)
forward_push byte xs =
    ap reverse (map_map reverse (λ t. t ++ byte ∷ []) xs ∙ map_same (λ t. reverse (t ++ byte ∷ [])) (λ t. byte ∷ reverse t) (λ t. reverse-append t (byte ∷ [])) xs
    ∙ sym (map_map (λ t. byte ∷ t) reverse xs))
    ∙ sym (map_reverse (λ t. byte ∷ t) (map reverse xs))

-- the last kept texts, forward
back_part : (kept first others : List (List ℕ)) (n : ℕ) → forward kept ≡ first ++ others → length kept - n ≡ length first → (forward (drop n kept) ≡ first) × (forward (take n kept) ≡ others)
back_part kept first others n is long =
    let parts : forward (drop n kept) ++ forward (take n kept) ≡ first ++ others
    = sym (forward_append (take n kept) (drop n kept)) ∙ ap forward (take-append-drop n kept) ∙ is in
    same_parts (forward (drop n kept)) (forward (take n kept)) first others (length-forward (drop n kept) ∙ length-drop n kept ∙ long) parts

total : (kept first others : List (List ℕ)) → forward kept ≡ first ++ others → length kept ≡ length first + length others
total kept first others is = sym (length-forward kept) ∙ ap length is ∙ length-append first others

-- a byte is in front of each text of the alternative
pub forward_pushed : (kept first others : List (List ℕ)) (start byte : ℕ) → forward kept ≡ first ++ others → start ≡ length others → forward (pushed start byte kept) ≡ map (λ t. byte ∷ t) first ++ others
forward_pushed kept first others start byte is begins =
    let parts = back_part kept first others start is (let all = total kept first others is in omega (arith, all, begins)) in
    forward_append (take start kept) (map (λ t. t ++ byte ∷ []) (drop start kept))
    ∙ ap₂ (λ x y. x ++ y) (forward_push byte (drop start kept) ∙ ap (map (λ t. byte ∷ t)) parts.0) parts.1

cut_back : (front : List ℕ) (cut : ℕ) → cut ≡ length front → (t : List ℕ) → take (length (reverse (front ++ t)) - cut) (reverse (front ++ t)) ≡ reverse t
cut_back front cut is t =
    let k = length (reverse (front ++ t)) - cut in
    let long : length (reverse t) ≡ length (reverse (front ++ t)) - cut
    = omega (arith, is, length-reverse t, length-reverse (front ++ t), length-append front t) in
    ap (take k) (reverse-append front t) ∙ take_at (reverse t) (reverse front) k long

-- the texts behind a group come once more
pub forward_copied : (kept behind rest others : List (List ℕ)) (front : List ℕ) (width cut : ℕ) → forward kept ≡ (map (λ t. front ++ t) behind ++ rest) ++ others
    → width ≡ length behind → cut ≡ length front → forward (copied width cut kept) ≡ behind ++ forward kept
forward_copied kept behind rest others front width cut is wide cuts =
    let n = length kept - width in
    let with_front = map (λ t. front ++ t) behind in
    let shorter = λ (t : List ℕ). take (length t - cut) t in
    let same : forward kept ≡ with_front ++ (rest ++ others) = is ∙ append_assoc with_front rest others in
    let all = total kept with_front (rest ++ others) same in
    let many : length with_front ≡ length behind = length-map behind (λ t. front ++ t) in
    let parts = back_part kept with_front (rest ++ others) n same (omega (arith, all, many, wide)) in
    let last : drop n kept ≡ forward with_front = sym (forward_twice (drop n kept)) ∙ ap forward parts.0 in
    let copies : map shorter (drop n kept) ≡ forward behind
    = ap (map shorter) last ∙ map_reverse shorter (map reverse with_front)
    ∙ ap reverse (ap (map shorter) (map_map reverse (λ t. front ++ t) behind) ∙ map_map shorter (λ t. reverse (front ++ t)) behind
    ∙ map_same (λ t. shorter (reverse (front ++ t))) reverse (cut_back front cut cuts) behind) in
    forward_append kept (map shorter (drop n kept)) ∙ ap (λ l. l ++ forward kept) (ap forward copies ∙ forward_twice behind)

-- the last kept text is the first one
pub last_first : (kept : List (List ℕ)) → 0 < length kept → last_len kept ≡ length (get_or (forward kept) 0 [])
last_first kept some =
    let at : length (map reverse kept) - 1 - 0 ≡ length kept - 1 = omega (arith, length-map kept reverse) in
    let within : 0 < length (map reverse kept) = omega (arith, some, length-map kept reverse) in
    sym (ap length (get_or-reverse (map reverse kept) 0 [] within ∙ ap (λ n. get_or (map reverse kept) n []) at
    ∙ get_or-map reverse kept (length kept - 1) [] [] (omega (arith, some)))
    ∙ length-reverse (get_or kept (length kept - 1) []))

module _ (start byte : ℕ) (kept : List (List ℕ)) where
  same_length : start ≤ length kept → length (pushed start byte kept) ≡ length kept
  same_length within =
      length-append (take start kept) (map (λ t. t ++ byte ∷ []) (drop start kept))
      ∙ omega (arith, within, length-take-le start kept within, length-map (drop start kept) (λ t. t ++ byte ∷ []), length-drop start kept)

  -- the first texts have the byte, and the others don't have it yet
  abbrev pub pushed_to : ℕ → List (List ℕ)
  pushed_to at = take at (pushed start byte kept) ++ drop at kept

  pub none_pushed : kept ≡ pushed_to start
  none_pushed = elim (cases_lt (length kept) start) [
    | inl past ↦
        let whole : take start kept ≡ kept = take_all start kept (omega (arith, past)) in
        let none : drop start kept ≡ [] = drop_all start kept (omega (arith, past)) in
        let all : pushed start byte kept ≡ kept = ap₂ (λ x y. x ++ map (λ t. t ++ byte ∷ []) y) whole none ∙ append-nil kept in
        sym (ap₂ (λ x y. take start x ++ y) all none ∙ append-nil (take start kept) ∙ whole)
    | inr within ↦
        sym (ap (λ x. x ++ drop start kept) (take_at (take start kept) (map (λ t. t ++ byte ∷ []) (drop start kept)) start (length-take-le start kept within))
        ∙ take-append-drop start kept)
  ]

  pushed_at : (at : ℕ) → start ≤ at → at < length kept → get_or (pushed start byte kept) at [] ≡ get_or kept at [] ++ byte ∷ []
  pushed_at at above below =
      let within : start ≤ length kept = omega (arith, above, below) in
      let behind : at - start < length (drop start kept) = omega (arith, above, below, length-drop start kept) in
      let same : start + (at - start) ≡ at = omega (arith, above) in
      get_or-append_right (take start kept) (map (λ t. t ++ byte ∷ []) (drop start kept)) start at [] (length-take-le start kept within) above
      ∙ get_or-map (λ t. t ++ byte ∷ []) (drop start kept) (at - start) [] [] behind
      ∙ ap (λ t. t ++ byte ∷ []) (get_or-drop start kept (at - start) [] ∙ ap (λ n. get_or kept n []) same)

  not_pushed : (at : ℕ) → start ≤ at → at < length kept → get_or (pushed_to at) at [] ≡ get_or kept at []
  not_pushed at above below =
      let all = pushed start byte kept in
      let long : length all ≡ length kept = same_length (omega (arith, above, below)) in
      ap (λ l. get_or (take at all ++ l) at []) (drop_more kept at [] below)
      ∙ get_or_at (take at all) (get_or kept at []) (drop (at + 1) kept) [] at (length-take-le at all (omega (arith, long, below)))

  pub one_pushed : (at : ℕ) (old : List (List ℕ)) (text : List ℕ) → start ≤ at → at < length kept → old ≡ pushed_to at → text ≡ get_or old at [] ++ byte ∷ [] → set old at text ≡ pushed_to (at + 1)
  one_pushed at old text above below is has =
      let all = pushed start byte kept in
      let long : length all ≡ length kept = same_length (omega (arith, above, below)) in
      let within : at < length all = omega (arith, long, below) in
      let next : text ≡ get_or all at []
      = has ∙ ap (λ t. t ++ byte ∷ []) (ap (λ l. get_or l at []) is ∙ not_pushed at above below) ∙ sym (pushed_at at above below) in
      ap (λ l. set l at text) (is ∙ ap (λ l. take at all ++ l) (drop_more kept at [] below))
      ∙ set_at (take at all) (get_or kept at []) (drop (at + 1) kept) text at (length-take-le at all (omega (arith, within)))
      ∙ sym (ap (λ l. l ++ drop (at + 1) kept) (take_more all at [] within) ∙ append_assoc (take at all) (get_or all at [] ∷ []) (drop (at + 1) kept)
      ∙ ap (λ t. take at all ++ t ∷ drop (at + 1) kept) (sym next))

  pub all_pushed : (at : ℕ) → start ≤ at → length kept ≤ at → pushed_to at ≡ pushed start byte kept
  all_pushed at above past =
      let long : length (pushed start byte kept) ≤ at = elim (cases_lt (length kept) start) [
        | inl outside ↦
            let e = length-append (take start kept) (map (λ t. t ++ byte ∷ []) (drop start kept)) in
            let none : length (drop start kept) ≡ length kept - start = length-drop start kept in
            let whole : length (take start kept) ≡ length kept = ap length (take_all start kept (omega (arith, outside))) in
            omega (arith, outside, past, e, none, whole, length-map (drop start kept) (λ t. t ++ byte ∷ []))
        | inr within ↦ omega (arith, past, same_length within)
      ] in
      ap₂ (λ x y. x ++ y) (take_all at (pushed start byte kept) long) (drop_all at kept past) ∙ append-nil (pushed start byte kept)

module _ (width cut : ℕ) (kept : List (List ℕ)) where
  -- the texts, and then copies of the last ones up to here
  abbrev pub copied_to : ℕ → List (List ℕ)
  copied_to at = kept ++ map (λ text. take (length text - cut) text) (take (at - (length kept - width)) (drop (length kept - width) kept))

  pub none_copied : kept ≡ copied_to (length kept - width)
  none_copied =
      let first = length kept - width in
      let none : first - first ≡ 0 = omega arith in
      sym (ap (λ n. kept ++ map (λ text. take (length text - cut) text) (take n (drop first kept))) none ∙ append-nil kept)

  pub one_copied : (at : ℕ) (old : List (List ℕ)) (copy : List ℕ) → length kept - width ≤ at → at < length kept → old ≡ copied_to at → copy ≡ take (length (get_or old at []) - cut) (get_or old at [])
      → old ++ copy ∷ [] ≡ copied_to (at + 1)
  one_copied at old copy above below same is =
      let first = length kept - width in
      let shorter = λ (t : List ℕ). take (length t - cut) t in
      let last = drop first kept in
      let more : at + 1 - first ≡ (at - first) + 1 = omega (arith, above) in
      let within : at - first < length last = omega (arith, above, below, length-drop first kept) in
      let there : first + (at - first) ≡ at = omega (arith, above) in
      let next : get_or last (at - first) [] ≡ get_or kept at [] = get_or-drop first kept (at - first) [] ∙ ap (λ n. get_or kept n []) there in
      let here : get_or old at [] ≡ get_or kept at [] = ap (λ l. get_or l at []) same ∙ get_or_append_left kept (map shorter (take (at - first) last)) [] at below in
      ap (λ l. l ++ copy ∷ []) same ∙ append_assoc kept (map shorter (take (at - first) last)) (copy ∷ [])
      ∙ ap (λ l. kept ++ l) (ap (λ t. map shorter (take (at - first) last) ++ t ∷ []) (is ∙ ap shorter (here ∙ sym next))
      ∙ sym (map-append shorter (take (at - first) last) (get_or last (at - first) [] ∷ [])) ∙ ap (map shorter) (sym (take_more last (at - first) [] within) ∙ ap (λ n. take n last) (sym more)))

  pub all_copied : copied_to (length kept) ≡ copied width cut kept
  all_copied =
      let first = length kept - width in
      ap (λ l. kept ++ map (λ text. take (length text - cut) text) l) (take_all (length kept - first) (drop first kept) (omega (arith, length-drop first kept)))

-- the last kept text comes first
pub popped : {A : Type 0} (texts rest : List (Vec ℕ A)) (text : Vec ℕ A) → texts ≡ rest ++ text ∷ [] → forward (bytes_of texts) ≡ reverse text.items ∷ forward (bytes_of rest)
popped {A} texts rest text is =
    ap (λ (l : List (Vec ℕ A)). forward (bytes_of l)) is ∙ ap forward (map-append (λ (t : Vec ℕ A). t.items) rest (text ∷ [])) ∙ forward_append (bytes_of rest) (text.items ∷ [])
