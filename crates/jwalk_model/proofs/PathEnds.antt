-- A text byte by byte: a trailing slash or `.` adds no component, and each other byte adds to the components' texts.
use Rattle.std.proofs.Common.{◌≡◌, ◌≢◌, ℕ, zero, suc, ◌+◌, ◌-◌, ◌<◌, ◌≤◌, true, false, cond, ◌||◌, ◌&&◌, eqb, ltb, List, [], ◌∷◌, ◌++◌, length, get_or, take, flat_map, bytes_eq, ◌⊎◌, inl, inr, refl, sym, ap, ap₂, subst, ◌∙◌, ⊎_elim, append_assoc, arith, eqb-true, ltb-true, ltb-false, lt-ltb, length-append, length-take, take-take, take_all}
use Rattle.std.specs.List.{onto_first}
use Rattle.std.specs.Path.{is_trailing, trimmed_len, trim_trailing}
use Rattle.std.proofs.lemmas.Bool.{cond-true, cond-false, both_ways, or_cases, or_left, or_right, and_from, and_parts, and_right}
use Rattle.std.proofs.lemmas.List.{take_more, length_push}
use Rattle.std.proofs.lemmas.List.Concat.{flat_map-append}
use Rattle.std.proofs.lemmas.Slice.Eq.{bytes_eq-Decides}
use Rattle.jwalk_model.specs.Paths.{Component, root, here, slash, dot, dots, parts, component_of, first_component, components_of, components}
use Rattle.jwalk_model.specs.PathTexts.{component_text}
use Rattle.jwalk_model.proofs.PathFacts.{by_test, parts_are}

-- ---- the parts of a text with one more byte

pub parts-slash : (q : List ℕ) → parts (q ++ slash ∷ []) ≡ parts q ++ [] ∷ []
parts-slash [] = refl
parts-slash (c ∷ q) =
    by_test (eqb c slash)
    (λ e. rw e (ap (λ ps. [] ∷ ps) (parts-slash q)))
    (λ e. rw e (ap (onto_first c) (parts-slash q) ∙ by_parts (parts q) _ _ (parts_are q)))
  where
    by_parts : (ps : List (List ℕ)) (first : List ℕ) (others : List (List ℕ)) → ps ≡ first ∷ others → onto_first c (ps ++ [] ∷ []) ≡ onto_first c ps ++ [] ∷ []
    by_parts [] first others e = cc
    by_parts (p ∷ ps) first others e = refl

-- b put at the end of the last part
abbrev pub onto_last : ℕ → List (List ℕ) → List (List ℕ)
onto_last b [] = []
onto_last b (p ∷ []) = (p ++ b ∷ []) ∷ []
onto_last b (p ∷ r ∷ rs) = p ∷ onto_last b (r ∷ rs)

pub onto_last-push : (b : ℕ) (front : List (List ℕ)) (last : List ℕ) → onto_last b (front ++ last ∷ []) ≡ front ++ (last ++ b ∷ []) ∷ []
onto_last-push b [] last = refl
onto_last-push b (p ∷ []) last = refl
onto_last-push b (p ∷ r ∷ rs) last = ap (λ l. p ∷ l) (onto_last-push b (r ∷ rs) last)

onto_last-cons : (b : ℕ) (p : List ℕ) (ps : List (List ℕ)) (first : List ℕ) (others : List (List ℕ)) → ps ≡ first ∷ others → onto_last b (p ∷ ps) ≡ p ∷ onto_last b ps
onto_last-cons b p [] first others e = cc
onto_last-cons b p (r ∷ rs) first others e = refl

onto_first-last : (b c : ℕ) (ps : List (List ℕ)) (first : List ℕ) (others : List (List ℕ)) → ps ≡ first ∷ others → onto_first c (onto_last b ps) ≡ onto_last b (onto_first c ps)
onto_first-last b c [] first others e = cc
onto_first-last b c (p ∷ []) first others e = refl
onto_first-last b c (p ∷ r ∷ rs) first others e = refl

pub parts-byte : (b : ℕ) (q : List ℕ) → eqb b slash ≡ false → parts (q ++ b ∷ []) ≡ onto_last b (parts q)
parts-byte b [] e = rw e refl
parts-byte b (c ∷ q) e =
    by_test (eqb c slash)
    (λ h. rw h (ap (λ ps. [] ∷ ps) (parts-byte b q e) ∙ sym (onto_last-cons b [] (parts q) _ _ (parts_are q))))
    (λ h. rw h (ap (onto_first c) (parts-byte b q e) ∙ onto_first-last b c (parts q) _ _ (parts_are q)))

-- ---- how long the texts of components are

abbrev pub size : List Component → ℕ
size [] = 0
size (c ∷ cs) = length (component_text c) + size cs

size-append : (cs ds : List Component) → size (cs ++ ds) ≡ size cs + size ds
size-append [] ds = omega arith
size-append (c ∷ cs) ds = omega (arith, size-append cs ds)

size-part : (part : List ℕ) → size (component_of part) ≡ cond (bytes_eq part [] || bytes_eq part dot) 0 (length part)
size-part part =
    by_test (bytes_eq part [] || bytes_eq part dot)
    (λ e. rw e refl)
    (λ e. rw e (by_test (bytes_eq part dots)
    (λ is_up. rw is_up (sym (ap length ((bytes_eq-Decides part dots).0 is_up))))
    (λ other. rw other (omega arith))))

size-part-le : (part : List ℕ) → size (component_of part) ≤ length part
size-part-le part = let e = size-part part in by_test (bytes_eq part [] || bytes_eq part dot) (λ h. omega (arith, e, cond-true _ 0 (length part) h)) (λ h. omega (arith, e, cond-false _ 0 (length part) h))

-- a part of two bytes or more
size-long : (a b : ℕ) (rest : List ℕ) → size (component_of (a ∷ b ∷ rest)) ≡ length (a ∷ b ∷ rest)
size-long a b rest = size-part (a ∷ b ∷ rest) ∙ cond-false _ 0 (length (a ∷ b ∷ rest)) (and_right (eqb a 46) false refl)

size-byte : (b : ℕ) → eqb b 46 ≡ false → size (component_of (b ∷ [])) ≡ 1
size-byte b e = size-part (b ∷ []) ∙ cond-false _ 0 1 (ap (λ t. t && true) e)

-- the last part, with one more byte
pub part_grows : (last : List ℕ) (b : ℕ) → (last ≡ [] → eqb b 46 ≡ false) → size (component_of last) < size (component_of (last ++ b ∷ []))
part_grows [] b h = omega (arith, size-byte b (h refl))
part_grows (a ∷ []) b h = omega (arith, size-long a b [], size-part-le (a ∷ []))
part_grows (a ∷ c ∷ rest) b h = omega (arith, size-long a c (rest ++ b ∷ []), size-part-le (a ∷ c ∷ rest), length-append (a ∷ c ∷ rest) (b ∷ []))

-- the first part, where it is the only one
pub size-first : (part : List ℕ) → size (first_component part []) ≡ length part
size-first [] = refl
size-first (c ∷ cs) =
    by_test (bytes_eq (c ∷ cs) dot)
    (λ e. rw e (sym (ap length ((bytes_eq-Decides (c ∷ cs) dot).0 e))))
    (λ e. ap size (cond-false _ (here ∷ []) _ e) ∙ size-part (c ∷ cs) ∙ cond-false _ 0 (length (c ∷ cs)) e)

-- ---- components by the front parts and the last one

-- what the parts before the last give, where there are any
abbrev pub before : List ℕ → List (List ℕ) → List Component
before p ps = first_component p ([] ∷ []) ++ flat_map component_of ps

first-followed : (p : List ℕ) (ps : List (List ℕ)) (z : List ℕ) (zs : List (List ℕ)) → first_component p (ps ++ z ∷ zs) ≡ first_component p ([] ∷ [])
first-followed [] [] z zs = refl
first-followed [] (r ∷ rs) z zs = refl
first-followed (c ∷ cs) ps z zs = refl

pub components-after : (p : List ℕ) (ps : List (List ℕ)) (z : List ℕ) (zs : List (List ℕ))
    → components_of (p ∷ ps ++ z ∷ zs) ≡ before p ps ++ flat_map component_of (z ∷ zs)
components-after p ps z zs =
    ap₂ ◌++◌ (first-followed p ps z zs) (flat_map-append component_of ps (z ∷ zs))
    ∙ sym (append_assoc (first_component p ([] ∷ [])) (flat_map component_of ps) (flat_map component_of (z ∷ zs)))

-- the parts of the first n bytes: those before the last, and the last
pub record Cut (path : List ℕ) (n : ℕ) : Type 0 where
  pub front : List (List ℕ)
  pub last : List ℕ
  pub is : parts (take n path) ≡ front ++ last ∷ []
  pub empty : n ≡ 0 → (front ≡ []) × (last ≡ [])
  pub some : 0 < n → front ≡ [] → last ≢ []
  pub ends : 0 < n → last ≡ [] → eqb (get_or path (n - 1) 0) slash ≡ true
  pub in_part : 0 < n → eqb (get_or path (n - 1) 0) slash ≡ true → last ≡ []

pub push-nonempty : {X : Type 0} (xs : List X) (x : X) → xs ++ x ∷ [] ≢ []
push-nonempty [] x e = cc
push-nonempty (y ∷ xs) x e = cc

pub take_next : (path : List ℕ) (n : ℕ) → n < length path → take (suc n) path ≡ take n path ++ get_or path n 0 ∷ []
take_next path n l = ap (λ k. take k path) {x = suc n} {y = n + 1} (omega arith) ∙ take_more path n 0 l

pub next-slash : (path : List ℕ) (n : ℕ) → n < length path → (c : Cut path n) → eqb (get_or path n 0) slash ≡ true
    → parts (take (suc n) path) ≡ (c.front ++ c.last ∷ []) ++ [] ∷ []
next-slash path n l c e =
    ap parts (take_next path n l ∙ ap (λ x. take n path ++ x ∷ []) (eqb-true (get_or path n 0) slash e)) ∙ parts-slash (take n path) ∙ ap (λ ps. ps ++ [] ∷ []) c.is

pub next-byte : (path : List ℕ) (n : ℕ) → n < length path → (c : Cut path n) → eqb (get_or path n 0) slash ≡ false
    → parts (take (suc n) path) ≡ c.front ++ (c.last ++ get_or path n 0 ∷ []) ∷ []
next-byte path n l c e =
    let b = get_or path n 0 in
    ap parts (take_next path n l) ∙ parts-byte b (take n path) e ∙ ap (onto_last b) c.is ∙ onto_last-push b c.front c.last

pub cut : (path : List ℕ) (n : ℕ) → n ≤ length path → Cut path n
cut path zero l = record {
  front = [];
  last = [];
  is = refl;
  empty = λ _. (refl, refl);
  some = λ h. absurd (omega arith);
  ends = λ h. absurd (omega arith);
  in_part = λ h. absurd (omega arith);
}
cut path (suc n) l =
    let c = cut path n (omega arith) in
    let b = get_or path n 0 in
    let at : suc n - 1 ≡ n = omega arith in
    by_test (eqb b slash)
    (λ e. record {
      front = c.front ++ c.last ∷ [];
      last = [];
      is = next-slash path n (omega arith) c e;
      empty = λ h. absurd (omega arith);
      some = λ _ h. absurd (push-nonempty c.front c.last h);
      ends = λ _ _. ap (λ k. eqb (get_or path k 0) slash) at ∙ e;
      in_part = λ _ _. refl;
    })
    (λ e. record {
      front = c.front;
      last = c.last ++ b ∷ [];
      is = next-byte path n (omega arith) c e;
      empty = λ h. absurd (omega arith);
      some = λ _ _. push-nonempty c.last b;
      ends = λ _ h. absurd (push-nonempty c.last b h);
      in_part = λ _ h. absurd (both_ways _ (ap (λ k. eqb (get_or path k 0) slash) at ∙ e) h);
    })

-- a slash after the last part
after_slash : (front : List (List ℕ)) (last : List ℕ) → (front ≡ [] → last ≢ []) → components_of ((front ++ last ∷ []) ++ [] ∷ []) ≡ components_of (front ++ last ∷ [])
after_slash [] [] h = absurd (h refl refl)
after_slash [] (c ∷ cs) h = refl
after_slash (p ∷ ps) last h =
    ap components_of (append_assoc (p ∷ ps) (last ∷ []) ([] ∷ [])) ∙ components-after p ps last ([] ∷ []) ∙ sym (components-after p ps last [])

-- a `.` after a slash
after_dot : (front : List (List ℕ)) → front ≢ [] → components_of (front ++ dot ∷ []) ≡ components_of (front ++ [] ∷ [])
after_dot [] h = absurd (h refl)
after_dot (p ∷ ps) h = components-after p ps dot [] ∙ sym (components-after p ps [] [])

-- a byte that belongs to the last part
after_byte : (front : List (List ℕ)) (last : List ℕ) (b : ℕ) → (last ≡ [] → (front ≡ []) ⊎ (eqb b 46 ≡ false))
    → size (components_of (front ++ last ∷ [])) < size (components_of (front ++ (last ++ b ∷ []) ∷ []))
after_byte [] last b h =
    let next = last ++ b ∷ [] in
    omega (arith, size-append (first_component last []) [], size-append (first_component next []) [], size-first last, size-first next, length_push last b)
after_byte (p ∷ ps) last b h =
    let next = last ++ b ∷ [] in
    let named : last ≡ [] → eqb b 46 ≡ false = λ e. ⊎_elim (λ z. cc) (λ f. f) (h e) in
    omega (
      arith,
      ap size (components-after p ps last []),
      ap size (components-after p ps next []),
      size-append (before p ps) (component_of last ++ []),
      size-append (before p ps) (component_of next ++ []),
      size-append (component_of last) [],
      size-append (component_of next) [],
      part_grows last b named,
    )

-- ---- one more byte

pub trailing-same : (path : List ℕ) (n : ℕ) → n < length path → is_trailing path n ≡ true → components (take (suc n) path) ≡ components (take n path)
trailing-same path n l h =
    let b = get_or path n 0 in
    let b_before = get_or path (n - 1) 0 in
    let c = cut path n (omega arith) in
    let both = and_parts (ltb 0 n) (eqb b slash || (eqb b 46 && eqb b_before slash)) h in
    let some = ltb-true 0 n both.0 in
    ⊎_elim
    (λ e. ap components_of (next-slash path n l c e) ∙ after_slash c.front c.last (c.some some) ∙ sym (ap components_of c.is))
    (λ e.
    let two = and_parts (eqb b 46) (eqb b_before slash) e in
    let is_dot = eqb-true b 46 two.0 in
    let none = c.in_part some two.1 in
    ap components_of (next-byte path n l c (ap (λ x. eqb x slash) is_dot))
    ∙ ap₂ (λ x y. components_of (c.front ++ (x ++ y ∷ []) ∷ [])) none is_dot
    ∙ after_dot c.front (λ z. c.some some z none)
    ∙ sym (ap components_of (c.is ∙ ap (λ x. c.front ++ x ∷ []) none)))
    (or_cases (eqb b slash) (eqb b 46 && eqb b_before slash) both.1)

-- a byte after a slash that doesn't trail is no `.`
pub no_dot : (path : List ℕ) (n : ℕ) (c : Cut path n) → is_trailing path n ≡ false → 0 < n → c.last ≡ [] → eqb (get_or path n 0) 46 ≡ false
no_dot path n c h some z =
    by_test (eqb (get_or path n 0) 46) (λ q. absurd (both_ways _ h (and_from _ _ (lt-ltb 0 n some) (or_right _ _ (and_from _ _ q (c.ends some z)))))) (λ q. q)

pub byte-grows : (path : List ℕ) (n : ℕ) → n < length path → is_trailing path n ≡ false → size (components (take n path)) < size (components (take (suc n) path))
byte-grows path n l h =
    let b = get_or path n 0 in
    let b_before = get_or path (n - 1) 0 in
    let c = cut path n (omega arith) in
    let trailing_if : ltb 0 n ≡ true → (eqb b slash || (eqb b 46 && eqb b_before slash)) ≡ true → ⊥ = λ p q. both_ways _ h (and_from _ _ p q) in
    by_test (eqb b slash)
    (λ e.
    let first : n ≡ 0 = by_test (ltb 0 n) (λ p. absurd (trailing_if p (or_left _ _ e))) (λ p. omega (arith, ltb-false 0 n p)) in
    let none = c.empty first in
    omega (
      arith,
      ap (λ ps. size (components_of ps)) c.is,
      ap₂ (λ x y. size (components_of (x ++ y ∷ []))) none.0 none.1,
      ap (λ ps. size (components_of ps)) (next-slash path n l c e),
      ap₂ (λ x y. size (components_of ((x ++ y ∷ []) ++ [] ∷ []))) none.0 none.1,
    ))
    (λ e.
    let either : c.last ≡ [] → (c.front ≡ []) ⊎ (eqb b 46 ≡ false) = λ z.
    by_test (ltb 0 n) (λ p. inr (no_dot path n c h (ltb-true 0 n p) z)) (λ p. inl (c.empty (omega (arith, ltb-false 0 n p))).0) in
    omega (
      arith,
      ap (λ ps. size (components_of ps)) c.is,
      ap (λ ps. size (components_of ps)) (next-byte path n l c e),
      after_byte c.front c.last b either,
    ))

-- no byte makes the texts of the components shorter
size-next : (path : List ℕ) (n : ℕ) → n < length path → size (components (take n path)) ≤ size (components (take (suc n) path))
size-next path n l =
    by_test (is_trailing path n) (λ e. omega (arith, ap size (trailing-same path n l e))) (λ e. omega (arith, byte-grows path n l e))

size-take : (path : List ℕ) (k n : ℕ) → k ≤ n → n ≤ length path → size (components (take k path)) ≤ size (components (take n path))
size-take path k zero le l = ap_le (omega arith)
  where
    ap_le : k ≡ 0 → size (components (take k path)) ≤ 0
    ap_le e = omega (arith, ap (λ j. size (components (take j path))) e)
size-take path k (suc n) le l =
    by_test (ltb k (suc n))
    (λ e. omega (arith, size-take path k n (omega (arith, ltb-true k (suc n) e)) (omega arith), size-next path n (omega arith)))
    (λ e. let same : k ≡ suc n = omega (arith, ltb-false k (suc n) e) in omega (arith, ap (λ j. size (components (take j path))) same))

-- ---- a text without what trails

trimmed-len-le : (path : List ℕ) (n : ℕ) → trimmed_len path n ≤ n
trimmed-len-le path zero = omega arith
trimmed-len-le path (suc n) = by_test (is_trailing path n) (λ e. rw e (omega (arith, trimmed-len-le path n))) (λ e. rw e (omega arith))

trimmed-same : (path : List ℕ) (n : ℕ) → n ≤ length path → components (take (trimmed_len path n) path) ≡ components (take n path)
trimmed-same path zero l = refl
trimmed-same path (suc n) l =
    by_test (is_trailing path n)
    (λ e. ap (λ k. components (take k path)) (cond-true _ _ _ e) ∙ trimmed-same path n (omega arith) ∙ sym (trailing-same path n (omega arith) e))
    (λ e. ap (λ k. components (take k path)) (cond-false _ _ _ e))

trimmed-grows : (path : List ℕ) (n k : ℕ) → n ≤ length path → k < trimmed_len path n → size (components (take k path)) < size (components (take (trimmed_len path n) path))
trimmed-grows path zero k l lt = absurd (omega arith)
trimmed-grows path (suc n) k l lt =
    by_test (is_trailing path n)
    (λ e.
    let at = cond-true (is_trailing path n) (trimmed_len path n) (suc n) e in
    subst (λ m. size (components (take k path)) < size (components (take m path))) (sym at) (trimmed-grows path n k (omega arith) (omega (arith, at))))
    (λ e.
    let at = cond-false (is_trailing path n) (trimmed_len path n) (suc n) e in
    subst (λ m. size (components (take k path)) < size (components (take m path))) (sym at)
    (omega (arith, size-take path k n (omega (arith, at)) (omega arith), byte-grows path n (omega arith) e)))

-- no shorter beginning has the same components
abbrev pub IsShortest : List ℕ → Type 0
IsShortest text = (k : ℕ) → k < length text → components (take k text) ≢ components text

pub trim_trailing-components : (path : List ℕ) → components (trim_trailing path) ≡ components path
unfolding trim_trailing
trim_trailing-components path = trimmed-same path (length path) (omega arith) ∙ ap components (take_all (length path) path (omega arith))

pub trim_trailing-grows : (path : List ℕ) (k : ℕ) → k < length (trim_trailing path) → size (components (take k (trim_trailing path))) < size (components (trim_trailing path))
unfolding trim_trailing
trim_trailing-grows path k lt =
    let n = trimmed_len path (length path) in
    let within = trimmed-len-le path (length path) in
    let long : length (take n path) ≡ n = omega (arith, length-take n path) in
    subst (λ t. size (components t) < size (components (take n path))) (sym (take-take k n path (omega arith)))
    (trimmed-grows path (length path) k (omega arith) (omega arith))

pub trim_trailing-shortest : (path : List ℕ) → IsShortest (trim_trailing path)
trim_trailing-shortest path k lt = λ e. omega (arith, trim_trailing-grows path k lt, ap size e)

-- a text of one byte whose only component is the root is `/`
one_byte : (a : ℕ) → components (a ∷ []) ≡ root ∷ [] → a ≡ slash
one_byte a h = by_test (eqb a slash) (λ e. eqb-true a slash e) (λ e. by_test (eqb a 46) (λ d. absurd (is_here e d)) (λ d. absurd (is_plain e d)))
  where
    is_here : eqb a slash ≡ false → eqb a 46 ≡ true → ⊥
    is_here e d = let at : here ∷ [] ≡ root ∷ [] = sym (ap components (ap (λ x. x ∷ []) (eqb-true a 46 d))) ∙ h in cc

    is_plain : eqb a slash ≡ false → eqb a 46 ≡ false → ⊥
    is_plain e d = let at = simp (e, d) at h in cc

root_text : (text : List ℕ) → (1 < length text → size (components (take 1 text)) < size (components text)) → components text ≡ root ∷ [] → text ≡ slash ∷ []
root_text [] h e = cc
root_text (a ∷ []) h e = ap (λ b. b ∷ []) (one_byte a e)
root_text (a ∷ b ∷ rest) h e = absurd (omega (arith, h (omega arith), byte-grows (a ∷ b ∷ rest) 0 (omega arith) refl, ap size e))

-- a text whose only component is the root is `/`, without what trails
pub trim_trailing-root : (path : List ℕ) → components (trim_trailing path) ≡ root ∷ [] → trim_trailing path ≡ slash ∷ []
trim_trailing-root path e = root_text (trim_trailing path) (trim_trailing-grows path 1) e
