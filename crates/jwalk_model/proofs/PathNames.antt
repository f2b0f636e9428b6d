-- The file name that `std::path` gives is the last component, if that is a plain name.
use Rattle.std.proofs.Common.{◌≡◌, ◌≢◌, ℕ, zero, suc, ◌+◌, ◌-◌, ◌<◌, ◌≤◌, false, ◌||◌, eqb, List, [], ◌∷◌, ◌++◌, length, get_or, take, drop, bytes_eq, Option, Some, None, IfSome, option_map, refl, sym, ap, ap₂, ◌∙◌, ⊎_elim, append-nil, arith, eqb-true, take_all, length-take, lt-ltb}
use Rattle.std.specs.Option.{option_flatten}
use Rattle.std.specs.Path.{root_dir, cur_dir, is_trailing, trim_trailing, rfind_below, rsplit_once, parent_and_last, normal_name, split_last_component, path_file_name}
use Rattle.std.proofs.lemmas.Bool.{cond-true, cond-false, cond_both, both_ways, or_cases, or_parts, or_left, or_right, or_from, and_from, false_from_ne_true, eqb-false}
use Rattle.std.proofs.lemmas.List.{nil_from_length, same_from_push, drop_all, drop-append-le}
use Rattle.std.proofs.lemmas.Slice.Eq.{bytes_eq-Decides}
use Rattle.jwalk_model.specs.Paths.{Component, here, up, plain, slash, dot, dots, parts, component_of, components_of, components, last_of, name_of, file_name}
use Rattle.jwalk_model.proofs.PathFacts.{by_test}
use Rattle.jwalk_model.proofs.PathEnds.{onto_last, onto_last-push, parts-slash, parts-byte, part_grows, push-nonempty, take_next, next-byte, cut, no_dot, trailing-same, size, size-first, before, components-after, trim_trailing-components, trim_trailing-grows}
use Rattle.jwalk_model.proofs.PathParents.{last_of-push}

-- what is after the slash at r, or all of it
abbrev tail_of : List ℕ → Option ℕ → List ℕ
tail_of text None = text
tail_of text (Some i) = drop (i + 1) text

-- r is where the last part of the first n bytes begins
record EndsAt (path : List ℕ) (n : ℕ) (r : Option ℕ) : Type 0 where
  front : List (List ℕ)
  is : parts (take n path) ≡ front ++ tail_of (take n path) r ∷ []
  below : IfSome r (λ i. i < n)

tail_next : (path : List ℕ) (n : ℕ) (r : Option ℕ) → n < length path → IfSome r (λ i. i < n)
    → tail_of (take (suc n) path) r ≡ tail_of (take n path) r ++ get_or path n 0 ∷ []
tail_next path n None l h = take_next path n l
tail_next path n (Some i) l h =
    ap (drop (i + 1)) (take_next path n l) ∙ drop-append-le (i + 1) (take n path) (get_or path n 0 ∷ []) (omega (arith, h, length-take n path))

below_next : (n : ℕ) (r : Option ℕ) → IfSome r (λ i. i < n) → IfSome r (λ i. i < suc n)
below_next n None h = tt
below_next n (Some i) h = omega (arith, h)

ends_at : (path : List ℕ) (n : ℕ) → n ≤ length path → EndsAt path n (rfind_below slash path n)
ends_at path zero l = record { front = []; is = refl; below = tt }
ends_at path (suc n) l =
    let b = get_or path n 0 in
    let r = rfind_below slash path n in
    let prev = ends_at path n (omega arith) in
    let tail = tail_of (take n path) r in
    cond_both (eqb b slash) (Some n) r (EndsAt path (suc n))
    (λ e. record {
      front = prev.front ++ tail ∷ [];
      is = ap parts (take_next path n (omega arith) ∙ ap (λ x. take n path ++ x ∷ []) (eqb-true b slash e))
          ∙ parts-slash (take n path)
          ∙ ap₂ (λ ps t. ps ++ t ∷ []) prev.is (sym (drop_all (n + 1) (take (suc n) path) (omega (arith, length-take (suc n) path))));
      below = omega arith;
    })
    (λ e. record {
      front = prev.front;
      is = ap parts (take_next path n (omega arith)) ∙ parts-byte b (take n path) e ∙ ap (onto_last b) prev.is ∙ onto_last-push b prev.front tail
          ∙ ap (λ t. prev.front ++ t ∷ []) (sym (tail_next path n r (omega arith) prev.below));
      below = below_next n r prev.below;
    })

last-is : (path : List ℕ) (r : Option ℕ) → (parent_and_last path (option_map (λ i. (take i path, drop (i + 1) path)) r)).1 ≡ tail_of path r
last-is path None = refl
last-is path (Some i) = refl

-- the last part, as std finds it
last_part : (path : List ℕ) → (front : List (List ℕ)) × (parts path ≡ front ++ (parent_and_last path (rsplit_once slash path)).1 ∷ [])
unfolding rsplit_once
last_part path =
    let r = rfind_below slash path (length path) in
    let found = ends_at path (length path) (omega arith) in
    let whole = take_all (length path) path (omega arith) in
    (found.front, ap parts (sym whole) ∙ found.is ∙ ap (λ t. found.front ++ t ∷ []) (ap (λ p. tail_of p r) whole ∙ sym (last-is path r)))

-- the last part of a text where nothing trails gives a component
last_named : (path : List ℕ) (front : List (List ℕ)) (last : List ℕ) → 0 < length path → is_trailing path (length path - 1) ≡ false → path ≢ root_dir → parts path ≡ front ++ last ∷ []
    → (last ≢ []) × (front ≢ [] → component_of last ≢ [])
last_named path front last some ends other is =
    let n = length path - 1 in
    let b = get_or path n 0 in
    let c = cut path n (omega arith) in
    let whole : take (suc n) path ≡ path = take_all (suc n) path (omega arith) in
    by_test (eqb b slash)
    (λ e.
    let first : n ≡ 0 = by_test (eqb n 0) (λ z. eqb-true n 0 z) (λ z. absurd (both_ways _ ends (and_from _ _ (lt-ltb 0 n (omega (arith, eqb-false n 0 z))) (or_left _ _ e)))) in
    let root : path ≡ root_dir = sym whole ∙ take_next path n (omega arith) ∙ ap₂ (λ k x. take k path ++ x ∷ []) first (eqb-true b slash e) in
    absurd (other root))
    (λ e.
    let same = same_from_push front c.front last (c.last ++ b ∷ []) (sym is ∙ ap parts (sym whole) ∙ next-byte path n (omega arith) c e) in (
      (λ z. push-nonempty c.last b (sym same.1 ∙ z)),
      λ more z.
          let later : 0 < n = by_test (eqb n 0) (λ at. absurd (more (same.0 ∙ (c.empty (eqb-true n 0 at)).0))) (λ at. omega (arith, eqb-false n 0 at)) in
          omega (arith, part_grows c.last b (no_dot path n c ends later), ap (λ l. size (component_of l)) same.1, ap size z),
    ))

-- the name that a part is
part_name : (part : List ℕ) → component_of part ≢ [] → (c : Component) × (component_of part ≡ c ∷ []) × (name_of (Some c) ≡ normal_name part)
part_name part h =
    by_test (bytes_eq part [] || bytes_eq part dot)
    (λ e. absurd (h (cond-true _ _ _ e)))
    (λ e.
    let not_dot = (or_parts (bytes_eq part []) (bytes_eq part dot) e).1 in
    by_test (bytes_eq part dots)
    (λ d. (up, cond-false _ _ _ e ∙ cond-true _ _ _ d, sym (cond-true _ None (Some part) (or_right (bytes_eq part cur_dir) _ d))))
    (λ d. (plain part, cond-false _ _ _ e ∙ cond-false _ _ _ d, sym (cond-false _ None (Some part) (or_from _ _ not_dot d)))))

name_after : (cs : List Component) (part : List ℕ) → component_of part ≢ [] → name_of (last_of (cs ++ (component_of part ++ []))) ≡ normal_name part
name_after cs part h =
    let one = part_name part h in
    ap (λ ds. name_of (last_of (cs ++ ds))) (append-nil (component_of part) ∙ one.1) ∙ ap name_of (last_of-push cs one.0) ∙ one.2

name_at_end : (front : List (List ℕ)) (last : List ℕ) → last ≢ [] → (front ≢ [] → component_of last ≢ []) → name_of (last_of (components_of (front ++ last ∷ []))) ≡ normal_name last
name_at_end [] [] some h = absurd (some refl)
name_at_end [] (c ∷ cs) some h =
    let part = c ∷ cs in
    by_test (bytes_eq part dot)
    (λ e. ap (λ ds. name_of (last_of (ds ++ []))) (cond-true (bytes_eq part dot) (here ∷ []) (component_of part) e) ∙ sym (cond-true _ None (Some part) (or_left _ _ e)))
    (λ e.
    let plain_one = cond-false (bytes_eq part dot) (here ∷ []) (component_of part) e in
    ap (λ ds. name_of (last_of (ds ++ []))) plain_one ∙ name_after [] part (λ z. omega (arith, size-first part, ap size plain_one, ap size z)))
name_at_end (p ∷ ps) last some h = ap (λ ds. name_of (last_of ds)) (components-after p ps last []) ∙ name_after (before p ps) last (h (λ z. cc))

trimmed_ends : (path : List ℕ) → 0 < length (trim_trailing path) → is_trailing (trim_trailing path) (length (trim_trailing path) - 1) ≡ false
trimmed_ends path some =
    let text = trim_trailing path in
    let n = length text - 1 in
    false_from_ne_true _ (λ e.
    let whole : take (suc n) text ≡ text = take_all (suc n) text (omega arith) in
    omega (arith, trim_trailing-grows path n (omega arith), ap size (trailing-same text n (omega arith) e), ap (λ t. size (components t)) whole))

-- the file name that `std::path` gives
pub path_file_name_is : (text : List ℕ) → path_file_name text ≡ file_name text
unfolding path_file_name split_last_component
path_file_name_is text =
    let trimmed = trim_trailing text in
    let empty = eqb (length trimmed) 0 in
    let is_root = bytes_eq trimmed root_dir in
    let split = parent_and_last trimmed (rsplit_once slash trimmed) in
    let same : file_name trimmed ≡ file_name text = ap (λ cs. name_of (last_of cs)) (trim_trailing-components text) in
    cond_both (empty || is_root) None (Some split) (λ r. option_flatten (option_map (λ s. normal_name s.1) r) ≡ file_name text)
    (λ e. ⊎_elim (λ z. sym (ap file_name (nil_from_length trimmed (eqb-true _ 0 z))) ∙ same) (λ z. sym (ap file_name ((bytes_eq-Decides trimmed root_dir).0 z)) ∙ same) (or_cases empty is_root e))
    (λ e.
    let neither = or_parts empty is_root e in
    let some : 0 < length trimmed = omega (arith, eqb-false (length trimmed) 0 neither.0) in
    let found = last_part trimmed in
    let named = last_named trimmed found.0 split.1 some (trimmed_ends text some) (λ z. both_ways _ neither.1 ((bytes_eq-Decides trimmed root_dir).1 z)) found.1 in
    sym (name_at_end found.0 split.1 named.0 named.1) ∙ sym (ap (λ ps. name_of (last_of (components_of ps))) found.1) ∙ same)
