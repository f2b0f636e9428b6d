-- How a frontier changes with the last index of its address and the last count.
use Rattle.std.proofs.Common.{◌≡◌, ◌≢◌, ℕ, suc, ◌+◌, ◌-◌, ◌<◌, List, [], ◌∷◌, ◌++◌, length, get_or, set, take, refl, sym, ap, ◌∙◌, arith, append_assoc}
use Rattle.std.proofs.lemmas.List.{append-nil, take_more, take_all, take_more_set, length-set, length-take, get_or-take, get_or_default}
use Rattle.jwalk_order.specs.Frontier.{children_from, passed}
use Rattle.jwalk_order.specs.OrderedMatcher.{siblings, frontier_of, IsPaired}

pub siblings-push : (parent indices counts : List ℕ) (i count : ℕ) → length indices ≡ length counts
    → siblings parent (indices ++ i ∷ []) (counts ++ count ∷ []) ≡ children_from (i + 1) (parent ++ indices) count ++ siblings parent indices counts
siblings-push parent [] [] i count same =
    sym (append-nil _ ∙ ap (λ p. children_from (i + 1) p count) (append-nil parent))
siblings-push parent [] (d ∷ counts) i count same = absurd (omega arith)
siblings-push parent (j ∷ indices) [] i count same = absurd (omega arith)
siblings-push parent (j ∷ indices) (d ∷ counts) i count same =
    ap (λ z. z ++ children_from (j + 1) parent d) (siblings-push (parent ++ j ∷ []) indices counts i count (omega arith))
    ∙ append_assoc (children_from (i + 1) ((parent ++ j ∷ []) ++ indices) count) (siblings (parent ++ j ∷ []) indices counts) (children_from (j + 1) parent d)
    ∙ ap (λ p. children_from (i + 1) p count ++ (siblings (parent ++ j ∷ []) indices counts ++ children_from (j + 1) parent d)) (append_assoc parent (j ∷ []) indices)

frontier_of-push : (indices counts : List ℕ) (i : ℕ) → frontier_of (indices ++ i ∷ []) counts ≡ (indices ++ i ∷ []) ∷ siblings [] (indices ++ i ∷ []) counts
frontier_of-push [] counts i = refl
frontier_of-push (j ∷ indices) counts i = refl

frontier_of-some : (indices counts : List ℕ) → 0 < length indices → frontier_of indices counts ≡ indices ∷ siblings [] indices counts
frontier_of-some [] counts some = absurd (omega arith)
frontier_of-some (j ∷ indices) counts some = refl

-- Going to the first of `suc count` children passes the address.
pub frontier_of-enter : (indices counts : List ℕ) (count : ℕ) → length indices ≡ length counts → 0 < length indices
    → frontier_of (indices ++ 0 ∷ []) (counts ++ count ∷ []) ≡ passed (frontier_of indices counts) (suc count)
frontier_of-enter indices counts count same some =
    frontier_of-push indices (counts ++ count ∷ []) 0
    ∙ ap (λ z. (indices ++ 0 ∷ []) ∷ z) (siblings-push [] indices counts 0 count same)
    ∙ ap (λ z. passed z (suc count)) (sym (frontier_of-some indices counts some))

-- The next sibling is the first of those behind the last index.
siblings-next : (indices counts : List ℕ) (i count : ℕ) → length indices ≡ length counts
    → frontier_of (indices ++ (i + 1) ∷ []) (counts ++ count ∷ []) ≡ siblings [] (indices ++ i ∷ []) (counts ++ suc count ∷ [])
siblings-next indices counts i count same =
    frontier_of-push indices (counts ++ count ∷ []) (i + 1)
    ∙ ap (λ z. (indices ++ (i + 1) ∷ []) ∷ z) (siblings-push [] indices counts (i + 1) count same)
    ∙ sym (siblings-push [] indices counts i (suc count) same)

last_split : (xs : List ℕ) → 0 < length xs → xs ≡ take (length xs - 1) xs ++ get_or xs (length xs - 1) 0 ∷ []
last_split xs some =
    sym (take_all _ xs (omega arith)) ∙ take_more xs (length xs - 1) 0 (omega arith)

set_last : (xs : List ℕ) (y : ℕ) → 0 < length xs → set xs (length xs - 1) y ≡ take (length xs - 1) xs ++ y ∷ []
set_last xs y some =
    sym (take_all (length xs - 1 + 1) (set xs (length xs - 1) y) (omega (arith, length-set xs (length xs - 1) y)))
    ∙ take_more_set xs (length xs - 1) y (omega arith)

-- The last index has no sibling left.
pub siblings-take : (indices counts : List ℕ) → length indices ≡ length counts → 0 < length counts → get_or counts (length counts - 1) 0 ≡ 0
    → siblings [] (take (length indices - 1) indices) (take (length counts - 1) counts) ≡ siblings [] indices counts
siblings-take indices counts same some none =
    let is : List ℕ = take (length indices - 1) indices in
    let cs : List ℕ = take (length counts - 1) counts in
    let i : ℕ = get_or indices (length indices - 1) 0 in
    let split-is : indices ≡ is ++ i ∷ [] = last_split indices (omega arith) in
    let split-cs : counts ≡ cs ++ 0 ∷ [] = last_split counts some ∙ ap (λ n. cs ++ n ∷ []) none in
    let same' : length is ≡ length cs = simp length-take (omega arith) in
    sym (ap (λ xs. siblings [] xs counts) split-is ∙ ap (siblings [] (is ++ i ∷ [])) split-cs ∙ siblings-push [] is cs i 0 same')

-- The next sibling of the last index is the first address behind.
pub frontier_of-step : (indices counts : List ℕ) → length indices ≡ length counts → 0 < length counts → 0 < get_or counts (length counts - 1) 0
    → frontier_of (set indices (length indices - 1) (get_or indices (length indices - 1) 0 + 1)) (set counts (length counts - 1) (get_or counts (length counts - 1) 0 - 1))
    ≡ siblings [] indices counts
frontier_of-step indices counts same some more =
    let is : List ℕ = take (length indices - 1) indices in
    let cs : List ℕ = take (length counts - 1) counts in
    let i : ℕ = get_or indices (length indices - 1) 0 in
    let n : ℕ = get_or counts (length counts - 1) 0 in
    let same' : length is ≡ length cs = simp length-take (omega arith) in
    let again : suc (n - 1) ≡ n = omega arith in
    ap (λ xs. frontier_of xs (set counts (length counts - 1) (n - 1))) (set_last indices (i + 1) (omega arith))
    ∙ ap (frontier_of (is ++ (i + 1) ∷ [])) (set_last counts (n - 1) some)
    ∙ siblings-next is cs i (n - 1) same'
    ∙ ap (λ m. siblings [] (is ++ i ∷ []) (cs ++ m ∷ [])) again
    ∙ sym (ap (λ xs. siblings [] xs counts) (last_split indices (omega arith)) ∙ ap (siblings [] (is ++ i ∷ [])) (last_split counts some))

pub IsPaired-take : (indices counts : List ℕ) → IsPaired indices counts → IsPaired (take (length indices - 1) indices) (take (length counts - 1) counts)
IsPaired-take indices counts paired = record {
  same = simp length-take (let same = paired.same in omega arith);
  room = λ k below.
      let same = paired.same in
      let at_index : k < length indices - 1 = omega (arith, length-take (length indices - 1) indices) in
      let at_count : k < length counts - 1 = omega arith in
      omega (arith, get_or-take (length indices - 1) indices k 0 at_index, get_or-take (length counts - 1) counts k 0 at_count, paired.room k (omega arith));
}

-- The same as a step of the code: n and m are what the vectors say of their lengths.
pub record Leaves (indices counts indices' counts' : List ℕ) : Type 0 where
  pub paired : IsPaired indices' counts'
  pub same : siblings [] indices' counts' ≡ siblings [] indices counts

pub leaves : (indices counts : List ℕ) (n m : ℕ) → n ≡ length indices → m ≡ length counts → IsPaired indices counts
    → 0 < m → get_or counts (m - 1) 0 ≡ 0 → Leaves indices counts (take (n - 1) indices) (take (m - 1) counts)
leaves indices counts n m n-is m-is paired some none =
    let some' : 0 < length counts = omega arith in
    let none' : get_or counts (length counts - 1) 0 ≡ 0 = rw (← m-is) none in
    rw (n-is, m-is) record {
      paired = IsPaired-take indices counts paired;
      same = siblings-take indices counts paired.same some' none';
    }

pub length-frontier_of : (indices counts : List ℕ) → frontier_of indices counts ≢ [] → 0 < length indices
length-frontier_of [] counts some = absurd (some refl)
length-frontier_of (i ∷ indices) counts some = omega arith

-- The same at a frontier f, and n children.
pub enters : (indices counts : List ℕ) (f : List (List ℕ)) (n : ℕ) → frontier_of indices counts ≡ f → f ≢ [] → IsPaired indices counts → 0 < n
    → frontier_of (indices ++ 0 ∷ []) (counts ++ (n - 1) ∷ []) ≡ passed f n
enters indices counts f n f-is some paired children =
    let some' : 0 < length indices = length-frontier_of indices counts (λ none. some (sym f-is ∙ none)) in
    let again : suc (n - 1) ≡ n = omega arith in
    frontier_of-enter indices counts (n - 1) paired.same some' ∙ ap (λ m. passed (frontier_of indices counts) m) again
    ∙ ap (λ z. passed z n) f-is

passed-none : (indices counts : List ℕ) (f : List (List ℕ)) → frontier_of indices counts ≡ f → f ≢ [] → passed f 0 ≡ siblings [] indices counts
passed-none indices counts f f-is some =
    let some' : 0 < length indices = length-frontier_of indices counts (λ none. some (sym f-is ∙ none)) in
    ap (λ z. passed z 0) (sym f-is ∙ frontier_of-some indices counts some')

-- What is left goes on with the next sibling: `last` is the index of the last count, and x that count.
pub goes_on : (before_i before_c indices counts : List ℕ) (f : List (List ℕ)) (last x : ℕ) → frontier_of before_i before_c ≡ f → f ≢ []
    → siblings [] indices counts ≡ siblings [] before_i before_c → length indices ≡ length counts → last + 1 ≡ length counts
    → x ≡ get_or counts last x → (0 < length counts → 0 < get_or counts (length counts - 1) 0)
    → frontier_of (set indices (length indices - 1) (get_or indices (length indices - 1) 0 + 1)) (set counts last (x - 1)) ≡ passed f 0
goes_on before_i before_c indices counts f last x f-is some left same last-is x-is unfinished =
    let some_count : 0 < length counts = omega arith in
    let at_last : last ≡ length counts - 1 = omega arith in
    let x-is' : x ≡ get_or counts (length counts - 1) 0 = x-is ∙ get_or_default counts last x 0 (omega arith) ∙ ap (λ k. get_or counts k 0) at_last in
    rw (at_last, x-is') (frontier_of-step indices counts same some_count (unfinished some_count) ∙ left ∙ sym (passed-none before_i before_c f f-is some))
