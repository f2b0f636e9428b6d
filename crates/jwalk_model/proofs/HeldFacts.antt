-- What one step of a walk does to what is held.
use Rattle.std.proofs.Common.{◌≡◌, if◌then◌else◌, ℕ, zero, suc, ◌+◌, ◌-◌, ◌*◌, ◌^◌, ◌<◌, ◌≤◌, Bool, true, false, not, is_some, List, [], ◌∷◌, ◌++◌, map, length, Some, None, option_to_list, Ok, Err, refl, sym, ap, ◌∙◌, arith}
use Rattle.std.proofs.Math.Nat.{mul-le-mul_right}
use Rattle.std.proofs.lemmas.Grind.{flat_map-append}
use Rattle.std.specs.Prelude.{flat_map, option_map}
use Rattle.jwalk_model.specs.Entry.{Entry, Item, has_directory, AtDepth}
use Rattle.jwalk_model.specs.ReadDir.{Spec, Outcome, spec_of, spec_below, children_of, list_of, IsLawfulReading, AreClones}
use Rattle.jwalk_model.proofs.CloneFacts.{depths, same_depths}
use Rattle.jwalk_model.specs.Listing.{Pair, nothing, unread, source_of, pair, paired, pairs_of, after_reading, levels_of, stands, below, listing}
use Rattle.jwalk_model.specs.Held.{first_source, after_first, pair_up, is_plain, bound, source_weight, weight, sources, AreSourced}

module _ {R E : Type 0} where
  -- a list that was read is in front of the rest as its pairs
  front : (state : R) (l xs : List (Item R E)) (ss : List (Spec R)) → pair_up (l ++ xs) (flat_map (λ item. option_to_list (spec_of state item)) l ++ ss) ≡ map (pair state) l ++ pair_up xs ss
  front state [] xs ss = refl
  front state (Err f ∷ l) xs ss = ap (λ t. record { item = Err f; source = nothing } ∷ t) (front state l xs ss)
  front state (Ok e ∷ l) xs ss =
      let tail : List (Spec R) = flat_map (λ item. option_to_list (spec_of state item)) l in
      elim e.read_children as (λ o. record { item = Ok e; source = first_source (is_some o) ((option_to_list (option_map (spec_below state e) o) ++ tail) ++ ss) } ∷ pair_up (l ++ xs) (after_first (is_some o) ((option_to_list (option_map (spec_below state e) o) ++ tail) ++ ss)) ≡ record { item = Ok e; source = source_of (option_map (spec_below state e) o) } ∷ (map (pair state) l ++ pair_up xs ss)) [
        | None ↦ ap (λ t. record { item = Ok e; source = nothing } ∷ t) (front state l xs ss)
        | Some c ↦ ap (λ t. record { item = Ok e; source = unread (spec_below state e c) } ∷ t) (front state l xs ss)
      ]

  -- an outcome's list is in front of the rest as its pairs
  pub pair_up-outcome : (outcome : Outcome R E) (xs : List (Item R E)) (ss : List (Spec R)) → pair_up (list_of outcome ++ xs) (children_of outcome ++ ss) ≡ pairs_of outcome ++ pair_up xs ss
  pair_up-outcome (Ok r) xs ss = front r.state r.list xs ss
  pair_up-outcome (Err f) xs ss = refl

  -- the weight of a list depends only on the depths of its specifications
  same_weight : (max_depth : ℕ) (xs : List (Item R E)) (ss ts : List (Spec R)) → depths ss ≡ depths ts → weight max_depth (pair_up xs ss) ≡ weight max_depth (pair_up xs ts)
  same_weight max_depth [] ss ts h = refl
  same_weight max_depth (x ∷ xs) [] [] h = refl
  same_weight max_depth (x ∷ xs) [] (t ∷ ts) h = cc
  same_weight max_depth (x ∷ xs) (s ∷ ss) [] h = cc
  same_weight max_depth (x ∷ xs) (s ∷ ss) (t ∷ ts) h =
      elim (has_directory x) as (λ b. source_weight {E = E} max_depth (first_source b (s ∷ ss)) + weight max_depth (pair_up xs (after_first b (s ∷ ss))) ≡ source_weight {E = E} max_depth (first_source b (t ∷ ts)) + weight max_depth (pair_up xs (after_first b (t ∷ ts)))) [
        | false ↦ ap (λ n. 1 + n) (same_weight max_depth xs (s ∷ ss) (t ∷ ts) h)
        | true ↦
            let head : s.depth ≡ t.depth = cc in
            let tail : depths ss ≡ depths ts = cc in
            rw head (ap (λ n. bound (max_depth - t.depth) + n) (same_weight max_depth xs ss ts tail))
      ]

  weight-append : (max_depth : ℕ) (ps qs : List (Pair R E)) → weight max_depth (ps ++ qs) ≡ weight max_depth ps + weight max_depth qs
  weight-append max_depth [] qs = omega arith
  weight-append max_depth (p ∷ ps) qs = omega (arith, weight-append max_depth ps qs)

pub bound_pos : (n : ℕ) → 1 ≤ bound n
unfolding bound
bound_pos zero = omega arith
bound_pos (suc n) = omega arith

-- less than 2 ^ 64 times the bound below is below the bound
pub below_bound : (n len w : ℕ) → len < 2 ^ 64 → w ≤ len * bound n → w < bound (suc n)
unfolding bound
below_bound n len w few h = let more : len * bound n ≤ 2 ^ 64 * bound n = mul-le-mul_right (bound n) (omega arith) in omega arith

module _ {R E : Type 0} where
  one_source : (max_depth depth : ℕ) (state : R) (e : Entry R E) → e.depth ≡ depth → source_weight {E = E} max_depth (source_of (spec_of {E = E} state (Ok e))) ≤ bound (max_depth - depth)
  one_source max_depth depth state e h =
      elim e.read_children as (λ o. source_weight {E = E} max_depth (source_of (option_map (spec_below state e) o)) ≤ bound (max_depth - depth)) [
        | None ↦ bound_pos (max_depth - depth)
        | Some c ↦ rw h (omega arith)
      ]

  -- what is paired weighs no more than as many times the bound below
  weight-paired : (max_depth depth : ℕ) (state : R) (l : List (Item R E)) → AtDepth depth l → weight max_depth (map (pair state) l) ≤ length l * bound (max_depth - depth)
  weight-paired max_depth depth state [] a = omega arith
  weight-paired max_depth depth state (Err f ∷ l) a = omega (arith, weight-paired max_depth depth state l a, bound_pos (max_depth - depth))
  weight-paired max_depth depth state (Ok e ∷ l) a = omega (arith, weight-paired max_depth depth state l a.1, one_source max_depth depth state e a.0)

  -- the pairs of an outcome weigh less than its specification
  lighter_at : (max_depth n : ℕ) (s : Spec R) (outcome : Outcome R E) → IsLawfulReading max_depth s outcome → length (list_of outcome) < 2 ^ 64 → max_depth - s.depth ≡ n → weight max_depth (pairs_of outcome) < bound n
  lighter_at max_depth n s (Err f) lawful few levels = bound_pos n
  lighter_at max_depth zero s (Ok r) lawful few levels =
      let none : r.list ≡ [] = lawful.1 (omega arith) in
      rw none (bound_pos 0)
  lighter_at max_depth (suc n) s (Ok r) lawful few levels =
      below_bound n (length r.list) (weight max_depth (paired r)) few
      (let same : max_depth - (s.depth + 1) ≡ n = omega arith in rw same at (weight-paired max_depth (s.depth + 1) r.state r.list lawful.0))

  -- reading the directory of an entry makes what is held lighter
  pub lighter : (max_depth : ℕ) (is_clone : R → R → Type 0) (e : Entry R E) (xs : List (Item R E)) (first : Spec R) (rest front : List (Spec R)) (outcome : Outcome R E) → has_directory {R = R} (Ok e) ≡ true → IsLawfulReading max_depth first outcome → length (list_of outcome) < 2 ^ 64 → AreClones is_clone (children_of outcome) front → weight max_depth (pair_up (list_of outcome ++ xs) (front ++ rest)) < weight max_depth (pair_up (Ok e ∷ xs) (first ∷ rest))
  lighter max_depth is_clone e xs first rest front outcome dir lawful few clones =
      rw (dir, same_weight max_depth (list_of outcome ++ xs) (front ++ rest) (children_of outcome ++ rest) (same_depths is_clone (children_of outcome) front rest clones), pair_up-outcome outcome xs rest, weight-append max_depth (pairs_of outcome) (pair_up xs rest))
      (omega (arith, lighter_at max_depth (max_depth - first.depth) first outcome lawful few refl))

heavy_source : {R : Type 0} (E : Type 0) (max_depth : ℕ) (b : Bool) (ss : List (Spec R)) → 1 ≤ source_weight {R = R} {E = E} max_depth (first_source b ss)
heavy_source E max_depth false ss = omega arith
heavy_source E max_depth true [] = omega arith
heavy_source E max_depth true (s ∷ ss) = bound_pos (max_depth - s.depth)

module _ {R E : Type 0} where
  -- what is held isn't nothing
  pub heavy : (max_depth : ℕ) (x : Item R E) (xs : List (Item R E)) (ss : List (Spec R)) → 0 < weight max_depth (pair_up (x ∷ xs) ss)
  heavy max_depth x xs ss = omega (arith, heavy_source E max_depth (has_directory x) ss)

  -- an item that has no directory, or for whose directory there is no specification
  pub lighter_alone : (max_depth : ℕ) (x : Item R E) (xs : List (Item R E)) (ss : List (Spec R)) → weight max_depth (pair_up xs (after_first (has_directory x) ss)) < weight max_depth (pair_up (x ∷ xs) ss)
  lighter_alone max_depth x xs ss = omega (arith, heavy_source E max_depth (has_directory x) ss)

module _ {R E : Type 0} (reading : Spec R → Outcome R E) where
  below-nothing : (n : ℕ) → below reading n nothing ≡ []
  unfolding below
  below-nothing zero = refl
  below-nothing (suc n) = refl

  pub listing-append : (max_depth : ℕ) (ps qs : List (Pair R E)) → listing reading max_depth (ps ++ qs) ≡ listing reading max_depth ps ++ listing reading max_depth qs
  listing-append max_depth ps qs = flat_map-append (λ (p : Pair R E). stands reading p.item p.source ∷ below reading (levels_of max_depth p.source) p.source) ps qs

  -- a level below a directory, as many levels are left as below each of its entries
  one_below : (max_depth depth n : ℕ) (state : R) (e : Entry R E) → e.depth ≡ depth → max_depth - depth ≡ n → below reading n (source_of (spec_of {E = E} state (Ok e))) ≡ below reading (levels_of {E = E} max_depth (source_of (spec_of {E = E} state (Ok e)))) (source_of (spec_of {E = E} state (Ok e)))
  one_below max_depth depth n state e h levels =
      elim e.read_children as (λ o. below reading n (source_of (option_map (spec_below state e) o)) ≡ below reading (levels_of {E = E} max_depth (source_of (option_map (spec_below state e) o))) (source_of (option_map (spec_below state e) o))) [
        | None ↦ below-nothing n ∙ sym (below-nothing 0)
        | Some c ↦ ap (λ k. below reading k (unread (spec_below state e c))) (sym levels ∙ ap (λ d. max_depth - d) (sym h))
      ]

  -- what is below a list that was read is its listing
  list_below : (max_depth depth n : ℕ) (state : R) (l : List (Item R E)) → AtDepth depth l → max_depth - depth ≡ n → flat_map (λ (p : Pair R E). stands reading p.item p.source ∷ below reading n p.source) (map (pair state) l) ≡ listing reading max_depth (map (pair state) l)
  list_below max_depth depth n state [] a levels = refl
  list_below max_depth depth n state (Err f ∷ l) a levels = rw (below-nothing n, below-nothing 0) (ap (λ t. Err f ∷ t) (list_below max_depth depth n state l a levels))
  list_below max_depth depth n state (Ok e ∷ l) a levels = rw (one_below max_depth depth n state e a.0 levels, list_below max_depth depth n state l a.1 levels) refl

  opened_at : (max_depth n : ℕ) (s : Spec R) (outcome : Outcome R E) → outcome ≡ reading s → IsLawfulReading max_depth s outcome → max_depth - s.depth ≡ n → below reading n (unread s) ≡ listing reading max_depth (pairs_of outcome)
  unfolding below
  opened_at max_depth zero s (Ok r) is lawful levels =
      let none : r.list ≡ [] = lawful.1 (omega arith) in
      rw none refl
  opened_at max_depth zero s (Err f) is lawful levels = refl
  opened_at max_depth (suc n) s (Ok r) is lawful levels = rw (← is) (list_below max_depth (s.depth + 1) n r.state r.list lawful.0 (omega arith))
  opened_at max_depth (suc n) s (Err f) is lawful levels = rw (← is) refl

  -- what is listed of an entry and the rest, once its directory was read
  pub listed : (max_depth : ℕ) (e : Entry R E) (xs : List (Item R E)) (first : Spec R) (rest : List (Spec R)) (outcome : Outcome R E) → has_directory {R = R} (Ok e) ≡ true → IsLawfulReading max_depth first outcome → outcome ≡ reading first → listing reading max_depth (pair_up (Ok e ∷ xs) (first ∷ rest)) ≡ after_reading outcome (Ok e) ∷ listing reading max_depth (pair_up (list_of outcome ++ xs) (children_of outcome ++ rest))
  listed max_depth e xs first rest outcome dir lawful is =
      rw (dir, pair_up-outcome outcome xs rest, listing-append max_depth (pairs_of outcome) (pair_up xs rest), ← is, opened_at max_depth (max_depth - first.depth) first outcome is lawful refl)
      refl

  -- an item with no directory
  pub alone : (max_depth : ℕ) (x : Item R E) (xs : List (Item R E)) (ss : List (Spec R)) → has_directory x ≡ false → listing reading max_depth (pair_up (x ∷ xs) ss) ≡ x ∷ listing reading max_depth (pair_up xs ss)
  alone max_depth x xs ss h = rw (h, below-nothing 0) refl

  -- an item where nothing is left to be read
  pub unread_none : (max_depth : ℕ) (x : Item R E) (xs : List (Item R E)) (ss : List (Spec R)) → ss ≡ [] → has_directory x ≡ true → listing reading max_depth (pair_up (x ∷ xs) ss) ≡ x ∷ listing reading max_depth (pair_up xs [])
  unread_none max_depth x xs ss h dir = rw (h, dir, below-nothing 0) refl

-- entries of one depth, one list after another
pub AtDepth-append : {R E : Type 0} (depth : ℕ) (l m : List (Item R E)) → AtDepth depth l → AtDepth depth m → AtDepth depth (l ++ m)
AtDepth-append depth [] m a b = b
AtDepth-append depth (Ok e ∷ l) m a b = (a.0, AtDepth-append depth l m a.1 b)
AtDepth-append depth (Err f ∷ l) m a b = AtDepth-append depth l m a b

module _ {R E : Type 0} where
  -- how many items of a list have a directory
  abbrev pub directories : List (Item R E) → ℕ
  directories [] = 0
  directories (x ∷ xs) = (if has_directory x then 1 else 0) + directories xs

  as_many : (state : R) (l : List (Item R E)) → length (flat_map (λ item. option_to_list (spec_of state item)) l) ≡ directories l
  as_many state [] = refl
  as_many state (Err f ∷ l) = as_many state l ∙ omega arith
  as_many state (Ok e ∷ l) =
      let tail : List (Spec R) = flat_map (λ item. option_to_list (spec_of state item)) l in
      elim e.read_children as (λ o. length (option_to_list (option_map (spec_below state e) o) ++ tail) ≡ (if is_some o then 1 else 0) + directories l) [
        | None ↦ as_many state l ∙ omega arith
        | Some c ↦ omega (arith, as_many state l)
      ]

  all_sources : (xs : List (Item R E)) (ss : List (Spec R)) → length ss ≡ directories xs → sources (pair_up xs ss) ≡ ss
  all_sources [] [] h = refl
  all_sources [] (s ∷ ss) h = absurd (omega (arith, h))
  all_sources (x ∷ xs) [] h =
      elim (has_directory x) as (λ b. 0 ≡ (if b then 1 else 0) + directories xs → sources (record { item = x; source = first_source {R = R} {E = E} b [] } ∷ pair_up xs (after_first b [])) ≡ []) [
        | false ↦ λ same. all_sources xs [] (omega (arith, same))
        | true ↦ λ same. absurd (omega (arith, same))
      ] h
  all_sources (x ∷ xs) (s ∷ ss) h =
      elim (has_directory x) as (λ b. length (s ∷ ss) ≡ (if b then 1 else 0) + directories xs → sources (record { item = x; source = first_source {R = R} {E = E} b (s ∷ ss) } ∷ pair_up xs (after_first b (s ∷ ss))) ≡ s ∷ ss) [
        | false ↦ λ same. all_sources xs (s ∷ ss) (omega (arith, same))
        | true ↦ λ same. ap (λ l. s ∷ l) (all_sources xs ss (omega (arith, same)))
      ] h

  all_sourced : (xs : List (Item R E)) (ss : List (Spec R)) → length ss ≡ directories xs → AreSourced (pair_up xs ss)
  all_sourced [] ss h = tt
  all_sourced (x ∷ xs) [] h =
      elim (has_directory x) as (λ b. 0 ≡ (if b then 1 else 0) + directories xs → (is_plain (first_source {R = R} {E = E} b []) ≡ not b) × AreSourced (pair_up xs (after_first {R = R} b []))) [
        | false ↦ λ same. (refl, all_sourced xs [] (omega (arith, same)))
        | true ↦ λ same. absurd (omega (arith, same))
      ] h
  all_sourced (x ∷ xs) (s ∷ ss) h =
      elim (has_directory x) as (λ b. length (s ∷ ss) ≡ (if b then 1 else 0) + directories xs → (is_plain (first_source {R = R} {E = E} b (s ∷ ss)) ≡ not b) × AreSourced (pair_up xs (after_first b (s ∷ ss)))) [
        | false ↦ λ same. (refl, all_sourced xs (s ∷ ss) (omega (arith, same)))
        | true ↦ λ same. (refl, all_sourced xs ss (omega (arith, same)))
      ] h

  -- as many specifications as directories: then each directory has its source, and each specification is one
  pub sourced : (xs : List (Item R E)) (ss : List (Spec R)) → length ss ≡ directories xs → AreSourced (pair_up xs ss) × (ss ≡ sources (pair_up xs ss))
  sourced xs ss h = (all_sourced xs ss h, sym (all_sources xs ss h))

  count_sources : (xs : List (Item R E)) (ss : List (Spec R)) → AreSourced (pair_up xs ss) → length (sources (pair_up xs ss)) ≡ directories xs
  count_sources [] ss h = refl
  count_sources (x ∷ xs) [] h =
      elim (has_directory x) as (λ b. (is_plain (first_source {R = R} {E = E} b []) ≡ not b) × AreSourced (pair_up xs (after_first {R = R} b [])) → length (sources (record { item = x; source = first_source {R = R} {E = E} b [] } ∷ pair_up xs (after_first b []))) ≡ (if b then 1 else 0) + directories xs) [
        | false ↦ λ k. omega (arith, count_sources xs [] k.1)
        | true ↦ λ k. let no : true ≡ false = k.0 in cc
      ] h
  count_sources (x ∷ xs) (s ∷ ss) h =
      elim (has_directory x) as (λ b. (is_plain (first_source {R = R} {E = E} b (s ∷ ss)) ≡ not b) × AreSourced (pair_up xs (after_first b (s ∷ ss))) → length (sources (record { item = x; source = first_source {R = R} {E = E} b (s ∷ ss) } ∷ pair_up xs (after_first b (s ∷ ss)))) ≡ (if b then 1 else 0) + directories xs) [
        | false ↦ λ k. omega (arith, count_sources xs (s ∷ ss) k.1)
        | true ↦ λ k. omega (arith, count_sources xs ss k.1)
      ] h

  -- and the other way round
  pub sourced_count : (xs : List (Item R E)) (ss : List (Spec R)) → AreSourced (pair_up xs ss) → ss ≡ sources (pair_up xs ss) → length ss ≡ directories xs
  sourced_count xs ss each all = ap length all ∙ count_sources xs ss each

  pub directories-append : (xs ys : List (Item R E)) → directories (xs ++ ys) ≡ directories xs + directories ys
  directories-append [] ys = omega arith
  directories-append (x ∷ xs) ys = omega (arith, directories-append xs ys)

  -- an outcome has as many specifications as its list has directories
  pub as_many_of : (outcome : Outcome R E) → length (children_of outcome) ≡ directories (list_of outcome)
  as_many_of (Ok r) = as_many r.state r.list
  as_many_of (Err f) = refl
