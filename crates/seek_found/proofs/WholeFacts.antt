-- The text that is printed for answers doesn't depend on their states.
use Rattle.std.proofs.Common.{◌≡◌, ◌<◌, ◌∙◌, ℕ, zero, suc, Bool, true, false, ◌&&◌, ◌||◌, List, [], ◌∷◌, ◌++◌, Option, Some, None, Result, Ok, Err, map, sym, ap, ap₂, arith, refl}
use Rattle.std.specs.Prelude.{nat_lt, if◌then◌else◌}
use Rattle.std.proofs.lemmas.Bool.Decides.{nat_tests}
use Rattle.std.specs.List.{list_all, list_any}
use Rattle.jwalk_model.specs.Entry.{Item}
use Rattle.jwalk_job.specs.declared.dir_entry.DirEntry.{DirEntry}
use Rattle.jwalk_job.specs.declared.error.Error.{Error}
use Rattle.jwalk_job.specs.Entry.{item}
use Rattle.jwalk_job.specs.Error.{depth_of, failure}
use Rattle.jwalk_job.specs.Given.{Given, counted_item}
use Rattle.seek_words.specs.Sought.{Sought}
use Rattle.seek_words.specs.Layout.{Form}
use Rattle.seek_found.specs.Limit.{is_hit, first_of, left_after, left_of, up_to}
use Rattle.seek_found.specs.Prune.{below_after, is_below, unpruned, unpruned_behind}
use Rattle.seek_found.specs.Found.{found_line, found_lines, is_clean}
use Rattle.seek_found.proofs.PruneFacts.{unpruned_is}

module _ {R E : Type 0} (given : Given R E) where
  same_line : (sought : Sought) (form : Form) (x : Item R E) → found_line sought form (counted_item given x) ≡ found_line sought form x
  same_line sought form (Ok e) = refl
  same_line sought form (Err f) = refl

  -- nor do lines
  pub same_lines : (sought : Sought) (form : Form) (xs : List (Item R E)) → found_lines sought form (map (counted_item given) xs) ≡ found_lines sought form xs
  same_lines sought form [] = refl
  same_lines sought form (x ∷ xs) =
      ap (λ l. l ++ found_lines sought form (map (counted_item given) xs)) (same_line sought form x)
      ∙ ap (λ l. found_line sought form x ++ l) (same_lines sought form xs)

  same_hit : (sought : Sought) (x : Item R E) → is_hit sought (counted_item given x) ≡ is_hit sought x
  same_hit sought (Ok e) = refl
  same_hit sought (Err f) = refl

  -- nor does whether one is looked for
  pub same_hits : (sought : Sought) (xs : List (Item R E)) → list_any (is_hit sought) (map (counted_item given) xs) ≡ list_any (is_hit sought) xs
  same_hits sought [] = refl
  same_hits sought (x ∷ xs) =
      ap (λ b. b || list_any (is_hit sought) (map (counted_item given) xs)) (same_hit sought x) ∙ ap (λ b. is_hit sought x || b) (same_hits sought xs)

  same_left : (sought : Sought) (n : ℕ) (xs : List (Item R E)) → left_of sought n (map (counted_item given) xs) ≡ left_of sought n xs
  same_left sought zero xs = refl
  same_left sought (suc n) [] = refl
  same_left sought (suc n) (x ∷ xs) =
      ap (λ b. left_of sought (if b then n else suc n) (map (counted_item given) xs)) (same_hit sought x) ∙ same_left sought (if is_hit sought x then n else suc n) xs

  same_first : (sought : Sought) (n : ℕ) (xs : List (Item R E)) → first_of sought n (map (counted_item given) xs) ≡ map (counted_item given) (first_of sought n xs)
  same_first sought zero xs = refl
  same_first sought (suc n) [] = refl
  same_first sought (suc n) (x ∷ xs) =
      ap (λ b. counted_item given x ∷ first_of sought (if b then n else suc n) (map (counted_item given) xs)) (same_hit sought x)
      ∙ ap (λ l. counted_item given x ∷ l) (same_first sought (if is_hit sought x then n else suc n) xs)

  -- nor does the rest of a limit
  pub same_after : (sought : Sought) (left : Option ℕ) (xs : List (Item R E)) → left_after sought left (map (counted_item given) xs) ≡ left_after sought left xs
  same_after sought None xs = refl
  same_after sought (Some n) xs = ap Some (same_left sought n xs)

  -- nor do those up to a limit
  pub same_up_to : (sought : Sought) (left : Option ℕ) (xs : List (Item R E)) → up_to sought left (map (counted_item given) xs) ≡ map (counted_item given) (up_to sought left xs)
  same_up_to sought None xs = refl
  same_up_to sought (Some n) xs = same_first sought n xs

  same_below : (below : Option ℕ) (x : Item R E) → is_below below (counted_item given x) ≡ is_below below x
  same_below None x = refl
  same_below (Some depth) (Ok e) = refl
  same_below (Some depth) (Err f) = refl

  same_next : (sought : Sought) (below : Option ℕ) (x : Item R E) → below_after sought below (counted_item given x) ≡ below_after sought below x
  same_next sought below (Ok e) = refl
  same_next sought below (Err f) = refl

  same_behind : (sought : Sought) (below : Option ℕ) (xs : List (Item R E)) → unpruned_behind sought below (map (counted_item given) xs) ≡ map (counted_item given) (unpruned_behind sought below xs)
  same_behind sought below [] = refl
  same_behind sought below (x ∷ xs) =
      let rest = map (counted_item given) xs in
      ap₂ (λ b next. if b then unpruned_behind sought below rest else counted_item given x ∷ unpruned_behind sought next rest) (same_below below x) (same_next sought below x)
      ∙ elim (is_below below x) as (λ b. (if b then unpruned_behind sought below rest else counted_item given x ∷ unpruned_behind sought (below_after sought below x) rest)
      ≡ map (counted_item given) (if b then unpruned_behind sought below xs else x ∷ unpruned_behind sought (below_after sought below x) xs)) [
        | true ↦ same_behind sought below xs
        | false ↦ ap (λ l. counted_item given x ∷ l) (same_behind sought (below_after sought below x) xs)
      ]

  -- nor do those that aren't below a find
  pub same_unpruned : (sought : Sought) (xs : List (Item R E)) → unpruned sought (map (counted_item given) xs) ≡ map (counted_item given) (unpruned sought xs)
  same_unpruned sought xs =
      elim sought.prunes as (λ b. (if b then unpruned_behind sought None (map (counted_item given) xs) else map (counted_item given) xs) ≡ map (counted_item given) (if b then unpruned_behind sought None xs else xs)) [
        | true ↦ same_behind sought None xs
        | false ↦ refl
      ]

  same_clean : (x : Item R E) → is_clean (counted_item given x) ≡ is_clean x
  same_clean (Err f) = refl
  same_clean (Ok e) =
      elim e.read_children as (λ o. is_clean (counted_item given (Ok (record e { read_children = o }))) ≡ is_clean {R = R} {E = E} (Ok (record e { read_children = o }))) [ None ↦ refl | Some c ↦ refl ]

  -- nor does whether all are clean
  pub all_clean : (xs : List (Item R E)) → list_all is_clean (map (counted_item given) xs) ≡ list_all is_clean xs
  all_clean [] = refl
  all_clean (x ∷ xs) =
      ap (λ b. b && list_all is_clean (map (counted_item given) xs)) (same_clean x) ∙ ap (λ b. is_clean x && b) (all_clean xs)

rest_true : (a b : Bool) → (a && b) ≡ true → b ≡ true
rest_true true b is = is
rest_true false b is = absurd (cc)

deeper : (a b : ℕ) → nat_lt a b ≡ true → 0 < b
deeper a b is = grind (arith, nat_tests)

-- each error is deeper than a root
abbrev pub AreDeep : {C A R E : Type 0} → List (Result (DirEntry C A R E) (Error A)) → Type 0
AreDeep [] = Unit {0}
AreDeep (Ok e ∷ xs) = AreDeep xs
AreDeep (Err f ∷ xs) = (0 < depth_of (failure f)) × AreDeep xs

deep_behind : {C A R E : Type 0} (sought : Sought) (below : Option ℕ) (xs : List (Result (DirEntry C A R E) (Error A))) → list_all is_clean (unpruned_behind sought below (map item xs)) ≡ true → AreDeep xs
deep_behind sought below [] clean = tt
deep_behind sought below (Ok e ∷ xs) clean =
    let others = map item xs in
    let next = below_after sought below (item (Ok e)) in
    elim (is_below below (item (Ok e))) as (λ b. list_all is_clean (if b then unpruned_behind sought below others else item (Ok e) ∷ unpruned_behind sought next others) ≡ true → AreDeep xs) [
      | true ↦ deep_behind sought below xs
      | false ↦ λ all. deep_behind sought next xs (rest_true (is_clean (item (Ok e))) (list_all is_clean (unpruned_behind sought next others)) all)
    ] clean
deep_behind sought None (Err f ∷ xs) clean = let no : false ≡ true = clean in absurd (cc)
deep_behind sought (Some depth) (Err f ∷ xs) clean =
    let others = unpruned_behind sought (Some depth) (map item xs) in
    elim (nat_lt depth (depth_of (failure f))) as (λ b. nat_lt depth (depth_of (failure f)) ≡ b → list_all is_clean (if b then others else Err (failure f) ∷ others) ≡ true → (0 < depth_of (failure f)) × AreDeep xs) [
      | true ↦ λ is all. (deeper depth (depth_of (failure f)) is, deep_behind sought (Some depth) xs all)
      | false ↦ λ is all. (let no : false ≡ true = all in absurd (cc))
    ] refl clean

-- if all answers that aren't below a find are clean, each error is deeper than a root
pub deep_errors : {C A R E : Type 0} (sought : Sought) (xs : List (Result (DirEntry C A R E) (Error A))) → list_all is_clean (unpruned sought (map item xs)) ≡ true → AreDeep xs
deep_errors sought xs clean = deep_behind sought None xs (ap (list_all is_clean) (sym (unpruned_is sought (map item xs))) ∙ clean)
