-- The first answers, up to a limit, of one list after another, and of a walk.
use Rattle.std.proofs.Common.{◌≡◌, ◌≢◌, ◌⊎◌, ◌∙◌, ℕ, Bool, true, false, ◌&&◌, ◌||◌, List, [], ◌∷◌, ◌++◌, Option, None, Some, map, append-nil, inl, inr, ap, refl, subst, sym}
use Rattle.std.specs.List.{list_all, list_any}
use Rattle.std.specs.Prelude.{if◌then◌else◌}
use Rattle.std.specs.Io.KnownBytes.{Appends}
use Rattle.jwalk_model.specs.Counted.{Worth}
use Rattle.jwalk_model.specs.Entry.{Item}
use Rattle.jwalk_job.specs.Given.{Given, counted_item}
use Rattle.seek_words.specs.Sought.{Sought}
use Rattle.seek_words.specs.Layout.{Form}
use Rattle.seek_found.specs.Found.{found_lines, is_clean, PrintsFirst}
use Rattle.seek_found.specs.Limit.{is_hit, left_after, left_of, up_to}
use Rattle.seek_found.specs.Prune.{unpruned, unpruned_behind}
use Rattle.seek_found.proofs.CleanFacts.{clean_none, clean_then, printed_as}
use Rattle.seek_found.proofs.LimitFacts.{left_as_before, left_then, none_of_one, one_of_one, one_up_to, up_to_full, up_to_more, up_to_none, up_to_then}
use Rattle.seek_found.proofs.PruneFacts.{below_all, found_unpruned, unpruned_is, unpruned_then}
use Rattle.seek_found.proofs.WholeFacts.{all_clean, same_after, same_hits, same_lines, same_unpruned, same_up_to}

first_true : (a b : Bool) → (a && b) ≡ true → a ≡ true
first_true true b is = refl
first_true false b is = is

second_true : (a b : Bool) → (a && b) ≡ true → b ≡ true
second_true true b is = is
second_true false b is = absurd (cc)

-- one is found in a list if one is found in a part of it
pub found_before : {X : Type 0} (f : X → Bool) (xs ys : List X) → list_any f xs ≡ true → list_any f (xs ++ ys) ≡ true
found_before f [] ys found = absurd (cc)
found_before f (x ∷ xs) ys found =
    elim (f x) as (λ b. (b || list_any f xs) ≡ true → (b || list_any f (xs ++ ys)) ≡ true) [ true ↦ λ _. refl | false ↦ found_before f xs ys ] found

pub found_after : {X : Type 0} (f : X → Bool) (xs ys : List X) → list_any f ys ≡ true → list_any f (xs ++ ys) ≡ true
found_after f [] ys found = found
found_after f (x ∷ xs) ys found = ap (λ b. f x || b) (found_after f xs ys found) ∙ elim (f x) as (λ b. (b || true) ≡ true) [ true ↦ refl | false ↦ refl ]

module _ {R E : Type 0} (sought : Sought) where
  -- if one more may be found before some answers, one or none may be after them
  one_or_none : (xs : List (Item R E)) → (left_of sought 1 xs ≡ 0) ⊎ (left_of sought 1 xs ≡ 1)
  one_or_none [] = inr refl
  one_or_none (x ∷ xs) = elim (is_hit sought x) as (λ b. (left_of sought (if b then 0 else 1) xs ≡ 0) ⊎ (left_of sought (if b then 0 else 1) xs ≡ 1)) [ true ↦ inl refl | false ↦ one_or_none xs ]

  -- so one may be if the limit isn't reached
  pub one_still : (xs : List (Item R E)) {left left' : Option ℕ} → left ≡ Some 1 → left' ≡ left_after sought left xs → left' ≢ Some 0 → left' ≡ Some 1
  one_still xs one limit room =
      let after = limit ∙ ap (λ l. left_after sought l xs) one in
      elim (one_or_none xs) [ inl none ↦ absurd (room (after ∙ ap Some none)) | inr still ↦ after ∙ ap Some still ]

  module _ (form : Form) where
    -- no answers
    pub first_none : (left : Option ℕ) (old : Option (List ℕ)) (clean : Bool) → PrintsFirst {R = R} {E = E} [] sought form left left old old clean
    first_none left old clean = record {
      first = λ _. printed_as (sym (up_to_none sought left)) (clean_none sought form old);
      limit = λ _. sym (ap (left_after sought left) (up_to_none sought left) ∙ left_as_before R E sought left);
      one = λ one none. (let no : ◌≡◌ {A = Option ℕ} (Some 1) (Some 0) = sym one ∙ none in absurd (cc));
    }

    module _ (xs ys : List (Item R E)) (left mid left' : Option ℕ) (a b c : Option (List ℕ)) (clean more : Bool) (before : PrintsFirst xs sought form left mid a b clean) where
      -- further answers beyond the limit
      pub first_stopped : mid ≡ Some 0 → PrintsFirst (xs ++ ys) sought form left mid a b clean
      first_stopped full =
          let same : clean ≡ true → up_to sought left (xs ++ ys) ≡ up_to sought left xs = λ is.
          up_to_then sought left xs ys ∙ ap (λ l. up_to sought left xs ++ l) (up_to_full sought (left_after sought left (up_to sought left xs)) ys (sym (before.limit is) ∙ full))
          ∙ append-nil (up_to sought left xs) in
          record {
            first = λ is. printed_as (sym (same is)) (before.first is);
            limit = λ is. before.limit is ∙ ap (left_after sought left) (sym (same is));
            one = λ one none. found_before (is_hit sought) xs ys (before.one one none);
          }

      -- answers after others
      pub first_then : (left ≡ Some 1 → mid ≡ Some 1) → PrintsFirst ys sought form mid left' b c more → PrintsFirst (xs ++ ys) sought form left left' a c (clean && more)
      first_then still after =
          let same : clean ≡ true → up_to sought left (xs ++ ys) ≡ up_to sought left xs ++ up_to sought mid ys = λ is.
          up_to_then sought left xs ys ∙ ap (λ l. up_to sought left xs ++ up_to sought l ys) (sym (before.limit is)) in
          record {
            first = λ is. printed_as (sym (same (first_true clean more is)))
                (clean_then sought form (up_to sought left xs) (up_to sought mid ys) a b c (before.first (first_true clean more is)) (after.first (second_true clean more is)));
            limit = λ is. after.limit (second_true clean more is) ∙ ap (λ l. left_after sought l (up_to sought mid ys)) (before.limit (first_true clean more is))
                ∙ sym (left_then sought left (up_to sought left xs) (up_to sought mid ys)) ∙ ap (left_after sought left) (sym (same (first_true clean more is)));
            one = λ one none. found_after (is_hit sought) xs ys (after.one (still one) none);
          }

-- if all answers that count are clean, and one may still be found after them, none of all answers is looked for
pub none_of_first : {R E : Type 0} {xs : List (Item R E)} {sought : Sought} {form : Form} {left left' : Option ℕ} {old new : Option (List ℕ)} {clean : Bool} → PrintsFirst xs sought form left left' old new clean → left ≡ Some 1 → clean ≡ true → left' ≢ Some 0 → list_any (is_hit sought) xs ≡ false
none_of_first {xs} {sought} {left} printed one is room =
    sym (ap (λ l. list_any (is_hit sought) (up_to sought l xs)) one ∙ one_up_to sought xs) ∙ none_of_one sought (up_to sought left xs) one (printed.limit is) room

-- the same answers
pub first_as : {R E : Type 0} {xs ys : List (Item R E)} {sought : Sought} {form : Form} {left left' : Option ℕ} {old new : Option (List ℕ)} {clean : Bool} → xs ≡ ys → PrintsFirst xs sought form left left' old new clean → PrintsFirst ys sought form left left' old new clean
first_as {sought} {form} {left} {left'} {old} {new} {clean} is = subst (λ l. PrintsFirst l sought form left left' old new clean) is

-- Answers are the first ones of a whole walk, by what they count as: all of them, or as many as may be found.
pub record AreFirst {R E : Type 0} (given : Given R E) (full : Type 0) (xs : List (Item R E)) (whole : List (Item Worth Worth)) : Type 0 where
  pub rest : List (Item Worth Worth)
  pub begins : map (counted_item given) xs ++ rest ≡ whole
  pub last : (rest ≡ []) ⊎ full

module _ {R E : Type 0} (given : Given R E) (sought : Sought) (left left' : Option ℕ) (xs : List (Item R E)) (whole : List (Item Worth Worth)) where
  abbrev kept_of : List (Item Worth Worth)
  kept_of = map (counted_item given) (unpruned sought xs)

  -- those that count are the first ones of those of the whole walk
  first_of_whole : up_to sought left (unpruned sought xs) ≡ unpruned sought xs → left' ≡ left_after sought left (unpruned sought xs) → AreFirst given (left' ≡ Some 0) xs whole → up_to sought left (unpruned sought whole) ≡ kept_of
  first_of_whole within limit are =
      let kept = unpruned sought xs in
      let counted = map (counted_item given) xs in
      let others = unpruned_behind sought (below_all sought None counted) are.rest in
      let parts : unpruned sought whole ≡ kept_of ++ others
      = ap (unpruned sought) (sym are.begins) ∙ unpruned_is sought (counted ++ are.rest) ∙ unpruned_then sought None counted are.rest
      ∙ ap (λ l. l ++ others) (sym (unpruned_is sought counted) ∙ same_unpruned given sought xs) in
      let inside : up_to sought left kept_of ≡ kept_of = same_up_to given sought left kept ∙ ap (map (counted_item given)) within in
      let after : left_after sought left kept_of ≡ left' = same_after given sought left kept ∙ sym limit in
      let none : up_to sought left' others ≡ [] = elim are.last [
        | inl over ↦ ap (λ l. up_to sought left' (unpruned_behind sought (below_all sought None counted) l)) over ∙ up_to_none sought left'
        | inr full ↦ up_to_full sought left' others full
      ] in
      ap (up_to sought left) parts ∙ up_to_more sought left kept_of others inside ∙ ap (λ l. kept_of ++ l) (ap (λ l. up_to sought l others) after ∙ none) ∙ append-nil kept_of

  -- the text that is printed for the answers of calls is printed for the first ones of the whole walk
  pub first_printed : (form : Form) (old new : Option (List ℕ)) (clean : Bool) → up_to sought left (unpruned sought xs) ≡ unpruned sought xs → left' ≡ left_after sought left (unpruned sought xs)
      → Appends old new (found_lines sought form (unpruned sought xs)) → clean ≡ list_all is_clean (unpruned sought xs) → (clean ≡ true → AreFirst given (left' ≡ Some 0) xs whole)
      → (list_any (is_hit sought) (map (counted_item given) xs) ≡ true → list_any (is_hit sought) whole ≡ true) → PrintsFirst (unpruned sought whole) sought form left left' old new clean
  first_printed form old new clean within limit lines all are found =
      let kept = unpruned sought xs in
      let same : clean ≡ true → up_to sought left (unpruned sought whole) ≡ kept_of = λ is. first_of_whole within limit (are is) in
      record {
        first = λ is. printed_as (sym (same is)) (record {
          lines = subst (λ l. Appends old new l) (sym (same_lines given sought form kept)) lines;
          clean = all_clean given kept ∙ sym all ∙ is;
        });
        limit = λ is. limit ∙ sym (same_after given sought left kept) ∙ ap (left_after sought left) (sym (same is));
        one = λ one none. found_unpruned sought whole ∙ found (same_hits given sought xs ∙ sym (found_unpruned sought xs) ∙ one_of_one sought kept one limit none);
      }
