-- Patterns that are listed by the names with which their paths end.
use Prim.Native.Nat.{zero}
use Rattle.std.proofs.Common.{◌≡◌, ◌∙◌, ◌⊎◌, inl, inr, ◌<◌, ◌≤◌, ◌+◌, ℕ, suc, Bool, true, false, cond, List, [], ◌∷◌, ◌++◌, length, map, get_or, Option, Some, None, Result, Ok, Err, ap, subst, refl, sym, arith, append_assoc}
use Rattle.std.specs.Prelude.{bytes_eq, IfSome, MatchOption, OnErr, OnOk}
use Rattle.std.specs.declared.vec.Vec.{Vec}
use Rattle.std.proofs.lemmas.List.{get_or_append_left, length-append, map-append}
use Rattle.std.proofs.lemmas.Slice.Eq.{bytes_eq-Decides}
use Rattle.jwalk_ignore_rules.specs.Pattern.{Pattern, EndsWith}
use Rattle.jwalk_ignore_rules.specs.Pattern.Names.{names_of}
use Rattle.jwalk_ignore_rules.specs.Rules.LastNames.{IsAdded, IsIndexed, IsListed, IsNamedAt, IsOther, IsSame, MatchesAt, NothingListed, OthersMatch, count_of}
use Rattle.jwalk_ignore_rules.specs.declared.rules.last_names.LastNames.{LastNames}
use Rattle.jwalk_ignore_rules.proofs.OnlyFacts.{ByLast, by_last}

module _ {X : Type 0} where
  no_end : (xs : List X) (x : X) → xs ++ x ∷ [] ≡ [] → ⊥
  no_end [] x e = cc
  no_end (y ∷ ys) x e = cc

  -- lists with a last item that are the same have the same last item
  pub snoc_both : (xs ys : List X) (x y : X) → xs ++ x ∷ [] ≡ ys ++ y ∷ [] → (xs ≡ ys) × (x ≡ y)
  snoc_both [] [] x y e = (refl, cc)
  snoc_both [] (b ∷ ys) x y e = let none : ys ++ y ∷ [] ≡ [] = cc in absurd (no_end ys y none)
  snoc_both (a ∷ xs) [] x y e = let none : xs ++ x ∷ [] ≡ [] = cc in absurd (no_end xs x none)
  snoc_both (a ∷ xs) (b ∷ ys) x y e =
      let head : a ≡ b = cc in
      let tail : xs ++ x ∷ [] ≡ ys ++ y ∷ [] = cc in
      let both = snoc_both xs ys x y tail in
      (ap (λ (c : X). c ∷ xs) head ∙ ap (λ (zs : List X). b ∷ zs) both.0, both.1)

  pub empty_split : (front : List X) (x : X) (behind : List X) → [] ≡ front ++ x ∷ behind → ⊥
  empty_split [] x behind e = cc
  empty_split (y ∷ ys) x behind e = cc

-- a place below one more is below, or the last
pub below_or_last : (k n : ℕ) → k < n + 1 → (k < n) ⊎ (k ≡ n)
below_or_last zero zero lt = inr refl
below_or_last zero (suc n) lt = inl (omega arith)
below_or_last (suc k) zero lt = absurd (omega arith)
below_or_last (suc k) (suc n) lt = one_more (below_or_last k n (omega arith)) where
  one_more : (k < n) ⊎ (k ≡ n) → (suc k < suc n) ⊎ (suc k ≡ suc n)
  one_more (inl below) = inl (omega arith)
  one_more (inr is) = inr (ap suc is)

-- what is put behind a list is at its end
pub at_new : (xs : List ℕ) (y k : ℕ) → k ≡ length xs → get_or (xs ++ y ∷ []) k 0 ≡ y
at_new [] y k is = ap (λ (m : ℕ). get_or (y ∷ []) m 0) is
at_new (x ∷ xs) y k is = ap (λ (m : ℕ). get_or (x ∷ xs ++ y ∷ []) m 0) is ∙ at_new xs y (length xs) refl

-- numbers that ascend
abbrev pub Ascend : List ℕ → Type 0
Ascend xs = (j k : ℕ) → j ≤ k → k < length xs → get_or xs j 0 ≤ get_or xs k 0

module _ (xs : List ℕ) (y : ℕ) (above : (k : ℕ) → k < length xs → get_or xs k 0 ≤ y) where
  long : length (xs ++ y ∷ []) ≡ length xs + 1
  long = length-append xs (y ∷ [])

  -- so does a list with a greater number behind it
  above_more : (k : ℕ) → k < length (xs ++ y ∷ []) → get_or (xs ++ y ∷ []) k 0 ≤ y
  above_more k within = by (below_or_last k (length xs) (omega (arith, long))) where
    by : (k < length xs) ⊎ (k ≡ length xs) → get_or (xs ++ y ∷ []) k 0 ≤ y
    by (inl below) = omega (arith, get_or_append_left xs (y ∷ []) 0 k below, above k below)
    by (inr is) = omega (arith, at_new xs y k is)

  ascend_more : Ascend xs → Ascend (xs ++ y ∷ [])
  ascend_more ascend j k le within = by (below_or_last k (length xs) (omega (arith, long))) where
    by : (k < length xs) ⊎ (k ≡ length xs) → get_or (xs ++ y ∷ []) j 0 ≤ get_or (xs ++ y ∷ []) k 0
    by (inl below) = omega (arith, get_or_append_left xs (y ∷ []) 0 j (omega arith), get_or_append_left xs (y ∷ []) 0 k below, ascend j k le below)
    by (inr is) = omega (arith, at_new xs y k is, above_more j (omega arith))

module _ {A : Type 0} where
  -- nothing is listed of no patterns
  pub none_indexed : (names : LastNames A) → NothingListed names → IsIndexed [] names
  none_indexed names none = (
    λ front pattern behind is. absurd (empty_split front pattern behind is),
    λ j k le within. absurd (omega (arith, within, ap length none.1)),
    λ k within. absurd (omega (arith, within, ap length none.1)),
  )

  module _ (old : LastNames A) (new : LastNames A) where
    other_same : new.others.items ≡ old.others.items → (place : ℕ) → IsOther old place → IsOther new place
    other_same is place (k, within, at) = (k, subst (λ (xs : List ℕ). k < length xs) (sym is) within, ap (λ (xs : List ℕ). get_or xs k 0) is ∙ at)

    named_same : ((name : List ℕ) → count_of new name ≡ count_of old name) → (p : Pattern) (place : ℕ) → IsNamedAt old p place → IsNamedAt new p place
    named_same is p place (name, count, ends, found, below) = (name, count, ends, is name ∙ found, below)

    named_added : (own : List ℕ) (last : ℕ) → ((name : List ℕ) → count_of new name ≡ cond (bytes_eq name own) (Some (last + 1)) (count_of old name))
        → (p : Pattern) (place : ℕ) → place < last + 1 → IsNamedAt old p place → IsNamedAt new p place
    named_added own last counts p place within (name, count, ends, found, below) = by (bytes_eq name own) refl where
      by : (b : Bool) → bytes_eq name own ≡ b → IsNamedAt new p place
      by true e = (name, last + 1, ends, counts name ∙ ap (λ (b : Bool). cond b (Some (last + 1)) (count_of old name)) e, within)
      by false e = (name, count, ends, counts name ∙ ap (λ (b : Bool). cond b (Some (last + 1)) (count_of old name)) e ∙ found, below)

    other_added : (last : ℕ) → new.others.items ≡ old.others.items ++ last ∷ [] → (place : ℕ) → IsOther old place → IsOther new place
    other_added last is place (k, within, at) = (
      k,
      omega (arith, within, ap length is, length-append old.others.items (last ∷ [])),
      ap (λ (xs : List ℕ). get_or xs k 0) is ∙ get_or_append_left old.others.items (last ∷ []) 0 k within ∙ at,
    )

    -- what is listed stays so
    either : (p : Pattern) (place : ℕ) → (IsOther old place → IsOther new place) → (IsNamedAt old p place → IsNamedAt new p place) → IsListed old p place → IsListed new p place
    either p place other named listed = λ no_other no_name. listed (λ o. no_other (other o)) (λ n. no_name (named n))

    module _ (patterns : List Pattern) where
      -- where all is listed as before, all patterns are
      pub same_indexed : IsSame old new → IsIndexed patterns old → IsIndexed patterns new
      same_indexed same before = (
        λ front p behind is. either p (length front) (other_same same.1 (length front)) (named_same same.0 p (length front)) (before.0 front p behind is),
        subst Ascend (sym same.1) before.1,
        subst (λ (xs : List ℕ). (k : ℕ) → k < length xs → get_or xs k 0 ≤ length patterns) (sym same.1) before.2,
      )

      inside : (front : List Pattern) (p : Pattern) (behind : List Pattern) → patterns ≡ front ++ p ∷ behind → length front < length patterns
      inside front p behind is = omega (arith, ap length is, length-append front (p ∷ behind))

      -- where one place more is listed, those so far still are
      pub added_indexed : (own : Option (Vec ℕ A)) (place : ℕ) → place ≡ length patterns → IsAdded own place old new → IsIndexed patterns old → IsIndexed patterns new
      added_indexed (Some own) place at added before = (
        λ front p behind is.
            either p (length front) (other_same added.1 (length front)) (named_added own.items place added.0 p (length front) (omega (arith, at, inside front p behind is))) (before.0 front p behind is),
        subst Ascend (sym added.1) before.1,
        subst (λ (xs : List ℕ). (k : ℕ) → k < length xs → get_or xs k 0 ≤ length patterns) (sym added.1) before.2,
      )
      added_indexed None place at added before =
          let above : (k : ℕ) → k < length old.others.items → get_or old.others.items k 0 ≤ place = λ k within. omega (arith, at, before.2 k within) in (
            λ front p behind is. either p (length front) (other_added place added.1 (length front)) (named_same added.0 p (length front)) (before.0 front p behind is),
            subst Ascend (sym added.1) (ascend_more old.others.items place above before.1),
            subst (λ (xs : List ℕ). (k : ℕ) → k < length xs → get_or xs k 0 ≤ length patterns) (sym added.1)
                (λ k within. omega (arith, at, above_more old.others.items place above k within)),
          )

      -- the pattern at that place is listed
      new_listed : (own : Option (Vec ℕ A)) (place : ℕ) → IsAdded own place old new → (p : Pattern) → IfSome own (λ name. EndsWith p name.items) → IsListed new p place
      new_listed (Some own) place added p ends =
          λ no_other no_name. no_name (own.items, place + 1, ends, added.0 own.items ∙ ap (λ (b : Bool). cond b (Some (place + 1)) (count_of old own.items)) ((bytes_eq-Decides own.items own.items).1 refl), omega arith)
      new_listed None place added p ends = λ no_other no_name. no_other (
        length old.others.items,
        omega (arith, ap length added.1, length-append old.others.items (place ∷ [])),
        ap (λ (xs : List ℕ). get_or xs (length old.others.items) 0) added.1 ∙ at_new old.others.items place (length old.others.items) refl,
      )

      -- so is one pattern more
      pub more_indexed : (own : Option (Vec ℕ A)) (place : ℕ) → place ≡ length patterns → IsAdded own place old new → (p : Pattern) → IfSome own (λ name. EndsWith p name.items)
          → IsIndexed patterns old → IsIndexed (patterns ++ p ∷ []) new
      more_indexed own place at added p ends before =
          let so_far = added_indexed own place at added before in (
            λ front q behind is. by_end so_far front q behind is (by_last behind),
            so_far.1,
            λ k within. omega (arith, so_far.2 k within, length-append patterns (p ∷ [])),
          ) where
            by_end : IsIndexed patterns new → (front : List Pattern) (q : Pattern) (behind : List Pattern) → patterns ++ p ∷ [] ≡ front ++ q ∷ behind → ByLast behind
                → IsListed new q (length front)
            by_end so_far front q behind is (inl none) =
                let both = snoc_both patterns front p q (is ∙ ap (λ (l : List Pattern). front ++ q ∷ l) none) in
                subst (λ (n : ℕ). IsListed new q n) (at ∙ ap length both.0) (subst (λ (r : Pattern). IsListed new r place) both.1 (new_listed own place added p ends))
            by_end so_far front q behind is (inr (others, last, end)) =
                let both = snoc_both patterns (front ++ q ∷ others) p last (is ∙ ap (λ (l : List Pattern). front ++ q ∷ l) end ∙ sym (append_assoc front (q ∷ others) (last ∷ []))) in
                so_far.0 front q others both.0

      -- whether it was listed or not, those so far are
      pub after_add : {F : Type 0} (own : Option (Vec ℕ A)) (place : ℕ) → place ≡ length patterns → (r : Result (Unit {0}) F) → OnOk r (IsAdded own place old new) → OnErr r (IsSame old new)
          → IsIndexed patterns old → IsIndexed patterns new
      after_add own place at (Ok done) added failed before = added_indexed own place at added before
      after_add own place at (Err e) added failed before = same_indexed failed before

-- whether a pattern was put behind the others or not, all are indexed
pub after_push : {A X : Type 0} (names : LastNames A) (view : X → Pattern) (items : List X) (x : X) (b : Bool) (now : List X) → now ≡ cond b (items ++ x ∷ []) items
    → IsIndexed (map view items) names → IsIndexed (map view items ++ view x ∷ []) names → IsIndexed (map view now) names
after_push names view items x true now is so_far more = subst (λ (ps : List Pattern). IsIndexed ps names) (sym (ap (map view) is ∙ map-append view items (x ∷ []))) more
after_push names view items x false now is so_far more = subst (λ (ps : List Pattern). IsIndexed ps names) (sym (ap (map view) is)) so_far

module _ {A : Type 0} (names : LastNames A) (patterns : List Pattern) (indexed : IsIndexed patterns names) (path : List ℕ) where
  -- what matches and isn't among the others is listed by the path's last name, at a place below its number
  listed_by : (is_dir : Bool) (place : ℕ) (p : Pattern) → MatchesAt patterns path is_dir place p → (IsOther names place → ⊥)
      → ((front : List (List ℕ)) → (name : List ℕ) → (count : ℕ) → names_of path ≡ front ++ name ∷ [] → count_of names name ≡ Some count → place < count → ⊥) → ⊥
  listed_by is_dir place p (front, behind, is, at, hit) nowhere named =
      indexed.0 front p behind is (λ other. nowhere (subst (IsOther names) at other))
      (λ listed. let ended = listed.2 path is_dir hit in named ended.0 listed.0 listed.1 ended.1 listed.3 (omega (arith, at, listed.4)))

  -- from the number of the path's last name on, the others alone match
  pub others_from : (front : List (List ℕ)) (name : List ℕ) (from : ℕ) → names_of path ≡ front ++ name ∷ [] → MatchOption (count_of names name) (from ≡ 0) (λ count. from ≡ count)
      → (is_dir : Bool) → OthersMatch patterns names path is_dir from
  others_from front name from ends told is_dir place p within hit nowhere =
      listed_by is_dir place p hit nowhere (λ before other count ended found below.
      let same : other ≡ name = (snoc_both before front other name (sym ended ∙ ends)).1 in
      let here : count_of names name ≡ Some count = ap (count_of names) (sym same) ∙ found in
      let is : from ≡ count = subst (λ (o : Option ℕ). MatchOption o (from ≡ 0) (λ n. from ≡ n)) here told in
      omega (arith, is, below, within))

  -- on a path without names nothing else matches
  pub others_alone : names_of path ≡ [] → (is_dir : Bool) → OthersMatch patterns names path is_dir 0
  others_alone none is_dir place p within hit nowhere =
      listed_by is_dir place p hit nowhere (λ before other count ended found below. empty_split before other [] (sym none ∙ ended))
