-- What fits behind a star, and what is left of a pattern behind its front.
use Rattle.std.proofs.Common.{◌∙◌, add-one, ◌≡◌, ℕ, suc, ◌+◌, List, [], ◌∷◌, ◌++◌, length, take, drop, map, ap, subst, sym, refl, ◌↔◌, arith, append_assoc, take-append-drop}
use Prim.Native.Nat.{zero}
use Rattle.std.specs.Borrow.{Bor}
use Rattle.std.specs.Prelude.{min}
use Rattle.std.proofs.lemmas.List.{drop_all, drop-append-le, drop-drop, drop_min, map-append}
use Rattle.std.proofs.Math.Seq.{drop-nil}
use Rattle.jwalk_ignore_rules.specs.Pattern.Taken.{Decides, LeavesLater}
use Rattle.jwalk_ignore_rules.specs.declared.pattern.part.Part.{Part}
use Rattle.jwalk_ignore_rules.specs.declared.pattern.part.Part.TheVariants.{Many, One}
use Rattle.jwalk_ignore_rules.specs.declared.pattern.taken.Taken.{Taken}
use Rattle.jwalk_ignore_rules.specs.declared.pattern.taken.Taken.TheVariants.{Misfit, Whole, ToStar}
use Rattle.jwalk_ignore_rules.specs.Pattern.Fits.{Fits, FirstFits, LastFits, part_map}

module _ {T X : Type 0} (takes : T → X → Type 0) where
  -- what fits behind a star later on fits behind it earlier
  pub star_earlier : (parts : List (Part T)) (items : List X) (n : ℕ) → Fits takes (Many ∷ parts) (drop n items) → Fits takes (Many ∷ parts) items
  star_earlier parts items n (m, fits) = (n + m, subst (λ (xs : List X). Fits takes parts xs) (drop-drop m n items) fits)

  -- a star skips nothing
  pub star_here : (parts : List (Part T)) (items : List X) → Fits takes parts items → Fits takes (Many ∷ parts) items
  star_here parts items fits = (0, fits)

  -- what does not fit here fits behind a star exactly if it does so one item later
  pub star_next : (parts : List (Part T)) (items : List X) (item : X) (rest : List X) → items ≡ item ∷ rest → (Fits takes parts items → ⊥)
      → Fits takes (Many ∷ parts) items ↔ Fits takes (Many ∷ parts) rest
  star_next parts items item rest is not_here = (on, back) where
    on_from : (n : ℕ) → Fits takes parts (drop n items) → Fits takes (Many ∷ parts) rest
    on_from zero fits = absurd (not_here fits)
    on_from (suc m) fits = (m, subst (λ (xs : List X). Fits takes parts (drop (suc m) xs)) is fits)

    on : Fits takes (Many ∷ parts) items → Fits takes (Many ∷ parts) rest
    on (n, fits) = on_from n fits

    back : Fits takes (Many ∷ parts) rest → Fits takes (Many ∷ parts) items
    back (m, fits) = (suc m, subst (λ (xs : List X). Fits takes parts (drop (suc m) xs)) (sym is) fits)

  -- behind a star nothing fits no items that does not fit them itself
  pub star_end : (parts : List (Part T)) (items : List X) → items ≡ [] → (Fits takes parts items → ⊥) → Fits takes (Many ∷ parts) items → ⊥
  star_end parts items is not_here (n, fits) =
      let none : drop n items ≡ items = ap (drop n) is ∙ drop-nil n ∙ sym is in
      not_here (subst (λ (xs : List X). Fits takes parts xs) none fits)

  -- a star that is the last part takes all items
  pub all_behind : (parts : List (Part T)) (items : List X) → length parts ≡ 0 → Fits takes (Many ∷ parts) items
  all_behind [] items none = (length items, drop_all (length items) items (omega arith))
  all_behind (part ∷ parts) items some = absurd (omega arith)

  module _ (parts : List (Part T)) (test : T) (behind : List (Part T)) (is : parts ≡ One test ∷ behind) (items : List X) where
    -- a first item that doesn't fit, or none
    pub first_unfit : ((after : List X) → FirstFits (takes test) items after → ⊥) → Fits takes parts items → ⊥
    first_unfit unfit fits =
        let at_one = subst (λ (ps : List (Part T)). Fits takes ps items) is fits in
        unfit at_one.1 (at_one.0, at_one.2, at_one.3)

    module _ (after : List X) (first : FirstFits (takes test) items after) where
      -- one item taken
      pub one_enough : Fits takes behind after → Fits takes parts items
      one_enough fits = subst (λ (ps : List (Part T)). Fits takes ps items) (sym is) (first.0, after, first.1, first.2, fits)

      -- a pattern behind a part fits one item later
      pub one_later : (n : ℕ) → Fits takes parts (drop n items) → Fits takes behind (drop n after)
      one_later n fits =
          let at_one = subst (λ (ps : List (Part T)). Fits takes ps (drop n items)) is fits in
          let e : drop (suc n) items ≡ drop n after = ap (drop (suc n)) first.1 in
          let rest : at_one.1 ≡ drop n after =
          ap (drop 1) (sym at_one.2) ∙ drop-drop 1 n items ∙ ap (λ (k : ℕ). drop k items) (add-one n) ∙ e in subst (λ (xs : List X). Fits takes behind xs) rest at_one.4

-- a pattern whose last part takes one item
module _ {T X : Type 0} (takes : T → X → Type 0) (test : T) where
  -- it takes the last item
  pub some_last : (parts : List (Part T)) (items : List X) → Fits takes (parts ++ One test ∷ []) items → (front : List X) × LastFits (takes test) items front
  some_last [] items (item, rest, is, fit, none) = ([], (item, is ∙ ap (λ (xs : List X). item ∷ xs) none, fit))
  some_last (Many ∷ parts) items (n, fits) =
      let (front, (last, at_end, fit)) = some_last parts (drop n items) fits in
      let all : items ≡ (take n items ++ front) ++ last ∷ [] =
      sym (take-append-drop n items) ∙ ap (λ (xs : List X). take n items ++ xs) at_end ∙ sym (append_assoc (take n items) front (last ∷ [])) in
      (take n items ++ front, (last, all, fit))
  some_last (One first ∷ parts) items (item, rest, is, one, fits) =
      let (front, (last, at_end, fit)) = some_last parts rest fits in
      (item ∷ front, (last, is ∙ ap (λ (xs : List X). item ∷ xs) at_end, fit))

  -- it fits no list that is empty
  pub last_none : (parts : List (Part T)) → Fits takes (parts ++ One test ∷ []) [] → ⊥
  last_none [] (item, rest, is, fit, none) = cc
  last_none (Many ∷ parts) (n, fits) = last_none parts (subst (λ (xs : List X). Fits takes (parts ++ One test ∷ []) xs) (drop-nil n) fits)
  last_none (One first ∷ parts) (item, rest, is, fit, fits) = cc

  module _ (last : X) where
    -- nothing else is left
    last_alone : (items : List X) (item : X) (rest : List X) → items ++ last ∷ [] ≡ item ∷ rest → rest ≡ [] → takes test item → takes test last × (items ≡ [])
    last_alone [] item rest is none fit = let same : item ≡ last = cc in (subst (takes test) same fit, refl)
    last_alone (x ∷ xs) item rest is none fit = let clash : xs ++ last ∷ [] ≡ [] = cc in absurd (no_end xs clash) where
      no_end : (ys : List X) → ys ++ last ∷ [] ≡ [] → ⊥
      no_end [] e = cc
      no_end (y ∷ ys) e = cc

    -- behind a star the last item is taken, or none is left
    many_last : (parts : List (Part T)) → ((items : List X) → Fits takes (parts ++ One test ∷ []) (items ++ last ∷ []) → takes test last × Fits takes parts items)
        → (n : ℕ) (items : List X) → Fits takes (parts ++ One test ∷ []) (drop n (items ++ last ∷ [])) → takes test last × Fits takes (Many ∷ parts) items
    many_last parts behind zero items fits = let both = behind items fits in (both.0, (0, both.1))
    many_last parts behind (suc n) [] fits = absurd (last_none parts (subst (λ (xs : List X). Fits takes (parts ++ One test ∷ []) xs) (drop-nil n) fits))
    many_last parts behind (suc n) (x ∷ xs) fits = let both = many_last parts behind n xs fits in (both.0, (suc both.1.0, both.1.1))

    -- the last part takes the last item, and the others fit the others
    pub last_fits : (parts : List (Part T)) (items : List X) → Fits takes (parts ++ One test ∷ []) (items ++ last ∷ []) → takes test last × Fits takes parts items
    last_fits [] items (item, rest, is, fit, none) = last_alone items item rest is none fit
    last_fits (Many ∷ parts) items (n, fits) = many_last parts (last_fits parts) n items fits
    last_fits (One first ∷ parts) [] (item, rest, is, fit, fits) =
        let none : rest ≡ [] = cc in absurd (last_none parts (subst (λ (xs : List X). Fits takes (parts ++ One test ∷ []) xs) none fits))
    last_fits (One first ∷ parts) (x ∷ xs) (item, rest, is, fit, fits) =
        let same : rest ≡ xs ++ last ∷ [] = cc in
        let both = last_fits parts xs (subst (λ (ys : List X). Fits takes (parts ++ One test ∷ []) ys) same fits) in
        (both.0, (item, xs, (let head : item ≡ x = cc in ap (λ (y : X). y ∷ xs) (sym head)), fit, both.1))

    -- where the last part takes the last item, and the others fit the others, all fit
    pub fits_last : takes test last → (parts : List (Part T)) (items : List X) → Fits takes parts items → Fits takes (parts ++ One test ∷ []) (items ++ last ∷ [])
    fits_last fit [] items none = (last, [], ap (λ (xs : List X). xs ++ last ∷ []) none, fit, refl)
    fits_last fit (Many ∷ parts) items (n, fits) =
        let seam : drop (min n (length items)) (items ++ last ∷ []) ≡ drop n items ++ last ∷ [] =
        drop-append-le (min n (length items)) items (last ∷ []) (omega arith) ∙ ap (λ (xs : List X). xs ++ last ∷ []) (drop_min n items) in
        (min n (length items), subst (λ (xs : List X). Fits takes (parts ++ One test ∷ []) xs) (sym seam) (fits_last fit parts (drop n items) fits))
    fits_last fit (One first ∷ parts) items (item, rest, is, one, fits) =
        (item, rest ++ last ∷ [], ap (λ (xs : List X). xs ++ last ∷ []) is, one, fits_last fit parts rest fits)

module _ {T X : Type 0} (takes : T → X → Type 0) (parts : List (Part T)) (front : List (Part T)) (test : T) (is : parts ≡ front ++ One test ∷ []) where
  -- the last part takes the last item
  pub last_taken : (items : List X) → Fits takes parts items → (before : List X) × LastFits (takes test) items before
  last_taken items fits = some_last takes test front items (subst (λ (ps : List (Part T)). Fits takes ps items) is fits)

  -- a last item that doesn't fit, or none
  pub last_unfit : (items : List X) → ((before : List X) → LastFits (takes test) items before → ⊥) → Fits takes parts items → ⊥
  last_unfit items unfit fits = let (before, taken) = last_taken items fits in unfit before taken

  -- a last item taken
  pub without_last : (items before : List X) → LastFits (takes test) items before → Fits takes parts items ↔ Fits takes front before
  without_last items before (last, at_end, fit) = (
    (λ fits.
        (last_fits takes test last front before (subst (λ (xs : List X). Fits takes (front ++ One test ∷ []) xs) at_end (subst (λ (ps : List (Part T)). Fits takes ps items) is fits))).1),
    (λ fits. subst (λ (ps : List (Part T)). Fits takes ps items) (sym is) (subst (λ (xs : List X). Fits takes (front ++ One test ∷ []) xs) (sym at_end) (fits_last takes test last fit front before fits))),
  )

module _ {T X : Type 0} (takes : T → X → Type 0) (items : List ℕ → List X) where
  -- what decides a fact decides what is the same
  pub decides_same : (taken : Taken T) (all other : Type 0) → all ↔ other → Decides takes items taken other → Decides takes items taken all
  decides_same Misfit all other same decides = λ h. decides (same.0 h)
  decides_same Whole all other same decides = same.1 decides
  decides_same (ToStar behind left) all other same decides = ((λ h. decides.0 (same.0 h)), (λ h. same.1 (decides.1 h)))

  -- what is neither all nor goes to a star doesn't fit
  pub misfits : (taken : Taken T) → (taken ≡ Whole → ⊥) → ((behind : Bor (List (Part T))) → (left : Bor (List ℕ)) → taken ≡ ToStar behind left → ⊥)
      → (all : Type 0) → Decides takes items taken all → all → ⊥
  misfits Misfit not_whole to_no_star all decides = decides
  misfits Whole not_whole to_no_star all decides = absurd (not_whole refl)
  misfits (ToStar behind left) not_whole to_no_star all decides = absurd (to_no_star behind left refl)

  -- what is taken of a text decides what fits it behind a star
  pub behind_decides : (taken : Taken T) → (taken ≡ Misfit → ⊥) → (parts : List (Part T)) (text : List X) (all : Type 0) → all ↔ Fits takes (Many ∷ parts) text
      → Decides takes items taken (Fits takes parts text) → LeavesLater takes items taken parts text → Decides takes items taken all
  behind_decides Misfit fit parts text all same decides later = absurd (fit refl)
  behind_decides Whole fit parts text all same decides later = same.1 (star_here takes parts text decides)
  behind_decides (ToStar behind left) fit parts text all same decides later = (
    (λ h. let at = same.0 h in star_earlier takes behind.now (items left.now) at.0 (later at.0 at.1)),
    (λ h. same.1 (star_here takes parts text (decides.1 h))),
  )

module _ {T S : Type 0} (value : T → S) where
  -- parts by value, of which the last is known
  pub mapped_last : (rest front : List (Part T)) (part p : Part T) → rest ≡ front ++ part ∷ [] → part ≡ p
      → map (part_map value) rest ≡ map (part_map value) front ++ part_map value p ∷ []
  mapped_last rest front part p is same =
      ap (map (part_map value)) is ∙ map-append (part_map value) front (part ∷ []) ∙ ap (λ q. map (part_map value) front ++ part_map value q ∷ []) same

  -- what fits parts fits them by value
  module _ {X : Type 0} (takes : S → X → Type 0) where
    same_fits : (parts : List (Part T)) (items : List X) → Fits (λ test item. takes (value test) item) parts items ↔ Fits takes (map (part_map value) parts) items
    same_fits [] items = ((λ none. none), (λ none. none))
    same_fits (Many ∷ parts) items = (
      (λ fits. (fits.0, (same_fits parts (drop fits.0 items)).0 fits.1)),
      (λ fits. (fits.0, (same_fits parts (drop fits.0 items)).1 fits.1)),
    )
    same_fits (One test ∷ parts) items = (
      (λ fits. (fits.0, fits.1, fits.2, fits.3, (same_fits parts fits.1).0 fits.4)),
      (λ fits. (fits.0, fits.1, fits.2, fits.3, (same_fits parts fits.1).1 fits.4)),
    )

    pub by_value : {Yes : Type 0} (parts own : List (Part T)) (items : List X) → parts ≡ own
        → Yes ↔ Fits (λ test item. takes (value test) item) parts items → Yes ↔ Fits takes (map (part_map value) own) items
    by_value {Yes} parts own items is decides =
        let same = same_fits own items in
        let fits = subst (λ (ps : List (Part T)). Yes ↔ Fits (λ test item. takes (value test) item) ps items) is decides in
        ((λ yes. same.0 (fits.0 yes)), (λ all. fits.1 (same.1 all)))
