-- Contents first are the same items, those at each depth in their order, and what is below an entry comes before it.
use Rattle.std.proofs.Common.{◌≡◌, ◌≤◌, ◌<◌, ℕ, zero, suc, Bool, true, false, cond, List, [], ◌∷◌, ◌++◌, length, Ok, Err, inl, inr, refl, sym, ap, ap₂, ◌∙◌, subst, append_assoc, arith}
use Rattle.std.specs.Prelude.{◌==◌, IsPermutation}
use Rattle.std.specs.List.{filter}
use Rattle.std.proofs.lemmas.Bool.Decides.{leb_tells, nat_tests}
use Rattle.std.proofs.lemmas.List.Sorted.{IsPermutation-refl, IsPermutation-cons, IsPermutation-append, IsPermutation-middle, IsPermutation-sym, IsPermutation-trans}
use Rattle.jwalk_model.specs.Entry.{Entry, Item}
use Rattle.jwalk_contents_first.specs.ContentsFirst.{depth_at, below, beyond, each_behind, contents_first, is_at, SameItems, DepthsKeepOrder, ContentsComeBefore}
use Rattle.jwalk_contents_first.proofs.ClosingFacts.{below_and_beyond, below_below, length_below, length_beyond, entry_behind}

module _ {X : Type 0} (p : X → Bool) where
  filter_seam_by : (x : X) (xs ys zs : List X) (b : Bool) → zs ≡ xs ++ ys → cond b (x ∷ zs) zs ≡ cond b (x ∷ xs) xs ++ ys
  filter_seam_by x xs ys zs true is = ap (λ l. x ∷ l) is
  filter_seam_by x xs ys zs false is = is

  filter_seam : (xs ys : List X) → filter p (xs ++ ys) ≡ filter p xs ++ filter p ys
  filter_seam [] ys = refl
  filter_seam (x ∷ xs) ys = filter_seam_by x (filter p xs) (filter p ys) (filter p (xs ++ ys)) (p x) (filter_seam xs ys)

at_same : (d c : ℕ) → (c == d) ≡ true → c ≡ d
at_same d c is = grind (arith, nat_tests)

module _ {R E : Type 0} where
  -- ---- the same items

  same_by : (n : ℕ) (l : List (Item R E)) → length l ≤ n → IsPermutation l (each_behind n l)
  same_by zero [] fits = IsPermutation-refl []
  same_by zero (x ∷ l) fits = absurd (omega (arith, fits))
  same_by (suc n) [] fits = IsPermutation-refl []
  same_by (suc n) (Err f ∷ l) fits = IsPermutation-cons (Err f) l (each_behind n l) (same_by n l (omega (arith, fits)))
  same_by (suc n) (Ok e ∷ l) fits =
      let under = below e.depth l in
      let rest = beyond e.depth l in
      let both : IsPermutation (under ++ rest) (each_behind n under ++ each_behind n rest) =
      IsPermutation-append under (each_behind n under) rest (each_behind n rest)
      (same_by n under (omega (arith, fits, length_below e.depth l)))
      (same_by n rest (omega (arith, fits, length_beyond e.depth l))) in
      IsPermutation-trans (Ok e ∷ l) (Ok e ∷ (each_behind n under ++ each_behind n rest)) (each_behind n under ++ (Ok e ∷ each_behind n rest))
      (IsPermutation-cons (Ok e) l (each_behind n under ++ each_behind n rest)
      (subst (λ m. IsPermutation m (each_behind n under ++ each_behind n rest)) (below_and_beyond e.depth l) both))
      (IsPermutation-sym (each_behind n under ++ (Ok e ∷ each_behind n rest)) (Ok e ∷ (each_behind n under ++ each_behind n rest))
      (IsPermutation-middle (each_behind n under) (Ok e) (each_behind n rest)))

  pub same_items : SameItems R E
  same_items l = same_by (length l) l (omega arith)

  -- ---- the order at each depth

  -- nothing below a depth is at that depth
  none_at : (d : ℕ) (l : List (Item R E)) → filter (is_at d) (below d l) ≡ []
  none_at d [] = refl
  none_at d (x ∷ l) = elim (leb_tells (suc d) (depth_at x)) [
    | inl h ↦
        let not : (depth_at x == d) ≡ false = grind (arith, nat_tests, h.1) in
        rw (h.0, not) (none_at d l)
    | inr h ↦ rw h.0 refl
  ]

  -- an entry at another depth, or one with none of the same depth before it, goes behind
  behind_by : (x : Item R E) (us vs : List (Item R E)) (b : Bool) → (b ≡ true → us ≡ []) → us ++ cond b (x ∷ vs) vs ≡ cond b (x ∷ (us ++ vs)) (us ++ vs)
  behind_by x us vs true none = ap (λ us. us ++ (x ∷ vs)) (none refl) ∙ ap (λ us. x ∷ (us ++ vs)) (sym (none refl))
  behind_by x us vs false none = refl

  order_by : (d n : ℕ) (l : List (Item R E)) → length l ≤ n → filter (is_at d) (each_behind n l) ≡ filter (is_at d) l
  order_by d zero [] fits = refl
  order_by d zero (x ∷ l) fits = absurd (omega (arith, fits))
  order_by d (suc n) [] fits = refl
  order_by d (suc n) (Err f ∷ l) fits = ap (λ m. cond (is_at {R = R} {E = E} d (Err f)) (Err f ∷ m) m) (order_by d n l (omega (arith, fits)))
  order_by d (suc n) (Ok e ∷ l) fits =
      let under = below e.depth l in
      let rest = beyond e.depth l in
      let p : Item R E → Bool = is_at d in
      filter_seam p (each_behind n under) (Ok e ∷ each_behind n rest)
      ∙ ap₂ (λ a b. a ++ cond (p (Ok e)) (Ok e ∷ b) b)
      (order_by d n under (omega (arith, fits, length_below e.depth l)))
      (order_by d n rest (omega (arith, fits, length_beyond e.depth l)))
      ∙ behind_by (Ok e) (filter p under) (filter p rest) (p (Ok e)) (λ is. subst (λ c. filter (is_at c) under ≡ []) (at_same d e.depth is) (none_at e.depth l))
      ∙ ap (λ m. cond (p (Ok e)) (Ok e ∷ m) m) (sym (filter_seam p under rest) ∙ ap (filter p) (below_and_beyond e.depth l))

  pub depths_keep_order : DepthsKeepOrder R E
  depths_keep_order d l = order_by d (length l) l (omega arith)

  -- ---- contents come before

  -- A list has these items somewhere.
  record Has (part all : List (Item R E)) : Type 0 where
    first : List (Item R E)
    last : List (Item R E)
    is : all ≡ first ++ (part ++ last)

  has_behind : (before part all : List (Item R E)) → Has part all → Has part (before ++ all)
  has_behind before part all h = record {
    first = before ++ h.first;
    last = h.last;
    is = ap (λ m. before ++ m) h.is ∙ sym (append_assoc before h.first (part ++ h.last));
  }

  has_before : (part all after : List (Item R E)) → Has part all → Has part (all ++ after)
  has_before part all after h = record {
    first = h.first;
    last = h.last ++ after;
    is = ap (λ m. m ++ after) h.is ∙ append_assoc h.first (part ++ h.last) after ∙ ap (λ m. h.first ++ m) (append_assoc part h.last after);
  }

  -- an entry in a list, with what is below it before it
  abbrev with_contents : Entry R E → List (Item R E) → List (Item R E)
  with_contents e behind = contents_first (below e.depth behind) ++ (Ok e ∷ [])

  -- An entry is below a depth, together with what is ahead of it, or it is beyond.
  data Falls (d : ℕ) (ahead : List (Item R E)) (e : Entry R E) (behind : List (Item R E)) : Type 0 where
    within : d < e.depth → below d (ahead ++ (Ok e ∷ behind)) ≡ ahead ++ (Ok e ∷ below d behind) → Falls d ahead e behind
    past : (rest : List (Item R E)) → length rest ≤ length ahead → beyond d (ahead ++ (Ok e ∷ behind)) ≡ rest ++ (Ok e ∷ behind) → Falls d ahead e behind

  falls : (d : ℕ) (ahead : List (Item R E)) (e : Entry R E) (behind : List (Item R E)) → Falls d ahead e behind
  falls d [] e behind = elim (leb_tells (suc d) e.depth) [
    | inl h ↦ within (omega (arith, h.1)) (rw h.0 refl)
    | inr h ↦ past [] (omega arith) (rw h.0 refl)
  ]
  falls d (x ∷ ahead) e behind = elim (leb_tells (suc d) (depth_at x)) [
    | inl h ↦ elim (falls d ahead e behind) [
      | within deep is ↦ within deep (rw h.0 (ap (λ m. x ∷ m) is))
      | past rest fits is ↦ past rest (omega (arith, fits)) (rw h.0 is)
    ]
    | inr h ↦ past (x ∷ ahead) (omega arith) (rw h.0 refl)
  ]

  come_before : (n : ℕ) (ahead : List (Item R E)) (e : Entry R E) (behind : List (Item R E)) → length ahead ≤ n → Has (with_contents e behind) (contents_first (ahead ++ (Ok e ∷ behind)))
  come_before n [] e behind fits = record {
    first = [];
    last = contents_first (beyond e.depth behind);
    is = entry_behind e behind ∙ sym (append_assoc (contents_first (below e.depth behind)) (Ok e ∷ []) (contents_first (beyond e.depth behind)));
  }
  come_before zero (x ∷ ahead) e behind fits = absurd (omega (arith, fits))
  come_before (suc n) (Err f ∷ ahead) e behind fits = has_behind (Err f ∷ []) (with_contents e behind) (contents_first (ahead ++ (Ok e ∷ behind))) (come_before n ahead e behind (omega (arith, fits)))
  come_before (suc n) (Ok a ∷ ahead) e behind fits =
      let l = ahead ++ (Ok e ∷ behind) in
      subst (Has (with_contents e behind)) (sym (entry_behind a l)) (elim (falls a.depth ahead e behind) [
        | within deep is ↦
            has_before (with_contents e behind) (contents_first (below a.depth l)) (Ok a ∷ contents_first (beyond a.depth l))
            (subst (λ m. Has (with_contents e behind) (contents_first m)) (sym is)
            (subst (λ m. Has (contents_first m ++ (Ok e ∷ [])) (contents_first (ahead ++ (Ok e ∷ below a.depth behind)))) (below_below a.depth e.depth (omega (arith, deep)) behind)
            (come_before n ahead e (below a.depth behind) (omega (arith, fits)))))
        | past rest short is ↦
            has_behind (contents_first (below a.depth l)) (with_contents e behind) (Ok a ∷ contents_first (beyond a.depth l))
            (has_behind (Ok a ∷ []) (with_contents e behind) (contents_first (beyond a.depth l))
            (subst (λ m. Has (with_contents e behind) (contents_first m)) (sym is)
            (come_before n rest e behind (omega (arith, fits, short)))))
      ])

  pub contents_come_before : ContentsComeBefore R E
  contents_come_before ahead e behind =
      let h = come_before (length ahead) ahead e behind (omega arith) in
      (h.first, h.last, h.is ∙ ap (λ m. h.first ++ m) (append_assoc (contents_first (below e.depth behind)) (Ok e ∷ []) h.last))
