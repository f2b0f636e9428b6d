-- What open entries will yield.
use Rattle.std.proofs.Common.{◌≡◌, ◌≤◌, ℕ, zero, suc, Bool, true, false, List, [], ◌∷◌, ◌++◌, length, Some, None, Ok, Err, inl, inr, refl, sym, ap, ap₂, ◌∙◌, append_assoc, append-nil, arith}
use Rattle.std.specs.Prelude.{nat_lt, if◌then◌else◌}
use Rattle.std.proofs.lemmas.Bool.Decides.{leb_tells, nat_tests}
use Rattle.jwalk.specs.jwalk_model.Entry.{Entry}
use Rattle.jwalk.specs.jwalk_model.Error.{Failure}
use Rattle.jwalk_subtotals.specs.declared.subtotal.Subtotal.{Subtotal}
use Rattle.jwalk_subtotals.specs.declared.options.SubtotalOptions.{SubtotalOptions}
use Rattle.jwalk_subtotals.specs.Subtotal.{nothing, plus}
use Rattle.jwalk_subtotals.specs.Counted.{Weighed}
use Rattle.jwalk_subtotals.specs.Subtotals.{depth_at, is_asked, below, beyond, total, subtotal, asked, shown, listed, listed_all}
use Rattle.jwalk_subtotals.specs.Stack.{Frame, is_above, added, entered}
use Rattle.jwalk_subtotals.specs.Coming.{closing}
use Rattle.jwalk_subtotals.proofs.SumFacts.{plus_assoc, plus_nothing, total_append}

-- the sum of an open entry, once what is in the one below it was counted
regrouped : (g t a b : Subtotal) → plus (plus g nothing) (plus t (plus a b)) ≡ plus (plus g (plus (plus t nothing) a)) b
regrouped g t a b =
    ap₂ (λ x y. plus x (plus y (plus a b))) (plus_nothing g) (sym (plus_nothing t))
    ∙ ap (plus g) (sym (plus_assoc (plus t nothing) a b))
    ∙ sym (plus_assoc g (plus (plus t nothing) a) b)

five : {X : Type 0} (a b c d e : List X) → (((a ++ b) ++ c) ++ d) ++ e ≡ (a ++ b) ++ ((c ++ d) ++ e)
five a b c d e = simp append_assoc

four : {X : Type 0} (a b c d : List X) → a ++ ((b ++ c) ++ d) ≡ ((a ++ b) ++ c) ++ d
four a b c d = simp append_assoc

deep : (d c : ℕ) → nat_lt d c ≡ true → d ≤ c
deep d c is = grind (arith, nat_tests)

module _ {R E : Type 0} where
  pub length_below : (d : ℕ) (l : List (Weighed R E)) → length (below d l) ≤ length l
  length_below d [] = omega arith
  length_below d (w ∷ l) = elim (leb_tells (suc d) (depth_at w.0)) [
    | inl h ↦ rw h.0 (omega (arith, length_below d l))
    | inr h ↦ rw h.0 (omega arith)
  ]

  pub length_beyond : (d : ℕ) (l : List (Weighed R E)) → length (beyond d l) ≤ length l
  length_beyond d [] = omega arith
  length_beyond d (w ∷ l) = elim (leb_tells (suc d) (depth_at w.0)) [
    | inl h ↦ rw h.0 (omega (arith, length_beyond d l))
    | inr h ↦ rw h.0 (omega arith)
  ]

  pub below_and_beyond : (d : ℕ) (l : List (Weighed R E)) → below d l ++ beyond d l ≡ l
  below_and_beyond d [] = refl
  below_and_beyond d (w ∷ l) = elim (leb_tells (suc d) (depth_at w.0)) [
    | inl h ↦ rw h.0 (ap (λ m. w ∷ m) (below_and_beyond d l))
    | inr h ↦ rw h.0 refl
  ]

  pub below_below : (d c : ℕ) → d ≤ c → (l : List (Weighed R E)) → below c (below d l) ≡ below c l
  below_below d c le [] = refl
  below_below d c le (w ∷ l) = elim (leb_tells (suc d) (depth_at w.0)) [
    | inl h ↦ elim (leb_tells (suc c) (depth_at w.0)) [
      | inl k ↦ rw (h.0, k.0) (ap (λ m. w ∷ m) (below_below d c le l))
      | inr k ↦ rw (h.0, k.0) refl
    ]
    | inr h ↦ elim (leb_tells (suc c) (depth_at w.0)) [
      | inl k ↦ absurd (omega (arith, le, h.1, k.1))
      | inr k ↦ rw (h.0, k.0) refl
    ]
  ]

  pub beyond_below : (d c : ℕ) → d ≤ c → (l : List (Weighed R E)) → beyond c (below d l) ≡ below d (beyond c l)
  beyond_below d c le [] = refl
  beyond_below d c le (w ∷ l) = elim (leb_tells (suc d) (depth_at w.0)) [
    | inl h ↦ elim (leb_tells (suc c) (depth_at w.0)) [
      | inl k ↦ rw (h.0, k.0) (beyond_below d c le l)
      | inr k ↦ rw (h.0, k.0, h.0) refl
    ]
    | inr h ↦ elim (leb_tells (suc c) (depth_at w.0)) [
      | inl k ↦ absurd (omega (arith, le, h.1, k.1))
      | inr k ↦ rw (h.0, k.0, h.0) refl
    ]
  ]

  pub beyond_beyond : (d c : ℕ) → d ≤ c → (l : List (Weighed R E)) → beyond d (beyond c l) ≡ beyond d l
  beyond_beyond d c le [] = refl
  beyond_beyond d c le (w ∷ l) = elim (leb_tells (suc c) (depth_at w.0)) [
    | inl k ↦ elim (leb_tells (suc d) (depth_at w.0)) [
      | inl h ↦ rw (k.0, h.0) (beyond_beyond d c le l)
      | inr h ↦ absurd (omega (arith, le, h.1, k.1))
    ]
    | inr k ↦ rw k.0 refl
  ]

  -- a greater limit lists the same
  same_limit : (o : SubtotalOptions) (n m : ℕ) (l : List (Weighed R E)) → length l ≤ n → length l ≤ m → listed n o l ≡ listed m o l
  same_limit o zero zero l p q = refl
  same_limit o zero (suc m) [] p q = refl
  same_limit o (suc n) zero [] p q = refl
  same_limit o (suc n) (suc m) [] p q = refl
  same_limit o zero (suc m) (w ∷ l) p q = absurd (omega arith)
  same_limit o (suc n) zero (w ∷ l) p q = absurd (omega arith)
  same_limit o (suc n) (suc m) ((Err f, count) ∷ l) p q = ap (λ k. Err f ∷ k) (same_limit o n m l (omega arith) (omega arith))
  same_limit o (suc n) (suc m) ((Ok e, count) ∷ l) p q =
      ap₂ (λ a b. a ++ shown (asked o e) (subtotal (Ok e, count) l) ++ b)
      (same_limit o n m (below e.depth l) (omega (arith, length_below e.depth l)) (omega (arith, length_below e.depth l)))
      (same_limit o n m (beyond e.depth l) (omega (arith, length_beyond e.depth l)) (omega (arith, length_beyond e.depth l)))

  -- what is listed for an entry and what is behind it
  pub listed_entry : (o : SubtotalOptions) (e : Entry R E) (count : Subtotal) (l : List (Weighed R E)) → listed_all o ((Ok e, count) ∷ l) ≡ listed_all o (below e.depth l) ++ shown (asked o e) (subtotal (Ok e, count) l) ++ listed_all o (beyond e.depth l)
  listed_entry o e count l =
      ap₂ (λ a b. a ++ shown (asked o e) (subtotal (Ok e, count) l) ++ b)
      (same_limit o (length l) (length (below e.depth l)) (below e.depth l) (length_below e.depth l) (omega arith))
      (same_limit o (length l) (length (beyond e.depth l)) (beyond e.depth l) (length_beyond e.depth l) (omega arith))

  -- what closing yields doesn't depend on whether what was counted below the last entry is in it
  pub counted_in : (o : SubtotalOptions) (t : Subtotal) (fs : List (Frame R E)) (l : List (Weighed R E)) → closing o t fs l ≡ closing o nothing (added t fs) l
  counted_in o t [] l = refl
  counted_in o t (f ∷ fs) l =
      ap (λ s. listed_all o (below f.entry.depth l) ++ shown (Some f.entry) (plus s (total (below f.entry.depth l))) ++ closing o (plus s (total (below f.entry.depth l))) fs (beyond f.entry.depth l)) (sym (plus_nothing (plus f.counted t)))

  -- Nothing of what comes is below the last open entry, which is closed.
  pub closed_first : (o : SubtotalOptions) (f : Frame R E) (fs : List (Frame R E)) (l : List (Weighed R E)) → below f.entry.depth l ≡ [] → closing o nothing (f ∷ fs) l ≡ shown (Some f.entry) f.counted ++ closing o nothing (added f.counted fs) l
  closed_first o f fs l none =
      let whole : beyond f.entry.depth l ≡ l = ap (λ m. m ++ beyond f.entry.depth l) (sym none) ∙ below_and_beyond f.entry.depth l in
      rw (none, whole, plus_nothing (plus f.counted nothing), plus_nothing f.counted)
      (ap (λ m. shown (Some f.entry) f.counted ++ m) (counted_in o f.counted fs l))

  -- an error counts below the last open entry, and is yielded
  pub error_first : (o : SubtotalOptions) (f : Failure) (t : Subtotal) (fs : List (Frame R E)) (l : List (Weighed R E)) → is_above (depth_at {R = R} {E = E} (Err f)) fs ≡ true → closing o nothing fs ((Err f, t) ∷ l) ≡ Err f ∷ closing o nothing (added t fs) l
  error_first o f t [] l above = refl
  error_first o f t (g ∷ fs) l above =
      rw above
      (ap (λ s. Err f ∷ (listed_all o (below g.entry.depth l) ++ shown (Some g.entry) s ++ closing o s fs (beyond g.entry.depth l)))
      (ap (λ s. plus s (plus t (total (below g.entry.depth l)))) (plus_nothing g.counted)
      ∙ sym (plus_assoc g.counted t (total (below g.entry.depth l)))
      ∙ ap (λ s. plus s (total (below g.entry.depth l))) (sym (plus_nothing (plus g.counted t)))))

  -- the sum over what is below an open entry, where the first is an entry with these below it
  total_parts : (d c : ℕ) → d ≤ c → (l : List (Weighed R E)) → total (below d l) ≡ plus (total (below c l)) (total (below d (beyond c l)))
  total_parts d c le l =
      ap total (sym (below_and_beyond c (below d l)))
      ∙ total_append (below c (below d l)) (beyond c (below d l))
      ∙ ap₂ (λ a b. plus (total a) (total b)) (below_below d c le l) (beyond_below d c le l)

  -- what is listed below a depth, and behind that, is listed in all
  listed_parts : (o : SubtotalOptions) (n d : ℕ) (l : List (Weighed R E)) → length l ≤ n → listed_all o (below d l) ++ listed_all o (beyond d l) ≡ listed_all o l
  listed_parts o n d [] le = refl
  listed_parts o zero d (w ∷ l) le = absurd (omega (arith, le))
  listed_parts o (suc n) d ((Err f, t) ∷ l) le = elim (leb_tells (suc d) (depth_at {R = R} {E = E} (Err f))) [
    | inl h ↦ rw h.0 (ap (λ m. Err f ∷ m) (listed_parts o n d l (omega (arith, le))))
    | inr h ↦ rw h.0 refl
  ]
  listed_parts o (suc n) d ((Ok e, t) ∷ l) le = elim (leb_tells (suc d) e.depth) [
    | inl h ↦
        let deeper : d ≤ e.depth = omega (arith, h.1) in
        let first = listed_all o (below e.depth l) ++ shown (asked o e) (plus t (total (below e.depth l))) in
        rw h.0
        (ap (λ m. m ++ listed_all o (beyond d l)) (listed_entry o e t (below d l))
        ∙ ap₂ (λ b c. ((listed_all o b ++ shown (asked o e) (plus t (total b))) ++ listed_all o c) ++ listed_all o (beyond d l)) (below_below d e.depth deeper l) (beyond_below d e.depth deeper l)
        ∙ ap (λ m. (first ++ listed_all o (below d (beyond e.depth l))) ++ listed_all o m) (sym (beyond_beyond d e.depth deeper l))
        ∙ append_assoc first (listed_all o (below d (beyond e.depth l))) (listed_all o (beyond d (beyond e.depth l)))
        ∙ ap (λ m. first ++ m) (listed_parts o n d (beyond e.depth l) (omega (arith, le, length_beyond e.depth l)))
        ∙ sym (listed_entry o e t l))
    | inr h ↦ rw h.0 refl
  ]

  -- what is below a depth may be listed and counted first
  closing_parts : (o : SubtotalOptions) (d : ℕ) (t : Subtotal) (fs : List (Frame R E)) (l : List (Weighed R E)) → is_above d fs ≡ true → listed_all o (below d l) ++ closing o (plus t (total (below d l))) fs (beyond d l) ≡ closing o t fs l
  closing_parts o d t [] l above = listed_parts o (length l) d l (omega arith)
  closing_parts o d t (g ∷ fs) l above =
      let c = g.entry.depth in
      let le : c ≤ d = deep c d above in
      let inner = listed_all o (below d l) in
      let outer = listed_all o (below c (beyond d l)) in
      let sum : Subtotal = plus (plus g.counted t) (total (below c l)) in
      let same : plus (plus g.counted (plus t (total (below d l)))) (total (below c (beyond d l))) ≡ sum =
      ap (λ s. plus s (total (below c (beyond d l)))) (sym (plus_assoc g.counted t (total (below d l))))
      ∙ plus_assoc (plus g.counted t) (total (below d l)) (total (below c (beyond d l)))
      ∙ ap (plus (plus g.counted t)) (sym (total_parts c d le l)) in
      let parts : inner ++ outer ≡ listed_all o (below c l) =
      ap₂ (λ a b. listed_all o a ++ listed_all o b) (sym (below_below c d le l)) (sym (beyond_below c d le l))
      ∙ listed_parts o (length (below c l)) d (below c l) (omega arith) in
      ap₂ (λ s m. inner ++ ((outer ++ shown (Some g.entry) s) ++ closing o s fs m)) same (beyond_beyond c d le l)
      ∙ four inner outer (shown (Some g.entry) sum) (closing o sum fs (beyond c l))
      ∙ ap (λ m. (m ++ shown (Some g.entry) sum) ++ closing o sum fs (beyond c l)) parts

  -- an entry comes, is shown if it is asked for, and counts
  entry_first : (o : SubtotalOptions) (e : Entry R E) (t : Subtotal) (fs : List (Frame R E)) (l : List (Weighed R E)) → is_above e.depth fs ≡ true
      → closing o nothing fs ((Ok e, t) ∷ l)
      ≡ listed_all o (below e.depth l) ++ shown (asked o e) (plus (plus t nothing) (total (below e.depth l))) ++ closing o (plus (plus t nothing) (total (below e.depth l))) fs (beyond e.depth l)
  entry_first o e t [] l above =
      listed_entry o e t l
      ∙ ap (λ s. listed_all o (below e.depth l) ++ shown (asked o e) (plus s (total (below e.depth l))) ++ listed_all o (beyond e.depth l)) (sym (plus_nothing t))
  entry_first o e t (g ∷ fs) l above =
      let le : g.entry.depth ≤ e.depth = deep g.entry.depth e.depth above in
      let whole : Subtotal = plus (plus g.counted nothing) (plus t (total (below g.entry.depth l))) in
      let whole' : Subtotal = plus (plus g.counted (plus (plus t nothing) (total (below e.depth l)))) (total (below g.entry.depth (beyond e.depth l))) in
      let same : whole ≡ whole' = ap (λ s. plus (plus g.counted nothing) (plus t s)) (total_parts g.entry.depth e.depth le l) ∙ regrouped g.counted t (total (below e.depth l)) (total (below g.entry.depth (beyond e.depth l))) in
      let mine : plus t (total (below e.depth (below g.entry.depth l))) ≡ plus (plus t nothing) (total (below e.depth l)) = ap₂ plus (sym (plus_nothing t)) (ap total (below_below g.entry.depth e.depth le l)) in
      let a = listed_all o (below e.depth (below g.entry.depth l)) in
      let b = shown (asked o e) (plus t (total (below e.depth (below g.entry.depth l)))) in
      let c = listed_all o (beyond e.depth (below g.entry.depth l)) in
      let rest = closing o whole fs (beyond g.entry.depth l) in
      rw above
      (ap (λ m. (m ++ shown (Some g.entry) whole) ++ rest) (listed_entry o e t (below g.entry.depth l))
      ∙ five a b c (shown (Some g.entry) whole) rest
      ∙ ap (λ m. (listed_all o m ++ b) ++ ((c ++ shown (Some g.entry) whole) ++ rest)) (below_below g.entry.depth e.depth le l)
      ∙ ap (λ s. (listed_all o (below e.depth l) ++ shown (asked o e) s) ++ ((c ++ shown (Some g.entry) whole) ++ rest)) mine
      ∙ ap₂ (λ m s. (listed_all o (below e.depth l) ++ shown (asked o e) (plus (plus t nothing) (total (below e.depth l)))) ++ ((listed_all o m ++ shown (Some g.entry) s) ++ closing o s fs (beyond g.entry.depth l))) (beyond_below g.entry.depth e.depth le l) same
      ∙ ap (λ m. (listed_all o (below e.depth l) ++ shown (asked o e) (plus (plus t nothing) (total (below e.depth l)))) ++ ((listed_all o (below g.entry.depth (beyond e.depth l)) ++ shown (Some g.entry) whole') ++ closing o whole' fs m)) (sym (beyond_beyond g.entry.depth e.depth le l)))

  -- an entry is opened, or counts below the last
  pub entered_first : (o : SubtotalOptions) (e : Entry R E) (t : Subtotal) (fs : List (Frame R E)) (l : List (Weighed R E)) → is_above e.depth fs ≡ true → closing o nothing fs ((Ok e, t) ∷ l) ≡ closing o nothing (entered (is_asked o e) e t fs) l
  entered_first o e t fs l above = entry_first o e t fs l above ∙ either (is_asked o e) where
    sum : Subtotal
    sum = plus (plus t nothing) (total (below e.depth l))

    either : (b : Bool) → listed_all o (below e.depth l) ++ shown (if b then Some e else None) sum ++ closing o sum fs (beyond e.depth l) ≡ closing o nothing (entered b e t fs) l
    either true = refl
    either false =
        ap (λ m. m ++ closing o sum fs (beyond e.depth l)) (append-nil (listed_all o (below e.depth l)))
        ∙ closing_parts o e.depth (plus t nothing) fs l above
        ∙ ap (λ s. closing o s fs l) (plus_nothing t)
        ∙ counted_in o t fs l
