-- What open entries count together.
use Rattle.std.proofs.Common.{◌≡◌, ◌+◌, ℕ, List, [], ◌∷◌, ◌++◌, map, reverse, refl, sym, ap, ◌∙◌, subst, arith, ◌<◌, ◌≤◌, drop, length, get_or}
use Rattle.std.proofs.Math.ListN.{drop_of_length-le}
use Rattle.std.proofs.lemmas.List.{drop_more, map-append, reverse-append}
use Rattle.jwalk_subtotals.specs.declared.stack.WithSubtotal.{WithSubtotal}
use Rattle.jwalk_subtotals.specs.declared.subtotal.Subtotal.{Subtotal}
use Rattle.jwalk_subtotals.specs.Subtotal.{nothing, plus, IsTooGreat}
use Rattle.jwalk_subtotals.specs.Stack.{Frame, frame, open_total}
use Rattle.jwalk_subtotals.proofs.GreatFacts.{great_by}
use Rattle.jwalk_subtotals.proofs.SumFacts.{by_numbers, plus_assoc, plus_nothing}

swap : (a b c : Subtotal) → plus a (plus b c) ≡ plus b (plus a c)
swap a b c = by_numbers _ _ _ _ _ _ _ _ _ _ _ _ _ _ (omega arith) (omega arith) (omega arith) (omega arith) (omega arith) (omega arith) (omega arith)

-- a sum is too great if a part of it is
more_great : (a b : Subtotal) → IsTooGreat a → IsTooGreat (plus a b)
more_great a b = great_by a (plus a b) (omega arith) (omega arith) (omega arith) (omega arith) (omega arith) (omega arith) (omega arith)

total_seam : {R E : Type 0} (fs : List (Frame R E)) (f : Frame R E) → open_total (fs ++ f ∷ []) ≡ plus f.counted (open_total fs)
total_seam [] f = refl
total_seam (g ∷ fs) f = ap (plus g.counted) (total_seam fs f) ∙ swap g.counted f.counted (open_total fs)

module _ {C A R E : Type 0} where
  -- what these count together, of which the first was opened first
  abbrev pub sum_open : List (WithSubtotal C A R E) → Subtotal
  sum_open [] = nothing
  sum_open (w ∷ ws) = plus w.subtotal (sum_open ws)

  pub all_open : (ws : List (WithSubtotal C A R E)) → sum_open ws ≡ open_total (map frame (reverse ws))
  all_open [] = refl
  all_open (w ∷ ws) =
      ap (plus w.subtotal) (all_open ws)
      ∙ sym (total_seam (map frame (reverse ws)) (frame w))
      ∙ ap open_total (sym (map-append frame (reverse ws) (frames_one w)))
      ∙ ap (λ l. open_total (map frame l)) (sym (reverse-append (frames_one w) ws)) where
        frames_one : WithSubtotal C A R E → List (WithSubtotal C A R E)
        frames_one w = w ∷ []

  -- one more is added
  pub one_more : (ws : List (WithSubtotal C A R E)) (i : ℕ) (w : WithSubtotal C A R E) (t all : Subtotal) → i < length ws → w ≡ get_or ws i w → plus t (sum_open (drop i ws)) ≡ all → plus (plus t w.subtotal) (sum_open (drop (i + 1) ws)) ≡ all
  one_more ws i w t all less is so_far =
      plus_assoc t w.subtotal (sum_open (drop (i + 1) ws))
      ∙ ap (λ (v : WithSubtotal C A R E). plus t (plus v.subtotal (sum_open (drop (i + 1) ws)))) is
      ∙ ap (λ l. plus t (sum_open l)) (sym (drop_more ws i w less))
      ∙ so_far

  -- all are added
  pub no_more_open : (ws : List (WithSubtotal C A R E)) (i : ℕ) (t all : Subtotal) → length ws ≤ i → plus t (sum_open (drop i ws)) ≡ all → t ≡ all
  no_more_open ws i t all end so_far = sym (plus_nothing t) ∙ ap (λ l. plus t (sum_open l)) (sym (drop_of_length-le ws end)) ∙ so_far

  -- too much is added
  pub too_much : (ws : List (WithSubtotal C A R E)) (i : ℕ) (w : WithSubtotal C A R E) (t all : Subtotal) → i < length ws → w ≡ get_or ws i w → plus t (sum_open (drop i ws)) ≡ all → IsTooGreat (plus t w.subtotal) → IsTooGreat all
  too_much ws i w t all less is so_far great = subst IsTooGreat (one_more ws i w t all less is so_far) (more_great (plus t w.subtotal) (sum_open (drop (i + 1) ws)) great)
