-- An error among the answers is one among what is yielded.
use Rattle.std.proofs.Common.{◌≡◌, ◌∙◌, ◌≤◌, ℕ, zero, suc, Bool, true, false, ◌&&◌, List, [], ◌∷◌, ◌++◌, length, Ok, Err, is_ok, refl, sym, ap, ap₂, arith}
use Rattle.std.specs.List.{list_all}
use Rattle.jwalk.specs.jwalk_model.declared.metadata.Identity.{Identity}
use Rattle.jwalk.specs.jwalk_model.Entry.{Item}
use Rattle.jwalk_subtotals.specs.Counted.{Weighed, counted_once, weighed, with_file}
use Rattle.jwalk_subtotals.specs.Subtotals.{asked, below, beyond, listed, shown, subtotal, subtotals_beside}
use Rattle.jwalk_subtotals.specs.declared.options.SubtotalOptions.{SubtotalOptions}
use Rattle.jwalk_subtotals.proofs.ClosingFacts.{below_and_beyond, length_below, length_beyond}

and_and : (a b c : Bool) → ((a && b) && c) ≡ (a && (b && c))
and_and true b c = refl
and_and false b c = refl

all_seam : {X : Type 0} (test : X → Bool) (xs ys : List X) → list_all test (xs ++ ys) ≡ (list_all test xs && list_all test ys)
all_seam test [] ys = refl
all_seam test (x ∷ xs) ys = ap (λ b. test x && b) (all_seam test xs ys) ∙ sym (and_and (test x) (list_all test xs) (list_all test ys))

left_true : (a b : Bool) → (a && b) ≡ true → a ≡ true
left_true true b is = refl
left_true false b is = is

right_true : (a b : Bool) → (a && b) ≡ true → b ≡ true
right_true true b is = is
right_true false b is = absurd (cc is)

module _ {R E : Type 0} where
  -- whether an answer that is weighed is an entry
  abbrev is_entry : Weighed R E → Bool
  is_entry w = is_ok w.0

  entries_listed : (n : ℕ) (o : SubtotalOptions) (l : List (Weighed R E)) → length l ≤ n → list_all is_ok (listed n o l) ≡ true → list_all is_entry l ≡ true
  entries_listed zero o [] fits all = refl
  entries_listed zero o (w ∷ l) fits all = absurd (omega (arith, fits))
  entries_listed (suc n) o [] fits all = refl
  entries_listed (suc n) o ((Err f, t) ∷ l) fits all = absurd (cc all)
  entries_listed (suc n) o ((Ok e, t) ∷ l) fits all =
      let first = listed n o (below e.depth l) in
      let own = shown (asked o e) (subtotal (Ok e, t) l) in
      let rest = listed n o (beyond e.depth l) in
      let seams : ((list_all is_ok first && list_all is_ok own) && list_all is_ok rest) ≡ true
      = sym (all_seam is_ok (first ++ own) rest ∙ ap (λ b. b && list_all is_ok rest) (all_seam is_ok first own)) ∙ all in
      let ahead = entries_listed n o (below e.depth l) (omega (arith, fits, length_below e.depth l))
      (left_true (list_all is_ok first) (list_all is_ok own) (left_true (list_all is_ok first && list_all is_ok own) (list_all is_ok rest) seams)) in
      let behind = entries_listed n o (beyond e.depth l) (omega (arith, fits, length_beyond e.depth l))
      (right_true (list_all is_ok first && list_all is_ok own) (list_all is_ok rest) seams) in
      ap (list_all is_entry) (sym (below_and_beyond e.depth l))
      ∙ all_seam is_entry (below e.depth l) (beyond e.depth l)
      ∙ ap₂ (λ (a b : Bool). a && b) ahead behind

  entries_weighed : (o : SubtotalOptions) (files : List Identity) (l : List (Item R E)) → list_all is_entry (weighed o files l) ≡ list_all is_ok l
  entries_weighed o files [] = refl
  entries_weighed o files (Ok e ∷ l) = entries_weighed o (with_file (counted_once o e) files) l
  entries_weighed o files (Err f ∷ l) = refl

  pub entries_alone : (o : SubtotalOptions) (files : List Identity) (l : List (Item R E)) → list_all is_ok (subtotals_beside o files l) ≡ true → list_all is_ok l ≡ true
  entries_alone o files l all = sym (entries_weighed o files l) ∙ entries_listed (length (weighed o files l)) o (weighed o files l) (omega arith) all
