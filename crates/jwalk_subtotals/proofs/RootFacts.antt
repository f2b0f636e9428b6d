-- What the subtotals of answers that lie beside each other come to.
use Rattle.std.proofs.Common.{◌≡◌, ◌≤◌, ◌+◌, ℕ, zero, suc, true, List, [], ◌∷◌, length, Ok, Err, refl, sym, ap, ◌∙◌, arith}
use Rattle.std.proofs.lemmas.List.Sums.{sum_by-cons}
use Rattle.jwalk.specs.jwalk_model.declared.metadata.Identity.{Identity}
use Rattle.jwalk.specs.jwalk_model.FileType.{is_dir, is_file, is_symlink}
use Rattle.jwalk.specs.jwalk_model.Entry.{Item}
use Rattle.jwalk_usage.specs.declared.report.Usage.{Usage}
use Rattle.jwalk_usage.specs.Totals.{is_other, entry_of}
use Rattle.jwalk_usage.specs.Kept.{errors_kept, bytes_kept, kept_totals}
use Rattle.jwalk_usage.proofs.TotalFacts.{by_numbers}
use Rattle.jwalk_subtotals.specs.declared.options.SubtotalOptions.{SubtotalOptions}
use Rattle.jwalk_subtotals.specs.Subtotal.{plus}
use Rattle.jwalk_subtotals.specs.Counted.{Weighed, weighed}
use Rattle.jwalk_subtotals.specs.Subtotals.{depth_at, below, beyond, total, subtotal}
use Rattle.jwalk_subtotals.specs.Roots.{sum_of, usage_in, roots_among, SubtotalsAddUp, RootsAreAll, RootsAreTotals}
use Rattle.jwalk_subtotals.proofs.SumFacts.{plus_assoc, total_append}
use Rattle.jwalk_subtotals.proofs.ClosingFacts.{length_beyond, below_and_beyond}

module _ {R E : Type 0} where
  among_all : (n : ℕ) (l : List (Weighed R E)) → length l ≤ n → sum_of (roots_among n l) ≡ total l
  among_all zero [] fits = refl
  among_all zero (w ∷ l) fits = absurd (omega arith)
  among_all (suc n) [] fits = refl
  among_all (suc n) (w ∷ l) fits =
      ap (plus (subtotal w l)) (among_all n (beyond (depth_at w.0) l) (omega (arith, length_beyond (depth_at w.0) l)))
      ∙ plus_assoc w.1 (total (below (depth_at w.0) l)) (total (beyond (depth_at w.0) l))
      ∙ ap (plus w.1) (sym (total_append (below (depth_at w.0) l) (beyond (depth_at w.0) l)) ∙ ap total (below_and_beyond (depth_at w.0) l))

  pub roots_are_all : RootsAreAll R E
  roots_are_all l = among_all (length l) l (omega arith)

  pub subtotals_add_up : SubtotalsAddUp R E
  subtotals_add_up w behind = ap (plus w.1) (sym (roots_are_all (below (depth_at w.0) behind)))

  -- where each name is counted, answers count what totals count
  each_counted : (o : SubtotalOptions) (files : List Identity) → o.each_name ≡ true → (l : List (Item R E)) → usage_in (total (weighed o files l)) ≡ kept_totals l
  each_counted o files each [] = refl
  each_counted o files each (Err f ∷ l) =
      let more = each_counted o files each l in
      by_numbers _ _ _ _ _ _ _ _ _ _ _ _
      (ap (λ (u : Usage). 0 + u.files) more ∙ sym (sum_by-cons (entry_of {R = R} {E = E} is_file) (Err f) l))
      (ap (λ (u : Usage). 0 + u.dirs) more ∙ sym (sum_by-cons (entry_of {R = R} {E = E} is_dir) (Err f) l))
      (ap (λ (u : Usage). 0 + u.links) more ∙ sym (sum_by-cons (entry_of {R = R} {E = E} is_symlink) (Err f) l))
      (ap (λ (u : Usage). 0 + u.others) more ∙ sym (sum_by-cons (entry_of {R = R} {E = E} is_other) (Err f) l))
      (ap (λ (u : Usage). 1 + u.errors) more ∙ sym (sum_by-cons (errors_kept {R = R} {E = E}) (Err f) l))
      (ap (λ (u : Usage). 0 + u.bytes) more ∙ sym (sum_by-cons (bytes_kept {R = R} {E = E}) (Err f) l))
  each_counted o files each (Ok e ∷ l) =
      let more = each_counted o files each l in
      rw each
      (by_numbers _ _ _ _ _ _ _ _ _ _ _ _
      (ap (λ (u : Usage). entry_of is_file (Ok e) + u.files) more ∙ sym (sum_by-cons (entry_of is_file) (Ok e) l))
      (ap (λ (u : Usage). entry_of is_dir (Ok e) + u.dirs) more ∙ sym (sum_by-cons (entry_of is_dir) (Ok e) l))
      (ap (λ (u : Usage). entry_of is_symlink (Ok e) + u.links) more ∙ sym (sum_by-cons (entry_of is_symlink) (Ok e) l))
      (ap (λ (u : Usage). entry_of is_other (Ok e) + u.others) more ∙ sym (sum_by-cons (entry_of is_other) (Ok e) l))
      (ap (λ (u : Usage). errors_kept (Ok e) + u.errors) more ∙ sym (sum_by-cons errors_kept (Ok e) l))
      (ap (λ (u : Usage). bytes_kept (Ok e) + u.bytes) more ∙ sym (sum_by-cons bytes_kept (Ok e) l)))

  pub roots_are_totals : RootsAreTotals R E
  roots_are_totals o l each = ap usage_in (roots_are_all (weighed o [] l)) ∙ each_counted o [] each l
