use Rattle.std.proofs.Common.{◌-◌, ◌∷◌, Some, map, reverse, refl, ap, sym, ◌∙◌}
use Rattle.std.specs.Prelude.{slice_set}
use Rattle.jwalk_job.specs.Entry.{entry}
use Rattle.jwalk_contents_first.specs.Coming.{left_of, last_of}
use Rattle.jwalk_contents_first.proofs.HeldFacts.{last_lent, reverse_last, set_last}
use Rattle.jwalk_contents_first.proofs.held.Held.swap_last.Goals as goal

pub returns-in-Some-last_mut-clause-swapped : goal.returns-in-Some-last_mut-clause-swapped
returns-in-Some-last_mut-clause-swapped g c _ =
    let v = c.in-Some.entries in
    let last = c.in-Some-last_mut.last.now in
    let ends = last_lent v.len v.items last v.ok.0 (c.in-Some-last_mut.ensures.variant.0 refl) c.in-Some-last_mut.ensures.value in
    let whole = reverse_last entry v.items last ends in
    let set = set_last v.len v.items last c.swap.new.x v.ok.0 ends in
    rw c.in-Some.is (record {
      last = ap last_of whole ∙ ap (λ d. Some (entry d)) (sym c.swap.ensures.y_after);
      taken = reverse_last entry (slice_set v.items (v.len - 1) c.swap.new.x) c.swap.new.x (record { front = ends.front; is = set })
          ∙ ap (λ d. entry d ∷ map entry (reverse ends.front)) c.swap.ensures.x_after
          ∙ ap (λ l. entry c.args.found.now ∷ left_of l) (sym whole);
    })
