use Rattle.std.proofs.Common.{rules, ◌≡◌, ◌-◌, length, Some, ap, sym, ◌∙◌}
use Rattle.std.specs.Prelude.{nat_lt, slice_get}
use Rattle.jwalk_job.specs.Entry.{entry}
use Rattle.jwalk_contents_first.specs.Coming.{is_above}
use Rattle.jwalk_contents_first.proofs.HeldFacts.{reverse_last, some_last}
use Rattle.jwalk_contents_first.proofs.held.is_above.Goals as goal

pub returns-in-Some : goal.returns-in-Some
returns-in-Some g c =
    let items = c.args.entries.now in
    let last = c.in-Some.last.now in
    let is : slice_get items (length items - 1) ≡ Some last = search rules in
    ap (λ d. nat_lt d c.args.depth) c.depth.ensures ∙ ap (is_above c.args.depth) (sym (reverse_last entry items last (some_last items last is)))
