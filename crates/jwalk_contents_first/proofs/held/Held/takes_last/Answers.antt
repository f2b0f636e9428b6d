use Rattle.std.proofs.Common.{◌≡◌, true, false, map, reverse, ap, sym, ◌∙◌, arith}
use Rattle.std.specs.Prelude.{nat_lt}
use Rattle.std.proofs.lemmas.Bool.Decides.{nat_tests}
use Rattle.jwalk_job.specs.Entry.{entry}
use Rattle.jwalk_contents_first.specs.Coming.{is_above, takes_last}
use Rattle.jwalk_contents_first.proofs.ClosingFacts.{and_not_false, and_not_true}
use Rattle.jwalk_contents_first.proofs.HeldFacts.{reverse_last}
use Rattle.jwalk_contents_first.proofs.held.Held.takes_last.Goals as goal

pub returns-then-depth : goal.returns-then-depth
returns-then-depth g c =
    let others = c.in-Some-split_last.others.now in
    let last = c.in-Some-split_last.last.now in
    let depth = c.args.depth in
    let whole = reverse_last entry c.in-Some.entries.items last (record { front = others; is = sym c.deref.ensures.value ∙ c.in-Some-split_last.ensures.cases.0 }) in
    let less : nat_lt (entry last).depth depth ≡ true = grind (arith, nat_tests, c.depth.ensures, c.if-depth.true) in
    rw c.in-Some.is (sym (ap (takes_last depth) whole ∙ and_not_true (is_above depth (map entry (reverse others))) (nat_lt (entry last).depth depth) less))

pub returns : goal.returns
returns g c =
    let others = c.in-Some-split_last.others.now in
    let last = c.in-Some-split_last.last.now in
    let depth = c.args.depth in
    let whole = reverse_last entry c.in-Some.entries.items last (record { front = others; is = sym c.deref.ensures.value ∙ c.in-Some-split_last.ensures.cases.0 }) in
    let less : nat_lt (entry last).depth depth ≡ false = grind (arith, nat_tests, c.depth.ensures, c.if-depth.false) in
    c.is_above.ensures ∙ rw c.in-Some.is (sym (ap (takes_last depth) whole ∙ and_not_false (is_above depth (map entry (reverse others))) (nat_lt (entry last).depth depth) less))
