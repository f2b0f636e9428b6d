use Rattle.std.proofs.Common.{◌≡◌, ◌∙◌, length, take, drop, ◌++◌, arith, sym, ap}
use Rattle.std.proofs.Math.Seq.{take-append_seam}
use Rattle.jwalk.specs.jwalk_job.Entry.{item}
use Rattle.jwalk.specs.jwalk_job.Given.{counted_item, counted_list}
use Rattle.example_proofs.specs.HandsOnNames.{worth_of, handed, names_handed_on}
use Rattle.example_proofs.proofs.HandedFacts.{all_changed}
use Rattle.example_proofs.proofs.hands_on_names.hand_on_all.Goals as goal

pub returns : goal.returns
returns c =
    let old = c.args.list.now in
    let new = c.loop-found.found-items in
    let long : length new ≡ length old.items = c.loop-found.auto.found-items ∙ c.deref_mut-found-items.ensures.len ∙ old.ok.0 in
    let all : take old.len (new ++ drop (length new) old.items) ≡ new = rw (old.ok.0, sym long) (take-append_seam new (drop (length new) old.items)) in
    ap (counted_list names_handed_on) all
    ∙ all_changed item (counted_item names_handed_on) (handed (worth_of c.args.state.now)) old.items new long
    (λ k d within. c.loop-found.invariant.done k d (omega (arith, within, c.loop-found.auto.found-items, c.loop-found-test.false)))
