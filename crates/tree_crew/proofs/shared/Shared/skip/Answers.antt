use Rattle.std.proofs.Common.{◌∙◌, sym, ap, box_value}
use Rattle.jwalk_order.specs.Frontier.{passed}
use Rattle.jwalk_board.specs.Skip.{SkipsNext}
use Rattle.tree_crew.proofs.HandledFacts.{handled_on}
use Rattle.tree_crew.proofs.ReadAheadFacts.{same_within, skipped_within}
use Rattle.tree_crew.proofs.SharedFacts.{same_of, skipped_frontier, skipped_of}
use Rattle.tree_crew.proofs.shared.Shared.skip.Goals as goal

pub put_back_with-requires-clause-fits : goal.put_back_with-requires-clause-fits
put_back_with-requires-clause-fits g c =
    let is = c.deref_mut.ensures.value ∙ ap box_value c.into_board-board.ensures in
    let own = same_of _ _ _ _ c.in-Some.ensures.fits.0 is in
    let within = same_within _ _ _ is c.in-Some.ensures.fits.1 in (
      same_of _ _ _ _ (skipped_of _ _ _ _ own c.skip_next.ensures) (ap box_value c.new.ensures),
      same_within _ _ _ (ap box_value c.new.ensures) (skipped_within _ _ _ c.skip_next.ensures within),
    )

pub returns-clause-passed : goal.returns-clause-passed
returns-clause-passed g c = λ _.
    let is = c.deref_mut.ensures.value ∙ ap box_value c.into_board-board.ensures in
    let before = ap (λ b. b.frontier) is ∙ c.in-Some.ensures.mark in
    let back = ap box_value c.new.ensures in
    c.put_back_with.ensures.mark ∙ ap (λ b. b.frontier) back ∙ skipped_frontier _ _ c.skip_next.ensures ∙ ap (λ f. passed f 0) before

pub returns-clause-handled : goal.returns-clause-handled
returns-clause-handled g c = λ _.
    handled_on SkipsNext _ _ _ _ _ _ c.in-Some.ensures.taken c.put_back_with.ensures.put
    (c.deref_mut.ensures.value ∙ ap box_value c.into_board-board.ensures) (ap box_value c.new.ensures) c.skip_next.ensures
