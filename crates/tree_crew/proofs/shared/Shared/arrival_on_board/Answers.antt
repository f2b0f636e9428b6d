use Rattle.std.proofs.Common.{◌∙◌, sym, ap, subst, box_value}
use Rattle.keyed_slot.specs.Keyed.{key_mark}
use Rattle.tree_crew.specs.Crew.{limit_of}
use Rattle.tree_crew.specs.BoardTag.{limit_at, origin_at}
use Rattle.tree_crew.specs.Shared.{IsArrivalOf}
use Rattle.tree_crew.proofs.HandledFacts.{arrives_on, calls_entered, calls_nobody, calls_on, not_overslept}
use Rattle.tree_crew.proofs.ReadAheadFacts.{same_within}
use Rattle.tree_crew.proofs.SharedFacts.{same_of, arrived_board, arrived_of, arrived_within}
use Rattle.tree_crew.proofs.shared.Shared.arrival_on_board.Goals as goal
use Rattle.tree_crew.proofs.shared.Shared.arrival_on_board.Goals.{in-Entered, in_default-matches}

pub put_back_with-requires-clause-fits : goal.put_back_with-requires-clause-fits
put_back_with-requires-clause-fits g c =
    let is = c.deref_mut.ensures.value ∙ ap box_value c.into_board-board.ensures in
    let own = same_of _ _ _ _ c.in-Some.ensures.fits.0 is in
    let within = same_within _ _ _ is c.in-Some.ensures.fits.1 in (
      same_of _ _ _ _ (arrived_board _ _ _ _ own _ c.arrive-arrival.ensures) (ap box_value c.new.ensures),
      same_within _ _ _ (ap box_value c.new.ensures) (arrived_within _ _ _ _ own _ _ c.arrive-arrival.ensures within),
    )

pub returns-clause-arrival : goal.returns-clause-arrival
returns-clause-arrival g c =
    let is = c.deref_mut.ensures.value ∙ ap box_value c.into_board-board.ensures in
    let before = ap (λ b. b.frontier) is ∙ c.in-Some.ensures.mark in
    let back = ap box_value c.new.ensures in
    let after = sym (c.put_back_with.ensures.mark ∙ ap (λ b. b.frontier) back) in
    let Arrived = IsArrivalOf g.J.Plan (origin_at c.args.self.now.work) in
    let own = same_of _ _ _ _ c.in-Some.ensures.fits.0 is in
    subst (λ m. Arrived m c.arrive-arrival.result (key_mark c.put_back_with.new.key)) before
    (subst (λ m. Arrived c.deref_mut.result.now.frontier c.arrive-arrival.result m) after
    (arrived_of _ _ _ _ own _ c.arrive-arrival.ensures))

pub returns-clause-handled : goal.returns-clause-handled
returns-clause-handled g c =
    arrives_on c.arrive-arrival.result _ _ _ _ _ _ c.in-Some.ensures.taken c.put_back_with.ensures.put
    (c.deref_mut.ensures.value ∙ ap box_value c.into_board-board.ensures) (ap box_value c.new.ensures) c.arrive-arrival.ensures

pub returns-clause-calls : goal.returns-clause-calls
returns-clause-calls g c =
    let limit = c.read_ahead.ensures ∙ (ap limit_of c.deref-3.ensures ∙ c.args.self.now.own.1) in
    let noted = c.deref_mut-3.ensures.value ∙ (c.take_overslept.ensures ∙ ap not_overslept c.deref_mut-2.ensures.value) in
    let calls = c.after_arrival-calls in
    calls_on (limit_at c.args.self.now.work) _ _ _ _ _ _ _ _ _ _ c.in-Some.ensures.taken c.put_back_with.ensures.put
    (c.deref_mut.ensures.value ∙ ap box_value c.into_board-board.ensures) (ap box_value c.new.ensures)
    (elim c.match-matches.branch [
      | in-Entered w ↦ calls_entered _ _ _ _ _ _ _ _ _ _ w.in-Entered.is limit c.deref-2.ensures noted (calls.ensures.calls w.matches-is)
      | in_default-matches w ↦ calls_nobody _ _ w.in_default-matches.not-Entered _ _ _ _ (calls.ensures.nobody w.matches-is)
    ])
