use Rattle.std.proofs.Common.{◌≡◌, false, true, refl, inl, inr, ◌∙◌}
use Rattle.tree_walk.proofs.NextFacts.{left_first}
use Rattle.tree_walk.proofs.PrepareFacts.{frontier_some, reads_for_next}
use Rattle.tree_walk.proofs.board_walk.BoardWalk.prepare_on.Goals as goal

pub returns-in-Err-clause-prepares : goal.returns-in-Err-clause-prepares
returns-in-Err-clause-prepares g c =
    let keeps = rw c.in-Some.is at c.self.invariant.1 in
    let some = frontier_some c.in-Some.board c.pending.ensures.holds_open keeps.none_in_hand (λ z. c.if-pending-eq0.false (c.pending.ensures.sum ∙ z)) in
    rw (← c.self.view_is, c.in-Some.is) (record { stopped = refl; some = left_first c.in-Some.board keeps c.pending.ensures.whole some; reads = tt; ready = tt })

pub returns-in-Ok-clause-prepares : goal.returns-in-Ok-clause-prepares
returns-in-Ok-clause-prepares g c =
    let keeps = rw c.in-Some.is at c.self.invariant.1 in
    let some = frontier_some c.in-Some.board c.pending.ensures.holds_open keeps.none_in_hand (λ z. c.if-pending-eq0.false (c.pending.ensures.sum ∙ z)) in
    let reads = reads_for_next (g.J.Plan.IsReading c.self.inside.plan) c.self.inside.width c.in-Some.board c.read_batch_on.new.board c.self.invariant.0 keeps c.pending.ensures.whole some (λ there. (let no : false ≡ true = c.if-is_next_ready.ensures.1 (some, there) in cc)) c.in-Ok.ensures in
    rw (← c.self.view_is, c.in-Some.is) (record { stopped = tt; some = tt; reads = inr reads; ready = inr reads.read })

pub returns-in_default-clause-prepares : goal.returns-in_default-clause-prepares
returns-in_default-clause-prepares g c =
    rw (← c.self.view_is, c.in_default.is) (record { stopped = tt; some = tt; reads = inl refl; ready = inl refl })
