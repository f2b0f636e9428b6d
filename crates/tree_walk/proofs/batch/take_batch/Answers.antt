use Rattle.std.proofs.Common.{◌≡◌, false, true, ◌∷◌, [], length, map, ap, sym, ◌∙◌, arith, subst, refl}
use Rattle.std.specs.Prelude.{All}
use Rattle.std.proofs.lemmas.List.Elements.{All-nil, All-cons, All-append}
use Rattle.std.proofs.lemmas.Result.{IfOk-from_err}
use Rattle.jwalk_order.specs.Addressed.{addressed}
use Rattle.jwalk_order.specs.Ordered.{child_count_of}
use Rattle.jwalk_order.specs.Addresses.{times}
use Rattle.jwalk_board.specs.Refusal.{RefusesTake}
use Rattle.tree_walk.specs.ToGive.{IsHeld}
use Rattle.tree_walk.specs.Reads.{to_give}
use Rattle.tree_walk.specs.ReadAhead.{ahead_on, LeastLeave}
use Rattle.tree_walk.specs.Batch.{hand_of}
use Rattle.tree_walk.proofs.BatchFacts.{held_more, same_more, fewer_queued}
use Rattle.tree_walk.proofs.AheadFacts.{one_leaves, none_leave}
use Rattle.tree_walk.proofs.batch.take_batch.Goals as goal

pub loop-preserved : goal.loop-preserved
loop-preserved g c =
    let old = c.loop.invariant in
    let b = c.loop.board in
    let now = c.take.new.self in
    let t = c.in-Ok.ensures.taken in
    let whole = c.pending-pending.ensures.whole in
    let items = c.push_reserved.ensures.items in
    let less = fewer_queued b now c.loop.taken.items c.in-Ok.item whole t in
    record {
      number = omega (arith, c.push_reserved.ensures.len, old.number);
      room = omega (arith, c.push_reserved.ensures.capacity, old.room);
      queued = omega (arith, old.queued, less);
      fewer = old.fewer;
      held = subst (λ l. IsHeld now (hand_of l)) (sym items) (held_more b now c.loop.taken.items c.in-Ok.item whole t old.held);
      unread = subst (All (λ item. child_count_of item ≡ 0)) (sym items) (All-append (λ item. child_count_of item ≡ 0) c.loop.taken.items (c.in-Ok.item ∷ []) old.unread (All-cons (λ item. child_count_of item ≡ 0) c.in-Ok.item [] t.unread (All-nil _)));
      same = subst (λ l. to_give now (hand_of l) ≡ to_give c.args.board.now []) (sym items) (same_more b now c.loop.taken.items c.in-Ok.item whole t ∙ old.same);
      least = subst (λ l. LeastLeave (map addressed l) (ahead_on c.args.board.now) (ahead_on now)) (sym items) (one_leaves (ahead_on c.args.board.now) b now c.loop.taken.items c.in-Ok.item whole t old.least);
      frontier = ap (λ z. z.frontier) t.others ∙ old.frontier;
      running = ap (λ z. z.stopped) t.others ∙ t.running;
    }

pub returns-in_err-taken-clause-number : goal.returns-in_err-taken-clause-number
returns-in_err-taken-clause-number g c = IfOk-from_err c.from_residual.result _ c.from_residual.ensures.0

pub returns-in_err-taken-clause-held : goal.returns-in_err-taken-clause-held
returns-in_err-taken-clause-held g c = IfOk-from_err c.from_residual.result _ c.from_residual.ensures.0

pub returns-in_err-taken-clause-unread : goal.returns-in_err-taken-clause-unread
returns-in_err-taken-clause-unread g c = IfOk-from_err c.from_residual.result _ c.from_residual.ensures.0

pub returns-in_err-taken-clause-same : goal.returns-in_err-taken-clause-same
returns-in_err-taken-clause-same g c = IfOk-from_err c.from_residual.result _ c.from_residual.ensures.0

pub returns-in_err-taken-clause-least : goal.returns-in_err-taken-clause-least
returns-in_err-taken-clause-least g c = IfOk-from_err c.from_residual.result _ c.from_residual.ensures.0

pub returns-in_err-taken-clause-frontier : goal.returns-in_err-taken-clause-frontier
returns-in_err-taken-clause-frontier g c = IfOk-from_err c.from_residual.result _ c.from_residual.ensures.0

pub returns-in_err-taken-clause-running : goal.returns-in_err-taken-clause-running
returns-in_err-taken-clause-running g c = IfOk-from_err c.from_residual.result _ c.from_residual.ensures.0

pub loop-init : goal.loop-init
loop-init g c =
    rw c.in_ok-taken.ensures.items (record {
      number = refl;
      room = c.in_ok-taken.ensures.capacity;
      queued = omega arith;
      fewer = omega (arith, c.min-count.ensures, c.queued.ensures);
      held = λ a. ap (times a) c.requires.none_in_hand;
      unread = All-nil _;
      same = refl;
      least = none_leave c.args.board.now;
      frontier = refl;
      running = c.requires.running;
    })

pub push_reserved-requires : goal.push_reserved-requires
push_reserved-requires g c = omega (arith, c.loop.taken.ok.0, c.loop.invariant.number, c.loop.invariant.room)

pub returns-clause-number : goal.returns-clause-number
returns-clause-number g c = omega (arith, c.loop.invariant.number, c.min-count.ensures, c.queued.ensures)

pub returns-clause-held : goal.returns-clause-held
returns-clause-held g c = c.loop.invariant.held

pub returns-clause-unread : goal.returns-clause-unread
returns-clause-unread g c = c.loop.invariant.unread

pub returns-clause-same : goal.returns-clause-same
returns-clause-same g c = c.loop.invariant.same

pub returns-clause-least : goal.returns-clause-least
returns-clause-least g c = c.loop.invariant.least

pub returns-clause-frontier : goal.returns-clause-frontier
returns-clause-frontier g c = c.loop.invariant.frontier

pub returns-clause-running : goal.returns-clause-running
returns-clause-running g c = c.loop.invariant.running

pub unreachable-requires : goal.unreachable-requires
unreachable-requires g c =
    let refused = subst (RefusesTake c.loop.board) c.in-Err-Empty.field-0-is c.in-Err-Empty.ensures.refused in
    omega (arith, ap length refused.1, c.loop.invariant.queued, c.loop.invariant.fewer)

pub unreachable-requires-in-Err-Done : goal.unreachable-requires-in-Err-Done
unreachable-requires-in-Err-Done g c =
    let refused = subst (RefusesTake c.loop.board) c.in-Err-Done.field-0-is c.in-Err-Done.ensures.refused in
    omega (arith, ap length refused.1, c.loop.invariant.queued, c.loop.invariant.fewer)

pub unreachable-requires-in-Err-Stopped : goal.unreachable-requires-in-Err-Stopped
unreachable-requires-in-Err-Stopped g c =
    let refused = subst (RefusesTake c.loop.board) c.in-Err-Stopped.field-0-is c.in-Err-Stopped.ensures.refused in
    let both : false ≡ true = sym c.loop.invariant.running ∙ refused in
    cc
