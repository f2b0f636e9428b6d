use Rattle.std.proofs.Common.{sym, subst}
use Rattle.tree_walk.specs.ToGive.{IsHeld}
use Rattle.tree_walk.proofs.BatchFacts.{same_hand}
use Rattle.tree_walk.proofs.AheadFacts.{batch_read}
use Rattle.tree_walk.proofs.batch.read_batch_on.Goals as goal

pub finish_batch-requires-clause-held : goal.finish_batch-requires-clause-held
finish_batch-requires-clause-held g c =
    subst (IsHeld c.take_batch.new.board)
    (sym (same_hand (g.J.Plan.IsReading c.args.plan.now) c.in_ok-taken.taken.items c.in_ok-made.made.items c.in_ok-made.ensures c.in_ok-taken.ensures.unread))
    c.in_ok-taken.ensures.held

pub returns : goal.returns
returns g c =
    let taken = c.in_ok-taken.ensures in
    let made = c.finish_batch.ensures in
    batch_read (g.J.Plan.IsReading c.args.plan.now) c.finish_batch.result c.args.width c.args.board.now c.take_batch.new.board c.finish_batch.new.board c.in_ok-taken.taken.items c.in_ok-made.made.items
    taken.number taken.unread taken.same taken.least taken.frontier c.in_ok-made.ensures made.made made.join made.frontier made.held made.running
