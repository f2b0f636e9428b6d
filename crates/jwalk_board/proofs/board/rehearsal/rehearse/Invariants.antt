use Rattle.std.proofs.Common.{map, take}
use Rattle.jwalk_order.specs.Addressed.{addresses_of}
use Rattle.jwalk_board.specs.Plan.{specs_in_preorder}
use Rattle.jwalk_board.specs.Rehearsal.{Follows}
use Rattle.jwalk_board.specs.Run.{run_of_moves}
use Rattle.jwalk_board.specs.Stage.{stage_of, IsUnderWay}
use Rattle.jwalk_board.proofs.board.rehearsal.rehearse.Given as goal

abbrev pub invariant-loop-next : goal.invariant-loop-next
invariant-loop-next g l =
    IsUnderWay l.stage.hands.items l.stage.done.board × ((given : g.P.Plan.Given) → g.P.Plan.IsFixed l.plan given →
    let t = g.P.Plan.tree l.plan given in
    let roots = map (g.P.Plan.spec_value given) l.fn.roots.items in
    Follows t roots (run_of_moves (addresses_of (specs_in_preorder t roots)) l.workers (take l.next-index l.moves)) (stage_of (g.P.Plan.spec_value given) (g.P.Plan.reading_value given) l.stage))
