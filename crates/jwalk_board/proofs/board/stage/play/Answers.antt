use Rattle.std.proofs.Common.{sym, subst}
use Rattle.std.specs.Result.{OnOk}
use Rattle.jwalk_order.specs.Addressed.{addresses_of}
use Rattle.jwalk_board.specs.Plan.{specs_in_preorder}
use Rattle.jwalk_board.specs.Rehearsal.{Follows}
use Rattle.jwalk_board.specs.Run.{move}
use Rattle.jwalk_board.specs.Stage.{stage_of}
use Rattle.jwalk_board.proofs.board.stage.play.Goals as goal

pub returns-in-Take-clause-follows : goal.returns-in-Take-clause-follows
returns-in-Take-clause-follows g c = λ given fixed roots r f.
    let t = g.P.Plan.tree c.args.plan.now given in
    subst (λ m. OnOk c.take.result (Follows t roots (move (addresses_of (specs_in_preorder t roots)) r m) (stage_of (g.P.Plan.spec_value given) (g.P.Plan.reading_value given) c.take.new.stage))) (sym c.in-Take.is)
    (c.take.ensures.follows given t roots (g.met.P.Plan.falls c.args.plan.now given fixed) r f)

pub returns-in-Finish-clause-follows : goal.returns-in-Finish-clause-follows
returns-in-Finish-clause-follows g c = λ given fixed roots r f.
    let t = g.P.Plan.tree c.args.plan.now given in
    subst (λ m. OnOk c.finish.result (Follows t roots (move (addresses_of (specs_in_preorder t roots)) r m) (stage_of (g.P.Plan.spec_value given) (g.P.Plan.reading_value given) c.finish.new.stage))) (sym c.in-Finish.is)
    (c.finish.ensures.follows given fixed roots r f)

pub returns-in-HandOut-clause-follows : goal.returns-in-HandOut-clause-follows
returns-in-HandOut-clause-follows g c = λ given fixed roots r f.
    let t = g.P.Plan.tree c.args.plan.now given in
    subst (λ m. OnOk c.hand_out.result (Follows t roots (move (addresses_of (specs_in_preorder t roots)) r m) (stage_of (g.P.Plan.spec_value given) (g.P.Plan.reading_value given) c.hand_out.new.stage))) (sym c.in-HandOut.is)
    (c.hand_out.ensures.follows given t roots (g.met.P.Plan.falls c.args.plan.now given fixed) r f)
