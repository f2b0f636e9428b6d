use Rattle.std.proofs.Common.{◌≤◌, subst}
use Rattle.tree_walk.specs.BoardWalk.{Answers}
use Rattle.tree_walk.proofs.PrepareFacts.{prepared, not_prepared}
use Rattle.tree_walk.proofs.board_walk.BoardWalk.read_next_on.Goals as goal

pub returns-clause-answers : goal.returns-clause-answers
returns-clause-answers g c =
    let p = c.in_ok-prepare_on.ensures in
    let old = c.args.self.now in
    let mid = c.prepare_on.new.self in
    let last = c.read_next.new.self.board in
    prepared (g.J.Plan.IsReading old.plan) old.width old.board mid.board last c.read_next.result (subst (λ w. 1 ≤ w) p.width p.wide) p.prepares.reads
    (subst (λ q. Answers (g.J.Plan.IsReading q) old.width mid.board c.read_next.result last) p.plan
    (subst (λ w. Answers (g.J.Plan.IsReading mid.plan) w mid.board c.read_next.result last) p.width c.read_next.ensures.answers))

pub returns-in_err-prepare_on-clause-answers : goal.returns-in_err-prepare_on-clause-answers
returns-in_err-prepare_on-clause-answers g c =
    let p = c.in_err-prepare_on.ensures in
    let old = c.args.self.now in
    not_prepared (g.J.Plan.IsReading old.plan) old.width old.board c.prepare_on.new.self.board _ c.from_residual.result (subst (λ w. 1 ≤ w) p.width p.wide) c.from_residual.ensures.0 p.prepares
