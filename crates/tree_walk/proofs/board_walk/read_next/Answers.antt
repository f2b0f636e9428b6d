use Rattle.std.proofs.Common.{◌≡◌, ◌≢◌, [], false, true, refl, sym, subst, ◌∙◌}
use Rattle.tree_walk.specs.BoardWalk.{HandsOnNext}
use Rattle.tree_walk.proofs.ReadFacts.{on_err_always}
use Rattle.tree_walk.proofs.NextFacts.{left_first, ready_goes_on, made_goes_on}
use Rattle.tree_walk.proofs.PrepareFacts.{frontier_some, reads_for_next}
use Rattle.tree_walk.proofs.board_walk.read_next.Goals as goal
use Rattle.tree_walk.proofs.board_walk.read_next.Goals.{then-not-is_next_ready+else-pending-eq0+in_ok-read_batch, else-not-is_next_ready}

pub returns-in_err-read_batch-clause-some : goal.returns-in_err-read_batch-clause-some
returns-in_err-read_batch-clause-some g c =
    let some = frontier_some c.args.board.now c.pending-pending.ensures.holds_open c.requires.keeps.none_in_hand (λ z. c.if-pending-eq0.false (c.pending-pending.ensures.sum ∙ z)) in
    on_err_always c.from_residual.result (left_first c.args.board.now c.requires.keeps c.pending-pending.ensures.whole some)

pub hand_on-requires-clause-ready : goal.hand_on-requires-clause-ready
hand_on-requires-clause-ready g c =
    elim c.if-not-is_next_ready.branch [
      | then-not-is_next_ready+else-pending-eq0+in_ok-read_batch w ↦
          let some = frontier_some c.args.board.now c.pending-pending.ensures.holds_open c.requires.keeps.none_in_hand (λ z. w.if-pending-eq0.false (c.pending-pending.ensures.sum ∙ z)) in
          let reads = reads_for_next (g.J.Plan.IsReading c.args.plan.now) c.args.width c.args.board.now w.read_batch.new.board c.requires.width c.requires.keeps c.pending-pending.ensures.whole some (λ there. (let no : false ≡ true = w.if-not-is_next_ready.ensures.1 (some, there) in cc)) w.in_ok-read_batch.ensures in
          rw w.board-is (λ empty. some (sym reads.frontier ∙ empty), reads.read)
      | else-not-is_next_ready w ↦ rw w.board-is (w.if-not-is_next_ready.ensures.0 refl)
    ]

pub returns-in_err-hand_on-clause-some : goal.returns-in_err-hand_on-clause-some
returns-in_err-hand_on-clause-some g c =
    let some : c.args.board.now.frontier ≢ [] = elim c.if-not-is_next_ready.branch [
      | then-not-is_next_ready+else-pending-eq0+in_ok-read_batch w ↦ frontier_some c.args.board.now c.pending-pending.ensures.holds_open c.requires.keeps.none_in_hand (λ z. w.if-pending-eq0.false (c.pending-pending.ensures.sum ∙ z))
      | else-not-is_next_ready w ↦ (w.if-not-is_next_ready.ensures.0 refl).0
    ] in
    on_err_always c.from_residual-in_err-hand_on.result (left_first c.args.board.now c.requires.keeps c.pending-pending.ensures.whole some)

pub returns-clause-goes_on : goal.returns-clause-goes_on
returns-clause-goes_on g c =
    elim c.if-not-is_next_ready.branch [
      | then-not-is_next_ready+else-pending-eq0+in_ok-read_batch w ↦
          let some = frontier_some c.args.board.now c.pending-pending.ensures.holds_open c.requires.keeps.none_in_hand (λ z. w.if-pending-eq0.false (c.pending-pending.ensures.sum ∙ z)) in
          made_goes_on (g.J.Plan.IsReading c.args.plan.now) c.args.width c.args.board.now c.requires.keeps (λ there. (let no : false ≡ true = w.if-not-is_next_ready.ensures.1 (some, there) in cc)) w.read_batch.new.board c.hand_on.new.board c.in_ok-hand_on.field-0 w.in_ok-read_batch.ensures
          (subst (λ b. HandsOnNext b c.in_ok-hand_on.field-0 c.hand_on.new.board) w.board-is c.in_ok-hand_on.ensures)
      | else-not-is_next_ready w ↦
          ready_goes_on (g.J.Plan.IsReading c.args.plan.now) c.args.width c.args.board.now c.requires.keeps c.hand_on.new.board c.in_ok-hand_on.field-0
          (subst (λ b. HandsOnNext b c.in_ok-hand_on.field-0 c.hand_on.new.board) w.board-is c.in_ok-hand_on.ensures)
    ]
