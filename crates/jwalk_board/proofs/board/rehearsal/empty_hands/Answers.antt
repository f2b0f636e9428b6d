use Rattle.std.proofs.Common.{◌≡◌, ◌+◌, ◌∷◌, ◌++◌, [], replicate, None, ap, ◌∙◌, arith}
use Rattle.std.proofs.lemmas.Result.{IfOk-from_err}
use Rattle.std.proofs.lemmas.List.{replicate_more}
use Rattle.jwalk_board.proofs.board.rehearsal.empty_hands.Goals as goal

pub returns-in_err-hands : goal.returns-in_err-hands
returns-in_err-hands g c = IfOk-from_err c.from_residual.result _ c.from_residual.ensures.0

pub loop-worker-init : goal.loop-worker-init
loop-worker-init g c = record { items = c.in_ok-hands.ensures.items; len = c.in_ok-hands.ensures.len; room = c.in_ok-hands.ensures.capacity }

pub push_reserved-requires : goal.push_reserved-requires
push_reserved-requires g c = omega arith

pub loop-worker-preserved : goal.loop-worker-preserved
loop-worker-preserved g c =
    let old = c.loop-worker.invariant in
    record {
      items = c.push_reserved.ensures.items ∙ ap (λ l. l ++ None ∷ []) old.items ∙ replicate_more c.loop-worker._worker None;
      len = c.push_reserved.ensures.len ∙ ap (λ n. n + 1) old.len;
      room = rw c.push_reserved.ensures.capacity old.room;
    }

pub returns : goal.returns
returns g c =
    let all : c.loop-worker._worker ≡ c.args.workers = omega arith in
    c.loop-worker.invariant.items ∙ ap (λ n. replicate n None) all
