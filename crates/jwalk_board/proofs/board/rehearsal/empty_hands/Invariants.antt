use Rattle.std.proofs.Common.{◌≡◌, ◌≤◌, vec_len, replicate, None}
use Rattle.std.specs.Vec.{vec_capacity}
use Rattle.jwalk_board.proofs.board.rehearsal.empty_hands.Given as goal

abbrev pub invariant-loop-worker : goal.invariant-loop-worker
invariant-loop-worker g l = record {
  items : l.hands.items ≡ replicate l._worker None;
  len : vec_len l.hands ≡ l._worker;
  room : l.workers ≤ vec_capacity l.hands;
}
