use Rattle.std.proofs.Common.{◌≡◌, ◌≤◌, ◌+◌, [], false, length, map}
use Rattle.std.specs.Prelude.{All}
use Rattle.jwalk_order.specs.Addressed.{addressed}
use Rattle.jwalk_order.specs.Ordered.{child_count_of}
use Rattle.tree_walk.specs.ToGive.{IsHeld}
use Rattle.tree_walk.specs.Reads.{to_give}
use Rattle.tree_walk.specs.ReadAhead.{ahead_on, LeastLeave}
use Rattle.tree_walk.specs.Batch.{hand_of}
use Rattle.tree_walk.proofs.batch.take_batch.Given as goal

abbrev pub invariant-loop : goal.invariant-loop
invariant-loop g l = record {
  number : length l.taken.items ≡ l.counter;
  room : l.count ≤ l.taken.cap;
  queued : length l.board.queued + l.counter ≡ length l.fn.board.queued;
  fewer : l.count ≤ length l.fn.board.queued;
  held : IsHeld l.board (hand_of l.taken.items);
  unread : All (λ item. child_count_of item ≡ 0) l.taken.items;
  same : to_give l.board (hand_of l.taken.items) ≡ to_give l.fn.board [];
  least : LeastLeave (map addressed l.taken.items) (ahead_on l.fn.board) (ahead_on l.board);
  frontier : l.board.frontier ≡ l.fn.board.frontier;
  running : l.board.stopped ≡ false;
}
