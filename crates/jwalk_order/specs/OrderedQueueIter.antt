-- What contracts see of an `OrderedQueueIter`: the queue behind its reference.
use Rattle.std.specs.Prelude.{◌≡◌}
use Rattle.std.specs.Borrow.{MutBor}
use Rattle.jwalk_order.specs.OrderedQueue.{Queue}
use Rattle.jwalk_order.specs.declared.ordered_queue.ordered_queue_iter.OrderedQueueIter.{OrderedQueueIter}

module _ {T A : Type 0} where
  -- the queue as it is now
  abbrev pub queue_of : OrderedQueueIter T A → Queue T A
  queue_of it = it.queue.now

  -- It goes over the queue that was lent.
  abbrev pub IsOver : OrderedQueueIter T A → MutBor (Queue T A) → Type 0
  IsOver it lent = (it.queue.ghost_name ≡ lent.ghost_name) × (it.queue.now ≡ lent.now)

  -- Both go over one queue.
  abbrev pub IsOverTheSame : OrderedQueueIter T A → OrderedQueueIter T A → Type 0
  IsOverTheSame old new = new.queue.ghost_name ≡ old.queue.ghost_name
