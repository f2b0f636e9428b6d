use Rattle.std.proofs.Common.{◌≡◌, ◌∷◌, length, arith}
use Rattle.std.proofs.lemmas.List.Sorted.{length_permutation}
use Rattle.jwalk_order.specs.OrderedQueueIter.{queue_of}
use Rattle.jwalk_order.proofs.ordered_queue.ordered_queue_iter.OrderedQueueIterIterator.next.Goals as goal

pub returns-in-Ok-Item-clause-goes : goal.returns-in-Ok-Item-clause-goes
returns-in-Ok-Item-clause-goes g c =
    let old = queue_of c.args.self.now in
    let new = queue_of c.step.new.self in
    let answered = rw c.in-Ok-Item.field-0-is at c.in-Ok-Item.ensures.answered in
    let fewer : length (c.in-Ok-Item.item ∷ new.items) ≡ length old.items = length_permutation old.items (c.in-Ok-Item.item ∷ new.items) answered.1.items in
    record {
      on = λ finite. (tt, finite, omega arith);
      keeps = tt;
      rests = λ finite. tt;
    }
