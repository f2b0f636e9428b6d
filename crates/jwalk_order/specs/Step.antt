-- What a step returns.
use Rattle.std.specs.Prelude.{◌≡◌, ◌≢◌, ℕ, ◌<◌, ◌⊎◌, false, true, List, [], Option, Some, None, Contains}
use Rattle.jwalk_order.specs.Frontier.{next_address, passed}
use Rattle.jwalk_order.specs.Ordered.{address_of, child_count_of, IsLeast}
use Rattle.jwalk_order.specs.OrderedQueue.{Queue, IsUnchanged, Removes}
use Rattle.jwalk_order.specs.declared.ordered.Ordered.{Ordered}
use Rattle.jwalk_order.specs.declared.ordered_queue.Ordering.{Ordering}
use Rattle.jwalk_order.specs.declared.ordered_queue.Ordering.TheVariants.{Relaxed, Strict}
use Rattle.jwalk_order.specs.declared.ordered_queue.ordered_queue_iter.Step.{Step}
use Rattle.jwalk_order.specs.declared.ordered_queue.ordered_queue_iter.Step.TheVariants.{Item, Empty, Done}

-- The address may come now: in any order, or as the next one of the frontier.
abbrev pub IsInTurn : Ordering → List (List ℕ) → List ℕ → Type 0
IsInTurn Relaxed frontier a = Unit {0}
IsInTurn Strict frontier a = (frontier ≢ []) × (a ≡ next_address frontier)

-- the frontier when an item with n children has come
abbrev pub frontier_behind : Ordering → List (List ℕ) → ℕ → List (List ℕ)
frontier_behind Relaxed frontier count = frontier
frontier_behind Strict frontier count = passed frontier count

module _ {T A : Type 0} where
  -- It is one of the least items, and may come now.
  pub record IsDue (q : Queue T A) (x : Ordered T A) : Type 0 where
    pub running : q.stopped ≡ false
    pub member : Contains q.items x
    pub least : IsLeast x q.items
    pub in_turn : IsInTurn q.ordering q.frontier (address_of x)

  -- Nothing is left to come: nothing is pending, or everything is passed.
  abbrev pub IsExhausted : Ordering → Queue T A → Type 0
  IsExhausted Relaxed q = (q.items ≡ []) × (q.pending ≡ 0)
  IsExhausted Strict q = q.frontier ≡ []

  abbrev pub IsDone : Queue T A → Type 0
  IsDone q = (q.stopped ≡ true) ⊎ IsExhausted q.ordering q

  -- Something is left to come, and no item is due.
  abbrev pub IsOutstanding : Ordering → Queue T A → Type 0
  IsOutstanding Relaxed q = (q.items ≡ []) × (0 < q.pending)
  IsOutstanding Strict q = (q.frontier ≢ []) × ((x : Ordered T A) → ¬ IsDue q x)

  abbrev pub IsWaiting : Queue T A → Type 0
  IsWaiting q = (q.stopped ≡ false) × IsOutstanding q.ordering q

  -- what a step returns, and what it leaves
  abbrev pub StepGives : Queue T A → Step T A → Queue T A → Type 0
  StepGives old (Item x) new = IsDue old x × Removes x (frontier_behind old.ordering old.frontier (child_count_of x)) old new
  StepGives old Empty new = IsWaiting old × IsUnchanged old new
  StepGives old Done new = IsDone old × IsUnchanged old new

  -- The item that is due has children to be looked for, which takes memory.
  abbrev pub MayRefuse : Queue T A → Type 0
  MayRefuse q = (q.ordering ≡ Strict) × ((x : Ordered T A) × IsDue q x × (0 < child_count_of x))

  -- What `next` returns: the item of a step, or `None` where there is none or memory runs out.
  abbrev pub NextGives : Queue T A → Option (Ordered T A) → Queue T A → Type 0
  NextGives old (Some x) new = StepGives old (Item x) new
  NextGives old None new = (IsWaiting old ⊎ (IsDone old ⊎ MayRefuse old)) × IsUnchanged old new
