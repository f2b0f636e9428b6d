-- An ordered queue as a value.
use Rattle.std.specs.Prelude.{◌≡◌, ℕ, ◌+◌, ◌≤◌, Bool, false, List, [], ◌∷◌}
use Rattle.std.specs.List.Sorted.{IsPermutation}
use Rattle.jwalk_order.specs.Frontier.{roots}
use Rattle.jwalk_order.specs.declared.ordered.Ordered.{Ordered}
use Rattle.jwalk_order.specs.declared.ordered_queue.Ordering.{Ordering}

pub record Queue (T A : Type 0) : Type 0 where
  -- what was pushed and has not come, in no particular order
  pub items : List (Ordered T A)
  -- how many were pushed and are not completed
  pub pending : ℕ
  pub stopped : Bool
  pub ordering : Ordering
  -- the addresses still to be passed
  pub frontier : List (List ℕ)
  -- how many pushes are sure to succeed, since they need no memory
  pub room : ℕ

module _ {T A : Type 0} where
  -- Nothing has happened to it yet.
  pub record IsNew (ordering : Ordering) (root_count : ℕ) (q : Queue T A) : Type 0 where
    pub empty : q.items ≡ []
    pub nothing_pending : q.pending ≡ 0
    pub running : q.stopped ≡ false
    pub ordering_is : q.ordering ≡ ordering
    pub frontier_is : q.frontier ≡ roots root_count

  -- All is the same, and there is no less room.
  pub record IsUnchanged (old new : Queue T A) : Type 0 where
    pub same : new ≡ record old { room = new.room }
    pub room : old.room ≤ new.room

  -- The item has joined the others and is pending, and nothing else has changed.
  pub record Adds (item : Ordered T A) (old new : Queue T A) : Type 0 where
    pub items : IsPermutation (item ∷ old.items) new.items
    pub others : new ≡ record old { items = new.items; pending = old.pending + 1; room = new.room }
    pub room : old.room ≤ new.room + 1

  -- The item has left, the frontier is this one, and nothing else has changed.
  pub record Removes (item : Ordered T A) (frontier : List (List ℕ)) (old new : Queue T A) : Type 0 where
    pub items : IsPermutation old.items (item ∷ new.items)
    pub others : new ≡ record old { items = new.items; frontier = frontier; room = new.room }
    pub room : old.room ≤ new.room
