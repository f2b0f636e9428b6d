-- Which item is due in a strict queue: the one at the top of the heap, or none.
use Rattle.std.proofs.Common.{◌≡◌, ◌≢◌, ℕ, ◌<◌, ◌≤◌, false, List, [], ◌∷◌, get_or, length, Contains, refl, sym, ap, ◌∙◌, subst, arith}
use Rattle.std.proofs.lemmas.List.Elements.{All-from_recursion, All-contains}
use Rattle.std.proofs.lemmas.List.{get_or_default}
use Rattle.std.specs.List.Sorted.{IsPermutation}
use Rattle.std.specs.BinaryHeap.{IsUpperBound}
use Rattle.jwalk_order.specs.Frontier.{next_address, passed}
use Rattle.jwalk_order.specs.IndexPath.{is_before}
use Rattle.jwalk_order.specs.Ordered.{address_of, child_count_of, ordered_cmp, IsLeast}
use Rattle.jwalk_order.specs.OrderedQueue.{Queue, IsUnchanged, Removes}
use Rattle.jwalk_order.specs.Step.{IsDue, IsInTurn, IsWaiting, IsOutstanding, frontier_behind}
use Rattle.jwalk_order.specs.declared.ordered.Ordered.{Ordered}
use Rattle.jwalk_order.specs.declared.ordered_queue.Ordering.{Ordering}
use Rattle.jwalk_order.specs.declared.ordered_queue.Ordering.TheVariants.{Strict}
use Rattle.jwalk_order.proofs.AddressOrder.{same_address}

module _ {T A : Type 0} where
  -- Two least items have one address.
  least_addresses : (x y : Ordered T A) (items : List (Ordered T A)) → Contains items x → IsLeast x items → Contains items y → IsLeast y items → address_of x ≡ address_of y
  least_addresses x y items x-in x-least y-in y-least =
      same_address (address_of x) (address_of y)
      (All-contains (λ z. is_before (address_of z) (address_of y) ≡ false) items x y-least x-in)
      (All-contains (λ z. is_before (address_of z) (address_of x) ≡ false) items y x-least y-in)

  -- what a heap says of its top
  pub record IsTop (top : Ordered T A) (items : List (Ordered T A)) : Type 0 where
    pub some : 0 < length items
    pub first : top ≡ get_or items 0 top
    pub greatest : IsUpperBound ordered_cmp top items

  pub top-contains : (top : Ordered T A) (items : List (Ordered T A)) → IsTop top items → Contains items top
  top-contains top items is = (0, is.some, sym is.first)

  pub top-least : (top : Ordered T A) (items : List (Ordered T A)) → IsTop top items → IsLeast top items
  top-least top items is = All-from_recursion (λ y. is_before (address_of y) (address_of top) ≡ false) items is.greatest

  pub none_due : (q : Queue T A) (top : Ordered T A) → q.ordering ≡ Strict → IsTop top q.items → address_of top ≢ next_address q.frontier → (x : Ordered T A) → ¬ IsDue q x
  none_due q top strict is other x due =
      let turn = subst (λ o. IsInTurn o q.frontier (address_of x)) strict due.in_turn in
      other (least_addresses top x q.items (top-contains top q.items is) (top-least top q.items is) due.member due.least ∙ turn.1)

  pub top_due : (q : Queue T A) (top : Ordered T A) → q.stopped ≡ false → q.ordering ≡ Strict → IsTop top q.items → q.frontier ≢ [] → address_of top ≡ next_address q.frontier → IsDue q top
  top_due q top running strict is some next = record {
    running = running;
    member = top-contains top q.items is;
    least = top-least top q.items is;
    in_turn = rw strict (some, next);
  }

  -- Nothing is due where the top of a strict queue is not in turn.
  pub waits : (q : Queue T A) (top : Ordered T A) → q.stopped ≡ false → q.ordering ≡ Strict → q.frontier ≢ [] → IsTop top q.items → address_of top ≢ next_address q.frontier
      → IsWaiting q × IsUnchanged q q
  waits q top running strict some is other =
      let P = λ (o : Ordering). IsOutstanding o q in
      ((running, subst P (sym strict) (some, none_due q top strict is other)), record { same = refl; room = omega arith })

  same_top : (x y : Ordered T A) (items : List (Ordered T A)) → IsTop x items → IsTop y items → x ≡ y
  same_top x y items x-is y-is = x-is.first ∙ get_or_default items 0 x y x-is.some ∙ sym y-is.first

  -- The matcher has passed the top, and the heap has given an item.
  pub removes : (q : Queue T A) (top item : Ordered T A) (rest : List (Ordered T A)) (f : List (List ℕ)) (room : ℕ)
      → q.stopped ≡ false → q.ordering ≡ Strict → q.frontier ≢ [] → IsTop top q.items → address_of top ≡ next_address q.frontier
      → IsTop item q.items → IsPermutation q.items (item ∷ rest) → f ≡ passed q.frontier (child_count_of top) → q.room ≤ room
      → IsDue q item × Removes item (frontier_behind q.ordering q.frontier (child_count_of item)) q (record q { items = rest; frontier = f; room = room })
  removes q top item rest f room running strict some is next item-is permutation f-is more =
      let same : top ≡ item = same_top top item q.items is item-is in
      let f-is' : f ≡ frontier_behind q.ordering q.frontier (child_count_of item) =
      f-is ∙ ap (λ x. passed q.frontier (child_count_of x)) same ∙ ap (λ o. frontier_behind o q.frontier (child_count_of item)) (sym strict) in (
        top_due q item running strict item-is some (ap address_of (sym same) ∙ next),
        record {
          items = permutation;
          others = ap (λ z. record q { items = rest; frontier = z; room = room }) f-is';
          room = more;
        },
      )
