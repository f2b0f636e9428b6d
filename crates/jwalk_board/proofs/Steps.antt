-- What each step of a board returns and leaves.
use Rattle.std.proofs.Common.{◌≡◌, ◌≢◌, ℕ, ◌<◌, false, List, [], ◌∷◌, get_or, length, refl, sym, ap, ◌∙◌, arith, subst, ⊎_elim, ◌⊎◌, inl, inr}
use Rattle.std.proofs.Math.Nat.{eq-zero-or-pos}
use Rattle.std.proofs.lemmas.List.Elements.{All-head, All-tail}
use Rattle.std.specs.List.Sorted.{IsPermutation}
use Rattle.jwalk_order.specs.Frontier.{next_address, passed}
use Rattle.jwalk_order.specs.IndexPath.{is_before}
use Rattle.jwalk_order.specs.Ordered.{address_of, child_count_of}
use Rattle.jwalk_order.specs.declared.ordered.Ordered.{Ordered}
use Rattle.jwalk_order.proofs.AddressOrder.{same_address}
use Rattle.jwalk_order.specs.Addresses.{times}
use Rattle.jwalk_board.specs.Board.{Board, on_board, IsWhole, Takes, Finishes, HandsOut}
use Rattle.jwalk_order.specs.Addressed.{Addressed, addressed, addresses_of, IsFirst}
use Rattle.jwalk_board.proofs.Opens.{times-on_board, next_there, next_least, whole_taken, whole_finished, whole_handed_out}
use Rattle.jwalk_order.proofs.Sets.{among_cases}

module _ {V : Type 0} where
  pub first_among : (a c : List ℕ) (items : List (Addressed V)) → IsFirst a items → 0 < times c (addresses_of items) → is_before c a ≡ false
  first_among a c [] h k = absurd (omega arith)
  first_among a c (x ∷ xs) h k =
      ⊎_elim
      (λ (e : x.at ≡ c). ap (λ z. is_before z a) (sym e) ∙ All-head (λ (y : Addressed V). is_before y.at a ≡ false) x xs h)
      (λ (m : 0 < times c (addresses_of xs)). first_among a c xs (All-tail (λ (y : Addressed V). is_before y.at a ≡ false) x xs h) m)
      (among_cases c x.at (addresses_of xs) k)

  same_top : (x y : Addressed V) (a : List ℕ) (items : List (Addressed V)) → 0 < times a (addresses_of items) → x ≡ get_or items 0 x → y ≡ get_or items 0 y → x ≡ y
  same_top x y a [] some x-is y-is = absurd (omega arith)
  same_top x y a (z ∷ zs) some x-is y-is = x-is ∙ sym y-is

module _ {V : Type 0} where
  pub pushed_as : (x y : Addressed V) (old was new : List (Addressed V)) → x ≡ y → was ≡ old → IsPermutation (x ∷ was) new → IsPermutation (y ∷ old) new
  pushed_as x y old was new x-is was-is p = subst (λ z. IsPermutation z new) (ap (λ z. z ∷ was) x-is ∙ ap (λ z. y ∷ z) was-is) p

front : (f : List (List ℕ)) → f ≢ [] → (rest : List (List ℕ)) × (f ≡ next_address f ∷ rest)
front [] h = absurd (h refl)
front (x ∷ xs) h = (xs, refl)

module _ {T R : Type 0} where
  pub not_in_hand : (b : Board T R) → IsWhole b → (a : List ℕ) → 0 < times a (addresses_of b.queued) → times a b.in_hand ≡ 0
  not_in_hand b w a h = omega (arith, w.once a, times-on_board a b)

  pub keeps_finished : (b : Board T R) → IsWhole b → (a : List ℕ) (reading : R) (children : List T) (queued : List (Addressed T)) (in_hand : List (List ℕ)) (ready : List (Addressed R))
      → Finishes a reading children b (record b { queued = queued; in_hand = in_hand; ready = ready }) → IsWhole (record b { queued = queued; in_hand = in_hand; ready = ready })
  keeps_finished b w a reading children queued in_hand ready f =
      whole_finished b (record { at = a; value = reading; child_count = length children }) children queued in_hand ready w refl f.in_hand f.ready f.queued

  module _ {A : Type 0} where
    pub takes : (b : Board T R) → IsWhole b → (item : Ordered T A) (path held : List ℕ) (value : T) (queued : List (Addressed T)) (in_hand : List (List ℕ)) → b.stopped ≡ false
        → path ≡ next_address (addresses_of b.queued) → IsFirst path b.queued → addressed item ≡ record { at = path; value = value; child_count = 0 } → held ≡ path
        → IsPermutation (held ∷ b.in_hand) in_hand → IsPermutation b.queued (record { at = next_address (addresses_of b.queued); value = value; child_count = 0 } ∷ queued)
        → Takes item b (record b { queued = queued; in_hand = in_hand })
    takes b w item path held value queued in_hand running next first item-is held-is h q =
        let at : path ≡ address_of item = ap (λ z. z.at) (sym item-is) in
        let same : record { at = next_address (addresses_of b.queued); value = value; child_count = 0 } ≡ addressed item =
        ap (λ a. record { at = a; value = value; child_count = 0 }) (sym next) ∙ sym item-is in
        record {
          running = running;
          queued = subst (λ z. IsPermutation b.queued (z ∷ queued)) same q;
          least = subst (λ z. IsFirst z b.queued) at first;
          unread = ap (λ z. z.child_count) item-is;
          in_hand = subst (λ z. IsPermutation (z ∷ b.in_hand) in_hand) (held-is ∙ at) h;
          others = refl;
        }

    pub keeps_taken : (b : Board T R) → IsWhole b → (item : Ordered T A) (queued : List (Addressed T)) (in_hand : List (List ℕ))
        → Takes item b (record b { queued = queued; in_hand = in_hand }) → IsWhole (record b { queued = queued; in_hand = in_hand })
    keeps_taken b w item queued in_hand t = whole_taken b (addressed item) queued in_hand w t.queued t.in_hand

    pub hands_out : (b : Board T R) (top item : Ordered R A) (ready : List (Addressed R)) (frontier : List (List ℕ)) → b.stopped ≡ false → b.frontier ≢ []
        → 0 < times (address_of top) (addresses_of b.ready) → addressed top ≡ get_or b.ready 0 (addressed top) → address_of top ≡ next_address b.frontier
        → frontier ≡ passed b.frontier (child_count_of top) → IsPermutation b.ready (addressed item ∷ ready) → addressed item ≡ get_or b.ready 0 (addressed item)
        → HandsOut item b (record b { ready = ready; frontier = frontier })
    hands_out b top item ready frontier running some there top-is next passes r item-is =
        let same : addressed top ≡ addressed item = same_top (addressed top) (addressed item) (address_of top) b.ready there top-is item-is in
        record {
          running = running;
          some = some;
          next = ap (λ z. z.at) (sym same) ∙ next;
          ready = r;
          others = ap (λ f. record b { ready = ready; frontier = f }) (passes ∙ ap (λ z. passed b.frontier z.child_count) same);
        }

    pub keeps_handed_out : (b : Board T R) → IsWhole b → (item : Ordered R A) (ready : List (Addressed R)) (frontier : List (List ℕ))
        → HandsOut item b (record b { ready = ready; frontier = frontier }) → IsWhole (record b { ready = ready; frontier = frontier })
    keeps_handed_out b w item ready frontier h =
        let f = front b.frontier h.some in
        whole_handed_out b (addressed item) ready frontier f.0 w (f.1 ∙ ap (λ z. z ∷ f.0) (sym h.next)) (ap (λ z. z.frontier) h.others) h.ready

  -- The next address is on the board, so if it is not ready it is queued or in hand.
  pub waits : (b : Board T R) → IsWhole b → b.frontier ≢ [] → times (next_address b.frontier) (addresses_of b.ready) ≡ 0
      → (0 < times (next_address b.frontier) (addresses_of b.queued)) ⊎ (0 < times (next_address b.frontier) b.in_hand)
  waits b w some none =
      let next = next_address b.frontier in
      ⊎_elim
      (λ (q : times next (addresses_of b.queued) ≡ 0). inr (omega (arith, w.each next, times-on_board next b, next_there b.frontier some)))
      (λ (q : 0 < times next (addresses_of b.queued)). inl q)
      (eq-zero-or-pos (times next (addresses_of b.queued)))

  -- The least that is ready is the next one, if that is ready.
  pub next_is_first : (b : Board T R) → IsWhole b → (a : List ℕ) → 0 < times a (addresses_of b.ready) → IsFirst a b.ready → 0 < times (next_address b.frontier) (addresses_of b.ready)
      → a ≡ next_address b.frontier
  next_is_first b w a there first some =
      let next = next_address b.frontier in
      let a_there : 0 < times a (on_board b) = omega (arith, times-on_board a b) in
      same_address a next (next_least b w a a_there) (first_among a next b.ready first some)

  pub not_ready : (b : Board T R) → IsWhole b → (a : List ℕ) → 0 < times a (addresses_of b.ready) → IsFirst a b.ready → a ≢ next_address b.frontier
      → times (next_address b.frontier) (addresses_of b.ready) ≡ 0
  not_ready b w a there first other =
      let next = next_address b.frontier in
      ⊎_elim
      (λ none. none)
      (λ (some : 0 < times next (addresses_of b.ready)). absurd (other (next_is_first b w a there first some)))
      (eq-zero-or-pos (times next (addresses_of b.ready)))
