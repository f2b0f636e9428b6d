-- What the steps of a board leave to be read.
use Rattle.std.proofs.Common.{◌≡◌, ◌≢◌, ℕ, ◌+◌, ◌<◌, ◌≤◌, true, false, cond, List, [], ◌∷◌, ◌++◌, length, map, refl, sym, ap, ap₂, ◌∙◌, arith, subst, append_assoc}
use Rattle.std.proofs.lemmas.List.{append-nil, map-append, length-map}
use Rattle.std.proofs.lemmas.List.FromFn.{length-range_with_len}
use Rattle.std.specs.List.{range_with_len}
use lib.ListN.{length-append}
use Rattle.std.proofs.lemmas.Grind.{flat_map-append}
use Rattle.std.specs.Prelude.{flat_map, All}
use Rattle.std.specs.List.Sorted.{IsPermutation}
use Rattle.std.proofs.lemmas.List.Elements.{All-nil, All-cons, All-head, All-tail, All-weaker}
use Rattle.std.proofs.lemmas.List.Sorted.{IsPermutation-map}
use Rattle.jwalk_order.specs.Frontier.{children_from, next_address, passed, roots}
use Rattle.jwalk_order.specs.Ordered.{address_of, child_count_of}
use Rattle.jwalk_order.specs.declared.ordered.Ordered.{Ordered}
use Rattle.jwalk_order.specs.Addresses.{is_same, times}
use Rattle.jwalk_board.specs.Board.{Board, on_board, IsWhole, IsNew, Takes, Finishes, HandsOut}
use Rattle.jwalk_order.specs.Addressed.{Addressed, addressed, addresses_of, child_addresses, numbered}
use Rattle.jwalk_order.proofs.Children.{addresses_of-numbered, children-once, child_addresses-permutation}
use Rattle.jwalk_board.proofs.Opens.{whole_new, times-addresses_of, times-on_board, times_finished, next_there}
use Rattle.jwalk_order.proofs.Sets.{same, times-append, times-itself}
use Rattle.tree_walk.specs.ToGive.{found_at, IsHeld, spec_at, specs_at, with_below, to_give, Makes, HandsOn}
use Rattle.tree_walk.proofs.Found.{found_at-append, found_at-length, found_at-none, found_at-first, found_at-permutation, nothing_found}

nil_append-left : {X : Type 0} (xs ys : List X) → xs ++ ys ≡ [] → xs ≡ []
nil_append-left [] ys h = refl
nil_append-left (x ∷ xs) ys h = absurd (let no : x ∷ xs ++ ys ≡ [] = h in cc)

nil_append-right : {X : Type 0} (xs ys : List X) → xs ++ ys ≡ [] → ys ≡ []
nil_append-right [] ys h = h
nil_append-right (x ∷ xs) ys h = absurd (let no : x ∷ xs ++ ys ≡ [] = h in cc)

pub map-same : {X Y : Type 0} (f g : X → Y) (xs : List X) → ((x : X) → f x ≡ g x) → map f xs ≡ map g xs
map-same f g [] h = refl
map-same f g (x ∷ xs) h = ap₂ (λ y l. y ∷ l) (h x) (map-same f g xs h)

pub map-same_where : {X Y : Type 0} (f g : X → Y) (P : X → Type 0) (xs : List X) → ((x : X) → P x → f x ≡ g x) → All P xs → map f xs ≡ map g xs
map-same_where f g P [] h all = refl
map-same_where f g P (x ∷ xs) h all = ap₂ (λ y l. y ∷ l) (h x (All-head P x xs all)) (map-same_where f g P xs h (All-tail P x xs all))

module _ {T Q V : Type 0} (v : T → V) (w : Q → V) where
  -- where the same is found at each of some addresses
  pub specs_at-same : (b c : Board T Q) (hand left : List (Addressed T)) (ds : List (List ℕ)) → ((a : List ℕ) → 0 < times a ds → spec_at v w c left a ≡ spec_at v w b hand a) → specs_at v w c left ds ≡ specs_at v w b hand ds
  specs_at-same b c hand left [] h = refl
  specs_at-same b c hand left (a ∷ ds) h =
      rw (h a (omega (arith, times-itself a ds)), specs_at-same b c hand left ds (λ d there. h d (omega (arith, there)))) refl

  module _ {A : Type 0} where
    -- a specification that is taken is still there
    pub spec_at-taken : (b c : Board T Q) (item : Ordered T A) (hand : List (Addressed T)) → IsWhole b → Takes item b c → (a : List ℕ) → spec_at v w c (addressed item ∷ hand) a ≡ spec_at v w b hand a
    spec_at-taken b c item hand whole t a =
        let once : times a (addresses_of b.queued) ≤ 1 = omega (arith, whole.once a, times-on_board a b) in
        let queued : found_at v (addressed item ∷ c.queued) a ≡ found_at v b.queued a = found_at-permutation v b.queued (addressed item ∷ c.queued) a t.queued once in
        let often = times-addresses_of a b.queued (addressed item ∷ c.queued) t.queued in
        let ready : c.ready ≡ b.ready = ap (λ z. z.ready) t.others in
        rw (← queued, ready)
        (elim (is_same a (address_of item)) as (λ s. times a (addresses_of b.queued) ≡ times a (addresses_of b.queued) → cond s 1 0 + times a (addresses_of c.queued) ≡ times a (addresses_of b.queued) → found_at v c.queued a ++ (cond s (v item.value ∷ found_at v hand a) (found_at v hand a) ++ found_at w b.ready a) ≡ cond s (v item.value ∷ found_at v c.queued a) (found_at v c.queued a) ++ (found_at v hand a ++ found_at w b.ready a)) [
          | true ↦ λ _ k. rw (found_at-none v c.queued a (omega (arith, k, once))) refl
          | false ↦ λ _ k. refl
        ] refl often)

    -- one that is handed out is no longer there, and all others are
    pub spec_at-handed_out : (b c : Board T Q) (item : Ordered Q A) (hand : List (Addressed T)) → IsWhole b → HandsOut item b c → (a : List ℕ) → is_same a (address_of item) ≡ false → spec_at v w c hand a ≡ spec_at v w b hand a
    spec_at-handed_out b c item hand whole h a other =
        let once : times a (addresses_of b.ready) ≤ 1 = omega (arith, whole.once a, times-on_board a b) in
        let ready : found_at w (addressed item ∷ c.ready) a ≡ found_at w b.ready a = found_at-permutation w b.ready (addressed item ∷ c.ready) a h.ready once in
        let queued : c.queued ≡ b.queued = ap (λ z. z.queued) h.others in
        rw (← ready, queued, other) refl

    -- what is handed out was there, by itself
    pub spec_at-next : (b c : Board T Q) (hand : List (Addressed T)) (item : Ordered Q A) → IsWhole b → IsHeld b hand → HandsOut item b c → spec_at v w b hand (address_of item) ≡ w item.value ∷ []
    spec_at-next b c hand item whole mine h =
        let a = address_of item in
        let often : times a (addresses_of (addressed item ∷ c.ready)) ≡ times a (addresses_of b.ready) = times-addresses_of a b.ready (addressed item ∷ c.ready) h.ready in
        let some : times a (addresses_of (addressed item ∷ c.ready)) ≡ 1 + times a (addresses_of c.ready) = times-itself a (addresses_of c.ready) in
        let once = whole.once a in
        let all = times-on_board a b in
        let held = mine a in
        let ready : found_at w (addressed item ∷ c.ready) a ≡ found_at w b.ready a = found_at-permutation w b.ready (addressed item ∷ c.ready) a h.ready (omega (arith, once, all)) in
        rw (found_at-none v b.queued a (omega (arith, often, some, once, all)), found_at-none v hand a (omega (arith, often, some, once, all, held)), ← ready)
        (found_at-first w (addressed item) c.ready (omega (arith, often, some, once, all)))

  module _ (b c : Board T Q) (x : Addressed T) (rest : List (Addressed T)) (reading : Q) (children : List T) (whole : IsWhole b) (after : IsWhole c) (mine : IsHeld b (x ∷ rest)) (f : Finishes x.at reading children b c) (of : w reading ≡ v x.value) where
    abbrev made : Addressed Q
    made = record { at = x.at; value = reading; child_count = length children }

    held_finished : (a : List ℕ) → times a (on_board c) ≡ times a (children_from 0 x.at (length children)) + times a (on_board b)
    held_finished a =
        ap (λ z. times a (on_board z)) f.others ∙ times_finished b made children c.queued c.in_hand c.ready refl f.in_hand f.ready f.queued a

    -- what was held is no new child
    no_child : (a : List ℕ) → 0 < times a (on_board b) → times a (children_from 0 x.at (length children)) ≡ 0
    no_child a there = omega (arith, held_finished a, after.once a, there)

    queued_is : (a : List ℕ) → found_at v c.queued a ≡ found_at v (numbered x.at 0 children) a ++ found_at v b.queued a
    queued_is a =
        let more = times-addresses_of a (numbered x.at 0 children ++ b.queued) c.queued f.queued in
        found_at-permutation v (numbered x.at 0 children ++ b.queued) c.queued a f.queued (omega (arith, more, times-on_board a c, after.once a))
        ∙ found_at-append v (numbered x.at 0 children) b.queued a

    ready_is : (a : List ℕ) → found_at w c.ready a ≡ cond (is_same a x.at) (w reading ∷ found_at w b.ready a) (found_at w b.ready a)
    ready_is a =
        let more = times-addresses_of a (made ∷ b.ready) c.ready f.ready in
        found_at-permutation w (made ∷ b.ready) c.ready a f.ready (omega (arith, more, times-on_board a c, after.once a))

    -- a specification that was read is still there
    pub spec_at-finished : (a : List ℕ) → 0 < times a (on_board b) → spec_at v w c rest a ≡ spec_at v w b (x ∷ rest) a
    spec_at-finished a there =
        let none : found_at v (numbered x.at 0 children) a ≡ [] = found_at-none v (numbered x.at 0 children) a (ap (times a) (addresses_of-numbered x.at 0 children) ∙ no_child a there) in
        rw (queued_is a, none, ready_is a)
        (elim (is_same a x.at) as (λ s. times a b.in_hand ≡ cond s 1 0 + times a (addresses_of rest) → found_at v b.queued a ++ (found_at v rest a ++ cond s (w reading ∷ found_at w b.ready a) (found_at w b.ready a)) ≡ found_at v b.queued a ++ (cond s (v x.value ∷ found_at v rest a) (found_at v rest a) ++ found_at w b.ready a)) [
          | true ↦ λ k. rw (found_at-none v rest a (omega (arith, k, whole.once a, times-on_board a b)), of) refl
          | false ↦ λ k. refl
        ] (mine a))

    child_at : (a : List ℕ) → 0 < times a (children_from 0 x.at (length children)) → spec_at v w c rest a ≡ found_at v (numbered x.at 0 children) a
    child_at a there =
        let sum = held_finished a in
        let once = after.once a in
        let parts = times-on_board a b in
        let none = mine a in
        let old : times a (on_board b) ≡ 0 = omega (arith, sum, once, there) in
        rw (queued_is a, ready_is a, found_at-none v b.queued a (omega (arith, parts, old)), found_at-none w b.ready a (omega (arith, parts, old)))
        (elim (is_same a x.at) as (λ s. times a b.in_hand ≡ cond s 1 0 + times a (addresses_of rest) → (found_at v (numbered x.at 0 children) a ++ []) ++ (found_at v rest a ++ cond s (w reading ∷ []) []) ≡ found_at v (numbered x.at 0 children) a) [
          | true ↦ λ k. absurd (omega (arith, k, parts, old))
          | false ↦ λ k. rw (found_at-none v rest a (omega (arith, k, parts, old))) (append-nil _ ∙ append-nil _)
        ] none)

  -- the values that are put at the children of an address are found there
  found_children : (a : List ℕ) (i : ℕ) (xs : List T) (front : List (Addressed T)) → ((d : List ℕ) → 0 < times d (children_from i a (length xs)) → times d (addresses_of front) ≡ 0) → flat_map (found_at v (front ++ numbered a i xs)) (children_from i a (length xs)) ≡ map v xs
  found_children a i [] front none = refl
  found_children a i (x ∷ xs) front none =
      let here = a ++ i ∷ [] in
      let one : Addressed T = record { at = here; value = x; child_count = 0 } in
      let first : found_at v (front ++ one ∷ numbered a (i + 1) xs) here ≡ v x ∷ [] =
      found_at-append v front (one ∷ numbered a (i + 1) xs) here
      ∙ rw (found_at-none v front here (none here (let t = times-itself here (children_from (i + 1) a (length xs)) in omega (arith, t))))
      (found_at-first v one (numbered a (i + 1) xs) (let p = ap (times here) (addresses_of-numbered a i (x ∷ xs)) in let q = children-once here a i (length (x ∷ xs)) in omega (arith, p, q))) in
      let others : flat_map (found_at v ((front ++ one ∷ []) ++ numbered a (i + 1) xs)) (children_from (i + 1) a (length xs)) ≡ map v xs =
      found_children a (i + 1) xs (front ++ one ∷ []) (λ d there.
      let once = children-once d a i (length (x ∷ xs)) in
      let before = none d (omega (arith, there)) in
      let all = ap (times d) (map-append (λ (y : Addressed T). y.at) front (one ∷ [])) ∙ times-append d (addresses_of front) (here ∷ []) in
      omega (arith, all, once, before, there)) in
      rw first (ap (λ l. v x ∷ l) (subst (λ z. flat_map (found_at v z) (children_from (i + 1) a (length xs)) ≡ map v xs) (append_assoc front (one ∷ []) (numbered a (i + 1) xs)) others))

  flat_map-all : {X Y : Type 0} (f g : X → List Y) (xs : List X) → ((x : X) → f x ≡ g x) → flat_map f xs ≡ flat_map g xs
  flat_map-all f g [] h = refl
  flat_map-all f g (x ∷ xs) h = rw (h x, flat_map-all f g xs h) refl

  flat_map-same : {X Y : Type 0} (f g : X → List Y) (P : X → Type 0) (xs : List X) → ((x : X) → P x → f x ≡ g x) → All P xs → flat_map f xs ≡ flat_map g xs
  flat_map-same f g P [] h all = refl
  flat_map-same f g P (x ∷ xs) h all = rw (h x (All-head P x xs all), flat_map-same f g P xs h (All-tail P x xs all)) refl

  all_among : (ds : List (List ℕ)) → All (λ d. 0 < times d ds) ds
  all_among [] = All-nil _
  all_among (d ∷ ds) =
      All-cons (λ e. 0 < times e (d ∷ ds)) d ds (omega (arith, times-itself d ds))
      (All-weaker (λ e. 0 < times e ds) (λ e. 0 < times e (d ∷ ds)) (λ e there. omega (arith, there)) ds (all_among ds))

  module _ (b c : Board T Q) (x : Addressed T) (rest : List (Addressed T)) (reading : Q) (children : List T) (whole : IsWhole b) (after : IsWhole c) (mine : IsHeld b (x ∷ rest)) (f : Finishes x.at reading children b c) (of : w reading ≡ v x.value) where
    -- the specifications below what was read are those that came with it
    pub specs_at-children : specs_at v w c rest (children_from 0 x.at (length children)) ≡ map v children
    specs_at-children =
        flat_map-same (spec_at v w c rest) (found_at v (numbered x.at 0 children)) (λ d. 0 < times d (children_from 0 x.at (length children))) (children_from 0 x.at (length children))
        (λ d there. child_at b c x rest reading children whole after mine f of d there) (all_among (children_from 0 x.at (length children)))
        ∙ found_children x.at 0 children [] (λ d there. refl)

    frontier_held : (a : List ℕ) → 0 < times a b.frontier → 0 < times a (on_board b)
    frontier_held a there = omega (arith, whole.each a, there)

    -- what is still to be read stays the same
    to_read-finished : specs_at v w c rest c.frontier ≡ specs_at v w b (x ∷ rest) b.frontier
    to_read-finished =
        rw (ap (λ z. z.frontier) f.others)
        (specs_at-same b c (x ∷ rest) rest b.frontier (λ a there. spec_at-finished b c x rest reading children whole after mine f of a (frontier_held a there)))

  module _ {A : Type 0} where
    to_read-taken : (b c : Board T Q) (item : Ordered T A) (hand : List (Addressed T)) → IsWhole b → Takes item b c → specs_at v w c (addressed item ∷ hand) c.frontier ≡ specs_at v w b hand b.frontier
    to_read-taken b c item hand whole t =
        rw (ap (λ z. z.frontier) t.others) (specs_at-same b c hand (addressed item ∷ hand) b.frontier (λ a there. spec_at-taken b c item hand whole t a))

  -- the children of what is ready are held
  children_held : (b : Board T Q) → IsWhole b → (ys : List (Addressed Q)) → ((a : List ℕ) → times a (child_addresses ys) ≤ times a (child_addresses b.ready)) → All (λ y. (a : List ℕ) → 0 < times a (children_from 0 y.at y.child_count) → 0 < times a (on_board b)) ys
  children_held b whole [] h = All-nil _
  children_held b whole (y ∷ ys) h =
      All-cons (λ z. (a : List ℕ) → 0 < times a (children_from 0 z.at z.child_count) → 0 < times a (on_board b)) y ys
      (λ a there. let all = times-append a (children_from 0 y.at y.child_count) (child_addresses ys) in omega (arith, whole.each a, h a, all, there))
      (children_held b whole ys (λ a. let all = times-append a (children_from 0 y.at y.child_count) (child_addresses ys) in omega (arith, h a, all)))

  -- a frontier has no address twice, and nothing that is passed is among the rest
  next_apart : (b : Board T Q) → IsWhole b → (a : List ℕ) (left : List (List ℕ)) → b.frontier ≡ a ∷ left → (d : List ℕ) → 0 < times d left → is_same d a ≡ false
  next_apart b whole a left is d there =
      elim (is_same d a) as (λ s. is_same d a ≡ s → s ≡ false) [
        | true ↦ λ e.
            let twice = times-itself a left in
            let all = ap (times a) is in
            let again : a ≡ d = same d a e in
            let more : 0 < times a left = subst (λ z. 0 < times z left) (sym again) there in
            absurd (omega (arith, whole.each a, whole.once a, all, twice, more))
        | false ↦ λ e. refl
      ] refl

  -- what is below a reading is the same where each of its children is found as before
  pub below-same : (b c : Board T Q) (hand left : List (Addressed T)) (y : Addressed Q) → ((a : List ℕ) → 0 < times a (children_from 0 y.at y.child_count) → spec_at v w c left a ≡ spec_at v w b hand a) → with_below v w c left y ≡ with_below v w b hand y
  below-same b c hand left y h = ap (λ l. (y.value, l)) (specs_at-same b c hand left (children_from 0 y.at y.child_count) h)

  module _ {A : Type 0} where
    -- what is taken changes nothing of what is to be given
    pub gives-taken : (b c : Board T Q) (item : Ordered T A) (hand : List (Addressed T)) → IsWhole b → Takes item b c → to_give v w c (addressed item ∷ hand) ≡ to_give v w b hand
    gives-taken b c item hand whole t =
        let below = map-same (with_below v w c (addressed item ∷ hand)) (with_below v w b hand) b.ready (λ y. below-same b c hand (addressed item ∷ hand) y (λ a there. spec_at-taken b c item hand whole t a)) in
        ap₂ (λ l m. record { to_read = l; made = m }) (to_read-taken b c item hand whole t) (ap (λ z. map (with_below v w c (addressed item ∷ hand)) z.ready) t.others ∙ below)

  -- What is finished is made, with its children below it.
  pub gives-finished : (b c : Board T Q) (x : Addressed T) (rest : List (Addressed T)) (reading : Q) (children : List T) → IsWhole b → IsWhole c → IsHeld b (x ∷ rest) → Finishes x.at reading children b c → w reading ≡ v x.value
      → Makes reading (map v children) (to_give v w b (x ∷ rest)) (to_give v w c rest)
  gives-finished b c x rest reading children whole after mine f of =
      let one : Addressed Q = record { at = x.at; value = reading; child_count = length children } in
      let before = with_below v w b (x ∷ rest) in
      let now = with_below v w c rest in
      let stay : map now b.ready ≡ map before b.ready =
      map-same_where now before (λ y. (a : List ℕ) → 0 < times a (children_from 0 y.at y.child_count) → 0 < times a (on_board b)) b.ready
      (λ y there. below-same b c (x ∷ rest) rest y (λ a among. spec_at-finished b c x rest reading children whole after mine f of a (there a among)))
      (children_held b whole b.ready (λ a. omega arith)) in
      let own : now one ≡ (reading, map v children) = ap (λ l. (reading, l)) (specs_at-children b c x rest reading children whole after mine f of) in
      record {
        same = to_read-finished b c x rest reading children whole after mine f of;
        joins = subst (λ l. IsPermutation l (map now c.ready)) (ap₂ (λ p l. p ∷ l) own stay) (IsPermutation-map now (one ∷ b.ready) c.ready f.ready);
      }

  -- one is found at an address that is on the board, if its takers hold what is in hand
  pub spec_at-once : (b : Board T Q) (hand : List (Addressed T)) (a : List ℕ) → IsHeld b hand → times a (on_board b) ≡ 1 → length (spec_at v w b hand a) ≡ 1
  spec_at-once b hand a mine once =
      let parts = length-append (found_at v b.queued a) (found_at v hand a ++ found_at w b.ready a) in
      let more = length-append (found_at v hand a) (found_at w b.ready a) in
      omega (arith, parts, more, found_at-length v b.queued a, found_at-length v hand a, found_at-length w b.ready a, mine a, times-on_board a b, once)

  -- and so one for each of these addresses
  specs_at-length : (b : Board T Q) (hand : List (Addressed T)) → IsHeld b hand → (ds : List (List ℕ)) → ((a : List ℕ) → 0 < times a ds → times a (on_board b) ≡ 1) → length (specs_at v w b hand ds) ≡ length ds
  specs_at-length b hand mine [] h = refl
  specs_at-length b hand mine (a ∷ ds) h =
      omega (arith, length-append (spec_at v w b hand a) (specs_at v w b hand ds), spec_at-once b hand a mine (h a (omega (arith, times-itself a ds))), specs_at-length b hand mine ds (λ d there. h d (omega (arith, there))))

  module _ {A : Type 0} (b c : Board T Q) (hand : List (Addressed T)) (item : Ordered Q A) (whole : IsWhole b) (h : HandsOut item b c) where
    abbrev own : List (List ℕ)
    own = children_from 0 (address_of item) (child_count_of item)

    -- what is handed out is no child of what is ready
    no_child_of : (a : List ℕ) → 0 < times a (child_addresses b.ready) → is_same a (address_of item) ≡ false
    no_child_of a there =
        elim (is_same a (address_of item)) as (λ s. is_same a (address_of item) ≡ s → s ≡ false) [
          | true ↦ λ e.
              let next : next_address b.frontier ≡ a = sym h.next ∙ same a (address_of item) e in
              let some : 0 < times a b.frontier = subst (λ z. 0 < times z b.frontier) next (next_there b.frontier h.some) in
              absurd (omega (arith, whole.each a, whole.once a, some, there))
          | false ↦ λ e. refl
        ] refl

    as_before : (a : List ℕ) → is_same a (address_of item) ≡ false → spec_at v w c hand a ≡ spec_at v w b hand a
    as_before = spec_at-handed_out b c item hand whole h

    stays : (ys : List (Addressed Q)) → ((a : List ℕ) → times a (child_addresses ys) ≤ times a (child_addresses b.ready)) → map (with_below v w c hand) ys ≡ map (with_below v w b hand) ys
    stays [] less = refl
    stays (y ∷ ys) less =
        let all : (a : List ℕ) → times a (child_addresses (y ∷ ys)) ≡ times a (children_from 0 y.at y.child_count) + times a (child_addresses ys) = λ a. times-append a (children_from 0 y.at y.child_count) (child_addresses ys) in
        ap₂ (λ p l. p ∷ l) (below-same b c hand hand y (λ a among. as_before a (no_child_of a (omega (arith, all a, less a, among))))) (stays ys (λ a. omega (arith, all a, less a)))

    children : (a : List ℕ) → times a (own ++ child_addresses c.ready) ≡ times a (child_addresses b.ready)
    children a = child_addresses-permutation a b.ready (addressed item ∷ c.ready) h.ready

    frontier_is : (left : List (List ℕ)) × (b.frontier ≡ address_of item ∷ left)
    frontier_is =
        elim b.frontier as (λ f. f ≢ [] → address_of item ≡ next_address f → (left : List (List ℕ)) × (f ≡ address_of item ∷ left)) [
          | [] ↦ λ some is. absurd (some refl)
          | d ∷ left ↦ λ some is. (left, ap (λ z. z ∷ left) (sym is))
        ] h.some h.next

    -- each of its children is on the board
    own_there : (a : List ℕ) → 0 < times a own → times a (on_board b) ≡ 1
    own_there a among = omega (arith, children a, times-append a own (child_addresses c.ready), among, whole.each a, whole.once a)

    own_count : length own ≡ child_count_of item
    own_count = length-map (range_with_len 0 (child_count_of item)) _ ∙ length-range_with_len 0 (child_count_of item)

    -- What is handed out is handed on, with as many specifications as it counts children.
    pub gives-handed_out : IsHeld b hand → (gives : HandsOn w (to_give v w b hand) item.value (to_give v w c hand)) × (length gives.front ≡ child_count_of item)
    gives-handed_out mine =
        let left = frontier_is.0 in
        let was : b.frontier ≡ address_of item ∷ left = frontier_is.1 in
        let now : c.frontier ≡ own ++ left = ap (λ z. z.frontier) h.others ∙ ap (λ z. passed z (child_count_of item)) was in
        let below : specs_at v w c hand own ≡ specs_at v w b hand own =
        specs_at-same b c hand hand own (λ a among. as_before a (no_child_of a (omega (arith, children a, times-append a own (child_addresses c.ready), among)))) in
        let others : specs_at v w c hand left ≡ specs_at v w b hand left =
        specs_at-same b c hand hand left (λ a among. as_before a (next_apart b whole (address_of item) left was a among)) in
        let gives : HandsOn w (to_give v w b hand) item.value (to_give v w c hand) = record {
          rest = specs_at v w b hand left;
          front = specs_at v w b hand own;
          took = ap (specs_at v w b hand) was ∙ ap (λ l. l ++ specs_at v w b hand left) (spec_at-next b c hand item whole mine h);
          left = ap (specs_at v w c hand) now
              ∙ flat_map-append (spec_at v w c hand) own left
              ∙ ap (λ l. l ++ specs_at v w c hand left) below
              ∙ ap (λ l. specs_at v w b hand own ++ l) others;
          leaves = subst (λ l. IsPermutation (map (with_below v w b hand) b.ready) (with_below v w b hand (addressed item) ∷ l))
              (sym (stays c.ready (λ a. omega (arith, children a, times-append a own (child_addresses c.ready)))))
              (IsPermutation-map (with_below v w b hand) b.ready (addressed item ∷ c.ready) h.ready);
        } in
        (gives, specs_at-length b hand mine own own_there ∙ own_count)

  -- While nothing is in hand, there is something to be read where the frontier has an address.
  pub some_to_read : (b : Board T Q) → IsWhole b → b.in_hand ≡ [] → b.frontier ≢ [] → specs_at v w b [] b.frontier ≢ []
  some_to_read b whole none some =
      elim b.frontier as (λ f. b.frontier ≡ f → f ≢ [] → specs_at v w b [] f ≢ []) [
        | [] ↦ λ is h. absurd (h refl)
        | a ∷ left ↦ λ is h none_found.
            let nothing : found_at v b.queued a ++ ([] ++ found_at w b.ready a) ≡ [] = nil_append-left _ (specs_at v w b [] left) none_found in
            let queued = nothing_found v b.queued a (nil_append-left (found_at v b.queued a) (found_at w b.ready a) nothing) in
            let ready = nothing_found w b.ready a (nil_append-right (found_at v b.queued a) (found_at w b.ready a) nothing) in
            let there : 0 < times a b.frontier = rw is (omega (arith, times-itself a left)) in
            absurd (omega (arith, whole.each a, times-on_board a b, queued, ready, there, ap (times a) none))
      ] refl some

  -- A new board has its roots to be read, and nothing is made.
  pub gives-new : (specs : List T) (b : Board T Q) → IsNew specs b → to_give v w b [] ≡ record { to_read = map v specs; made = [] }
  gives-new specs b new =
      let whole = whole_new specs b new in
      let queued : (a : List ℕ) → found_at v b.queued a ≡ found_at v (numbered [] 0 specs) a = λ a.
      found_at-permutation v (numbered [] 0 specs) b.queued a new.queued (omega (arith, times-addresses_of a (numbered [] 0 specs) b.queued new.queued, times-on_board a b, whole.once a)) in
      let here : (a : List ℕ) → spec_at v w b [] a ≡ found_at v (numbered [] 0 specs) a = λ a. rw (queued a, new.ready) (append-nil _) in
      ap₂ (λ l m. record { to_read = l; made = m })
      (rw new.frontier (flat_map-all (spec_at v w b []) (found_at v (numbered [] 0 specs)) (roots (length specs)) here) ∙ found_children [] 0 specs [] (λ d there. refl))
      (rw new.ready refl)
