-- What the steps of a board keep.
use Rattle.std.proofs.Common.{◌≡◌, ◌≢◌, ℕ, zero, suc, ◌+◌, ◌<◌, true, false, List, [], ◌∷◌, ◌++◌, length, refl, sym, ap, ◌∙◌, arith, subst, ⊎_elim, Contains, append_assoc, length-append}
use Rattle.std.proofs.Math.Nat.{eq-zero-or-pos}
use Rattle.std.proofs.lemmas.Bool.{false≢true}
use Rattle.std.proofs.lemmas.List.{append-nil, map-append, same_from_push}
use Rattle.std.proofs.lemmas.List.Elements.{All-append, All-tail}
use Rattle.std.proofs.lemmas.List.Sorted.{IsPermutation-map, All-permutation}
use Rattle.std.specs.List.Sorted.{IsPermutation}
use Rattle.jwalk_order.specs.Frontier.{children_from, next_address, passed}
use Rattle.jwalk_order.specs.IndexPath.{is_before}
use Rattle.jwalk_order.specs.Addresses.{times}
use Rattle.jwalk_board.specs.Board.{Board, IsOpen, of_frontier, of_parent, on_board, IsWhole, HoldsOpen, IsNew}
use Rattle.jwalk_board.specs.Left.{is_left, IsApart}
use Rattle.jwalk_order.specs.Addressed.{Addressed, addresses_of, child_addresses, numbered}
use Rattle.jwalk_order.proofs.Children.{has_parent, HasParent, times-contains, times-child_addresses, children-once, child_from_times, child_addresses-permutation, addresses_of-numbered, unread-numbered}
use Rattle.jwalk_board.proofs.Left.{apart_children, apart_passed, apart_pair, left_of-among, not_left-below, not_left-above, left-before, not_before-below, left-below}
use Rattle.jwalk_order.proofs.Sets.{times-append, times-permutation, times-itself, among_cases}

module _ {V : Type 0} where
  pub times-addresses_of : (a : List ℕ) (xs ys : List (Addressed V)) → IsPermutation xs ys → times a (addresses_of ys) ≡ times a (addresses_of xs)
  times-addresses_of a xs ys p = times-permutation a (addresses_of xs) (addresses_of ys) (IsPermutation-map (λ x. x.at) xs ys p)

-- A list of addresses beside one another has none below another.
no_pair : (f s c : List ℕ) → c ≡ f ++ s → 0 < length s → (xs : List (List ℕ)) → IsApart xs → 0 < times f xs → 0 < times c xs → ⊥
no_pair f s c is some xs apart f-in c-in =
    ⊎_elim
    (λ (e : f ≡ c). let k : length f ≡ length c = ap length e in let m : length c ≡ length (f ++ s) = ap length is in omega (arith, length-append f s))
    (⊎_elim
    (λ (e : is_left f c ≡ true). false≢true (sym (not_left-below f s) ∙ ap (is_left f) (sym is) ∙ e))
    (λ (e : is_left c f ≡ true). false≢true (sym (not_left-above f s) ∙ ap (λ z. is_left z f) (sym is) ∙ e)))
    (apart_pair f c xs apart f-in c-in)

pub next_there : (f : List (List ℕ)) → f ≢ [] → 0 < times (next_address f) f
next_there [] h = absurd (h refl)
next_there (x ∷ xs) h = omega (arith, times-itself x xs)

of_list : (f : List (List ℕ)) (above rest : List ℕ) → IsApart f → 0 < times above f → is_before (above ++ rest) (next_address f) ≡ false
of_list [] above rest apart h = absurd (omega arith)
of_list (x ∷ xs) above rest apart h =
    ⊎_elim
    (λ (e : x ≡ above). ap (λ z. is_before (above ++ rest) z) e ∙ not_before-below above rest)
    (λ (m : 0 < times above xs).
    left-before x (above ++ rest)
    (ap (λ z. is_left z (above ++ rest)) (sym (append-nil x)) ∙ left-below x above [] rest (left_of-among x above xs apart.0 m)))
    (among_cases above x xs h)

module _ {T R : Type 0} where
  pub times-on_board : (a : List ℕ) (b : Board T R) → times a (on_board b) ≡ times a (addresses_of b.queued) + (times a b.in_hand + times a (addresses_of b.ready))
  times-on_board a b =
      times-append a (addresses_of b.queued) (b.in_hand ++ addresses_of b.ready) ∙ ap (λ n. times a (addresses_of b.queued) + n) (times-append a b.in_hand (addresses_of b.ready))

  -- Each address on the board is that of the frontier, or lies below one.
  pub record IsBelow (b : Board T R) (a : List ℕ) : Type 0 where
    pub above : List ℕ
    pub rest : List ℕ
    pub there : 0 < times above b.frontier
    pub is : a ≡ above ++ rest

  from_parent : (b : Board T R) (a : List ℕ) (i : ℕ) → IsBelow b a → IsBelow b (a ++ i ∷ [])
  from_parent b a i h = record {
    above = h.above;
    rest = h.rest ++ i ∷ [];
    there = h.there;
    is = ap (λ z. z ++ i ∷ []) h.is ∙ append_assoc h.above h.rest (i ∷ []);
  }

  parent_there : (b : Board T R) (x : Addressed R) → Contains b.ready x → 0 < times x.at (on_board b)
  parent_there b x h = let r = times-contains b.ready x h in omega (arith, times-on_board x.at b)

  below_within : (b : Board T R) → IsWhole b → (n : ℕ) (a : List ℕ) → length a < n → 0 < times a (on_board b) → IsBelow b a
  below_within b w zero a short h = absurd (omega arith)
  below_within b w (suc n) a short h =
      ⊎_elim
      (λ (none : times a b.frontier ≡ 0).
      let later : 0 < times a (child_addresses b.ready) = omega (arith, w.each a) in
      let p : HasParent a b.ready = has_parent a b.ready later in
      let shorter : length p.parent.at < n = omega (arith, ap length p.is, length-append p.parent.at (p.index ∷ [])) in
      let r : IsBelow b p.parent.at = below_within b w n p.parent.at shorter (parent_there b p.parent p.there) in
      subst (IsBelow b) (sym p.is) (from_parent b p.parent.at p.index r))
      (λ (some : 0 < times a b.frontier). let r : IsBelow b a = record { above = a; rest = []; there = some; is = sym (append-nil a) } in r)
      (eq-zero-or-pos (times a b.frontier))

  pub is_below : (b : Board T R) → IsWhole b → (a : List ℕ) → 0 < times a (on_board b) → IsBelow b a
  is_below b w a h = below_within b w (suc (length a)) a (omega arith) h

  -- No child of what is in hand is on the board.
  no_child : (b : Board T R) → IsWhole b → (a : List ℕ) (i : ℕ) → 0 < times a b.in_hand → times (a ++ i ∷ []) (on_board b) ≡ 0
  no_child b w a i h =
      let c : List ℕ = a ++ i ∷ [] in
      ⊎_elim
      (λ none. none)
      (λ (some : 0 < times c (on_board b)).
      ⊎_elim
      (λ (none : times c b.frontier ≡ 0).
      let later : 0 < times c (child_addresses b.ready) = omega (arith, w.each c) in
      let p : HasParent c b.ready = has_parent c b.ready later in
      let e : a ≡ p.parent.at = (same_from_push a p.parent.at i p.index p.is).0 in
      let twice : 0 < times a (addresses_of b.ready) = subst (λ z. 0 < times z (addresses_of b.ready)) (sym e) (times-contains b.ready p.parent p.there) in
      absurd (omega (arith, w.once a, times-on_board a b)))
      (λ (there : 0 < times c b.frontier).
      let a_there : 0 < times a (on_board b) = omega (arith, times-on_board a b) in
      let r : IsBelow b a = is_below b w a a_there in
      let c-is : c ≡ r.above ++ (r.rest ++ i ∷ []) = ap (λ z. z ++ i ∷ []) r.is ∙ append_assoc r.above r.rest (i ∷ []) in
      let k : times c (on_board b) ≡ 0 = absurd (no_pair r.above (r.rest ++ i ∷ []) c c-is (omega (arith, length-append r.rest (i ∷ []))) b.frontier w.apart r.there there) in k)
      (eq-zero-or-pos (times c b.frontier)))
      (eq-zero-or-pos (times c (on_board b)))

  -- ---- the steps

  pub whole_taken : (b : Board T R) (x : Addressed T) (queued : List (Addressed T)) (in_hand : List (List ℕ)) → IsWhole b
      → IsPermutation b.queued (x ∷ queued) → IsPermutation (x.at ∷ b.in_hand) in_hand → IsWhole (record b { queued = queued; in_hand = in_hand })
  whole_taken b x queued in_hand w q h =
      let n : Board T R = record b { queued = queued; in_hand = in_hand } in
      let same : (a : List ℕ) → times a (on_board n) ≡ times a (on_board b) = λ a.
      omega (arith, times-on_board a n, times-on_board a b, times-addresses_of a b.queued (x ∷ queued) q, times-permutation a (x.at ∷ b.in_hand) in_hand h) in
      record {
        each = λ a. same a ∙ w.each a;
        once = λ a. omega (arith, same a, w.once a);
        apart = w.apart;
        unread = All-tail (λ y. y.child_count ≡ 0) x queued (All-permutation (λ y. y.child_count ≡ 0) b.queued (x ∷ queued) q w.unread);
      }

  -- The children of what is finished are on the board too.
  pub times_finished : (b : Board T R) (x : Addressed R) (children : List T) (queued : List (Addressed T)) (in_hand : List (List ℕ)) (ready : List (Addressed R)) → x.child_count ≡ length children
      → IsPermutation b.in_hand (x.at ∷ in_hand) → IsPermutation (x ∷ b.ready) ready → IsPermutation (numbered x.at 0 children ++ b.queued) queued
      → (a : List ℕ) → times a (on_board (record b { queued = queued; in_hand = in_hand; ready = ready })) ≡ times a (children_from 0 x.at x.child_count) + times a (on_board b)
  times_finished b x children queued in_hand ready count h r q a =
      let n : Board T R = record b { queued = queued; in_hand = in_hand; ready = ready } in
      let more : times a (addresses_of queued) ≡ times a (children_from 0 x.at x.child_count) + times a (addresses_of b.queued) =
      times-addresses_of a (numbered x.at 0 children ++ b.queued) queued q
      ∙ ap (times a) (map-append (λ y. y.at) (numbered x.at 0 children) b.queued)
      ∙ times-append a (addresses_of (numbered x.at 0 children)) (addresses_of b.queued)
      ∙ ap (λ z. times a z + times a (addresses_of b.queued)) (addresses_of-numbered x.at 0 children ∙ ap (children_from 0 x.at) (sym count)) in
      omega (arith, times-on_board a n, times-on_board a b, more, times-permutation a b.in_hand (x.at ∷ in_hand) h, times-addresses_of a (x ∷ b.ready) ready r)

  pub whole_finished : (b : Board T R) (x : Addressed R) (children : List T) (queued : List (Addressed T)) (in_hand : List (List ℕ)) (ready : List (Addressed R)) → IsWhole b
      → x.child_count ≡ length children → IsPermutation b.in_hand (x.at ∷ in_hand) → IsPermutation (x ∷ b.ready) ready → IsPermutation (numbered x.at 0 children ++ b.queued) queued
      → IsWhole (record b { queued = queued; in_hand = in_hand; ready = ready })
  whole_finished b x children queued in_hand ready w count h r q =
      let n : Board T R = record b { queued = queued; in_hand = in_hand; ready = ready } in
      let sum : (a : List ℕ) → times a (on_board n) ≡ times a (children_from 0 x.at x.child_count) + times a (on_board b) =
      times_finished b x children queued in_hand ready count h r q in
      let was : 0 < times x.at b.in_hand = omega (arith, times-permutation x.at b.in_hand (x.at ∷ in_hand) h, times-itself x.at in_hand) in
      record {
        each = λ a.
            omega (
              arith,
              sum a,
              w.each a,
              child_addresses-permutation a (x ∷ b.ready) ready r,
              times-append a (children_from 0 x.at x.child_count) (child_addresses b.ready),
            );
        once = λ a.
            ⊎_elim
            (λ (none : times a (children_from 0 x.at x.child_count) ≡ 0). omega (arith, sum a, w.once a))
            (λ (some : 0 < times a (children_from 0 x.at x.child_count)).
            let k = child_from_times a x.at 0 x.child_count some in
            let none : times a (on_board b) ≡ 0 = ap (λ z. times z (on_board b)) k.3 ∙ no_child b w x.at k.0 was in
            omega (arith, sum a, children-once a x.at 0 x.child_count))
            (eq-zero-or-pos (times a (children_from 0 x.at x.child_count)));
        apart = w.apart;
        unread = All-permutation (λ y. y.child_count ≡ 0) (numbered x.at 0 children ++ b.queued) queued q
            (All-append (λ y. y.child_count ≡ 0) (numbered x.at 0 children) b.queued (unread-numbered x.at 0 children) w.unread);
      }

  pub whole_handed_out : (b : Board T R) (x : Addressed R) (ready : List (Addressed R)) (frontier rest : List (List ℕ)) → IsWhole b
      → b.frontier ≡ x.at ∷ rest → frontier ≡ passed b.frontier x.child_count → IsPermutation b.ready (x ∷ ready) → IsWhole (record b { ready = ready; frontier = frontier })
  whole_handed_out b x ready frontier rest w was is r =
      let n : Board T R = record b { ready = ready; frontier = frontier } in
      let is' : frontier ≡ children_from 0 x.at x.child_count ++ rest = is ∙ ap (λ f. passed f x.child_count) was in
      let less : (a : List ℕ) → times a (on_board b) ≡ times a (x.at ∷ []) + times a (on_board n) = λ a.
      omega (arith, times-on_board a n, times-on_board a b, times-addresses_of a b.ready (x ∷ ready) r) in
      let front : IsApart (x.at ∷ rest) = subst IsApart was w.apart in
      record {
        each = λ a.
            omega (
              arith,
              less a,
              w.each a,
              ap (times a) was,
              ap (times a) is',
              times-append a (children_from 0 x.at x.child_count) rest,
              child_addresses-permutation a b.ready (x ∷ ready) r,
              times-append a (children_from 0 x.at x.child_count) (child_addresses ready),
            );
        once = λ a. omega (arith, less a, w.once a);
        apart = subst IsApart (sym is') (apart_passed x.at 0 x.child_count rest front.0 front.1);
        unread = w.unread;
      }

  pub whole_new : (specs : List T) (b : Board T R) → IsNew specs b → IsWhole b
  whole_new specs b new =
      let all : (a : List ℕ) → times a (on_board b) ≡ times a (children_from 0 [] (length specs)) = λ a.
      let q = times-addresses_of a (numbered [] 0 specs) b.queued new.queued in
      let p = ap (times a) (addresses_of-numbered [] 0 specs) in
      let h : times a b.in_hand ≡ 0 = ap (times a) new.in_hand in
      let r : times a (addresses_of b.ready) ≡ 0 = ap (λ z. times a (addresses_of z)) new.ready in
      omega (arith, times-on_board a b) in
      record {
        each = λ a. let r : times a (child_addresses b.ready) ≡ 0 = ap (λ z. times a (child_addresses z)) new.ready in omega (arith, all a, ap (times a) new.frontier);
        once = λ a. omega (arith, all a, children-once a [] 0 (length specs));
        apart = subst IsApart (sym new.frontier) (apart_children [] 0 (length specs));
        unread = All-permutation (λ y. y.child_count ≡ 0) (numbered [] 0 specs) b.queued new.queued (unread-numbered [] 0 specs);
      }

  -- ---- what follows

  pub next_least : (b : Board T R) → IsWhole b → (a : List ℕ) → 0 < times a (on_board b) → is_before a (next_address b.frontier) ≡ false
  next_least b w a h = let r : IsBelow b a = is_below b w a h in ap (λ z. is_before z (next_address b.frontier)) r.is ∙ of_list b.frontier r.above r.rest w.apart r.there

  opened : (b : Board T R) → IsWhole b → (n : ℕ) (a : List ℕ) → length a < n → 0 < times a (on_board b) → IsOpen b.frontier b.ready a
  opened b w zero a short h = absurd (omega arith)
  opened b w (suc n) a short h =
      ⊎_elim
      (λ (none : times a b.frontier ≡ 0).
      let later : 0 < times a (child_addresses b.ready) = omega (arith, w.each a) in
      let p : HasParent a b.ready = has_parent a b.ready later in
      let shorter : length p.parent.at < n = omega (arith, ap length p.is, length-append p.parent.at (p.index ∷ [])) in
      let r : IsOpen b.frontier b.ready p.parent.at = opened b w n p.parent.at shorter (parent_there b p.parent p.there) in
      subst (IsOpen b.frontier b.ready) (sym p.is) (of_parent p.parent p.index p.there r p.below))
      (λ (some : 0 < times a b.frontier). of_frontier some)
      (eq-zero-or-pos (times a b.frontier))

  closed : (b : Board T R) → IsWhole b → (a : List ℕ) → IsOpen b.frontier b.ready a → 0 < times a (on_board b)
  closed b w a (of_frontier h) = omega (arith, w.each a)
  closed b w _ (of_parent x i there inner less) = omega (arith, w.each (x.at ++ i ∷ []), times-child_addresses b.ready x i there less)

  pub holds_open : (b : Board T R) → IsWhole b → HoldsOpen b
  holds_open b w = record {
    once = w.once;
    open_addresses = λ a. (λ h. opened b w (suc (length a)) a (omega arith) h, λ h. closed b w a h);
    next_is_open = λ some. let n = next_there b.frontier some in omega (arith, w.each (next_address b.frontier));
    next_is_least = next_least b w;
  }
