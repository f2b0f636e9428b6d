-- What a board keeps when its next address is passed without its reading.
use Rattle.std.proofs.Common.{◌≡◌, ◌≢◌, ℕ, ◌+◌, ◌<◌, ◌≤◌, true, false, cond, not, List, [], ◌∷◌, ◌++◌, length, refl, sym, ap, ◌∙◌, arith, subst, ⊎_elim, append_assoc}
use Rattle.std.specs.List.{filter}
use Rattle.std.specs.Prelude.{drop, All}
use Rattle.std.proofs.Math.Nat.{eq-zero-or-pos}
use Rattle.std.proofs.lemmas.Bool.{false≢true}
use Rattle.std.proofs.lemmas.List.{append-nil, map-append}
use Rattle.std.proofs.lemmas.List.Elements.{All-head, All-tail}
use Rattle.std.proofs.lemmas.List.Sorted.{All-permutation}
use Rattle.jwalk_order.specs.Addressed.{Addressed, addresses_of, child_addresses}
use Rattle.jwalk_order.specs.Addresses.{is_same, times}
use Rattle.jwalk_order.specs.Frontier.{children_from, next_address, passed}
use Rattle.jwalk_order.specs.IndexPath.{is_within}
use Rattle.jwalk_order.specs.Within.{BeginsOutside, Leaves, RemovesWithin}
use Rattle.jwalk_order.proofs.AddressOrder.{same_address}
use Rattle.jwalk_order.proofs.Children.{has_parent, HasParent, times-contains, child_addresses-permutation}
use Rattle.jwalk_order.proofs.Sets.{same, times-append, among_cases}
use Rattle.jwalk_order.proofs.Within.{within_begins, begins_within}
use Rattle.jwalk_board.specs.Board.{Board, on_board, IsWhole}
use Rattle.jwalk_board.specs.Left.{is_left, IsApart, IsLeftOf}
use Rattle.jwalk_board.specs.Skip.{SkipsFirst}
use Rattle.jwalk_board.proofs.Hands.{times-filter}
use Rattle.jwalk_board.proofs.Left.{left-below, left-before, left_of-among, not_left-below}
use Rattle.jwalk_board.proofs.Opens.{IsBelow, is_below, times-addresses_of, times-on_board}
use Rattle.jwalk_board.proofs.Steps.{first_among}

pub All-right : {X : Type 0} (P : X → Type 0) (xs ys : List X) → All P (xs ++ ys) → All P ys
All-right P [] ys all = all
All-right P (x ∷ xs) ys all = All-right P xs ys (All-tail P x (xs ++ ys) all)

pub next_and_rest : (f : List (List ℕ)) → f ≢ [] → (rest : List (List ℕ)) × (f ≡ next_address f ∷ rest)
next_and_rest [] h = absurd (h refl)
next_and_rest (x ∷ xs) h = (xs, refl)

-- an address isn't left of what lies at or below it
not_left-within : (a c : List ℕ) → is_within a c ≡ true → is_left a c ≡ false
not_left-within a c h = ap (is_left a) (within_begins a c h) ∙ not_left-below a (drop (length a) c)

not_left-itself : (a : List ℕ) → is_left a a ≡ false
not_left-itself a = ap (is_left a) (sym (append-nil a)) ∙ not_left-below a []

-- what lies right of an address doesn't lie at or below it
pub left-outside : (a c : List ℕ) → is_left a c ≡ true → is_within a c ≡ false
left-outside a c h =
    elim (is_within a c) as (λ b. is_within a c ≡ b → b ≡ false) [
      | true ↦ λ e. absurd (false≢true (sym (not_left-within a c e) ∙ h))
      | false ↦ λ e. refl
    ] refl

-- what lies below is right of it too
pub left-child : (a p : List ℕ) (i : ℕ) → is_left a p ≡ true → is_left a (p ++ i ∷ []) ≡ true
left-child a p i h = subst (λ z. is_left z (p ++ i ∷ []) ≡ true) (append-nil a) (left-below a p [] (i ∷ []) h)

-- the first of a frontier isn't right of itself, so it doesn't count where another address is asked for
first_apart : (a c : List ℕ) (rest : List (List ℕ)) → is_left a c ≡ true → times c (a ∷ rest) ≡ times c rest
first_apart a c rest h =
    elim (is_same c a) as (λ b. is_same c a ≡ b → cond b 1 0 + times c rest ≡ times c rest) [
      | true ↦ λ e. absurd (false≢true (sym (not_left-itself a) ∙ ap (is_left a) (same c a e) ∙ h))
      | false ↦ λ e. omega arith
    ] refl

module _ {V : Type 0} where
  -- what is gone at an address isn't right of it
  pub none_gone : (a c : List ℕ) (gone : List (Addressed V)) → All (λ x. is_within a x.at ≡ true) gone → is_left a c ≡ true → times c (addresses_of gone) ≡ 0
  none_gone a c [] all h = refl
  none_gone a c (x ∷ xs) all h =
      ⊎_elim
      (λ none. none)
      (λ (some : 0 < times c (x.at ∷ addresses_of xs)).
      ⊎_elim
      (λ (e : x.at ≡ c). absurd (false≢true (sym (not_left-within a x.at (All-head (λ (y : Addressed V). is_within a y.at ≡ true) x xs all)) ∙ ap (is_left a) e ∙ h)))
      (λ (m : 0 < times c (addresses_of xs)). absurd (omega (arith, m, none_gone a c xs (All-tail (λ (y : Addressed V). is_within a y.at ≡ true) x xs all) h)))
      (among_cases c x.at (addresses_of xs) some))
      (eq-zero-or-pos (times c (x.at ∷ addresses_of xs)))

  pub left_and_gone : (a c : List ℕ) (old new : List (Addressed V)) → (l : Leaves a old new) → times c (addresses_of old) ≡ times c (addresses_of l.gone) + times c (addresses_of new)
  left_and_gone a c old new l =
      sym (times-addresses_of c old (l.gone ++ new) l.leave)
      ∙ ap (times c) (map-append (λ (x : Addressed V). x.at) l.gone new)
      ∙ times-append c (addresses_of l.gone) (addresses_of new)

  -- what lies right of the address stays
  stays : (a c : List ℕ) (old new : List (Addressed V)) → (l : Leaves a old new) → is_left a c ≡ true → times c (addresses_of new) ≡ times c (addresses_of old)
  stays a c old new l h = omega (arith, left_and_gone a c old new l, none_gone a c l.gone l.within h)

  child_addresses-append : (c : List ℕ) (xs ys : List (Addressed V)) → times c (child_addresses (xs ++ ys)) ≡ times c (child_addresses xs) + times c (child_addresses ys)
  child_addresses-append c [] ys = omega arith
  child_addresses-append c (x ∷ xs) ys =
      omega (
        arith,
        times-append c (children_from 0 x.at x.child_count) (child_addresses (xs ++ ys)),
        times-append c (children_from 0 x.at x.child_count) (child_addresses xs),
        child_addresses-append c xs ys,
      )

  -- nor are the children of what is gone right of it
  none_gone_below : (a c : List ℕ) (gone : List (Addressed V)) → All (λ x. is_within a x.at ≡ true) gone → is_left a c ≡ true → times c (child_addresses gone) ≡ 0
  none_gone_below a c [] all h = refl
  none_gone_below a c (x ∷ xs) all h =
      ⊎_elim
      (λ none. none)
      (λ (some : 0 < times c (child_addresses (x ∷ xs))).
      let later = none_gone_below a c xs (All-tail (λ (y : Addressed V). is_within a y.at ≡ true) x xs all) h in
      let mine : 0 < times c (child_addresses (x ∷ [])) = omega (arith, times-append c (children_from 0 x.at x.child_count) (child_addresses xs), times-append c (children_from 0 x.at x.child_count) [], later, some) in
      let p : HasParent c (x ∷ []) = has_parent c (x ∷ []) mine in
      let at : p.parent.at ≡ x.at = ⊎_elim (λ (e : x.at ≡ p.parent.at). sym e) (λ (none : 0 < times p.parent.at []). absurd (omega (arith, none))) (among_cases p.parent.at x.at [] (times-contains (x ∷ []) p.parent p.there)) in
      let begins : x.at ≡ a ++ drop (length a) x.at = within_begins a x.at (All-head (λ (y : Addressed V). is_within a y.at ≡ true) x xs all) in
      let is : c ≡ a ++ (drop (length a) x.at ++ p.index ∷ []) = p.is ∙ ap (λ z. z ++ p.index ∷ []) (at ∙ begins) ∙ append_assoc a (drop (length a) x.at) (p.index ∷ []) in
      absurd (false≢true (sym (not_left-below a (drop (length a) x.at ++ p.index ∷ [])) ∙ ap (is_left a) (sym is) ∙ h)))
      (eq-zero-or-pos (times c (child_addresses (x ∷ xs))))

module _ {T R : Type 0} (b : Board T R) (w : IsWhole b) (a : List ℕ) (rest : List (List ℕ)) (front : b.frontier ≡ a ∷ rest) where
  sides : IsLeftOf a rest × IsApart rest
  sides = subst IsApart front w.apart

  -- What is on the board lies at or below the next address, or right of it.
  pub right_of : (c : List ℕ) → 0 < times c (on_board b) → is_within a c ≡ false → is_left a c ≡ true
  right_of c there outside =
      let r : IsBelow b c = is_below b w c there in
      ⊎_elim
      (λ (e : a ≡ r.above). absurd (false≢true (sym outside ∙ ap (is_within a) (r.is ∙ ap (λ z. z ++ r.rest) (sym e)) ∙ begins_within a r.rest)))
      (λ (m : 0 < times r.above rest).
      let beside : is_left a r.above ≡ true = left_of-among a r.above rest sides.0 m in
      ap (is_left a) r.is ∙ subst (λ z. is_left z (r.above ++ r.rest) ≡ true) (append-nil a) (left-below a r.above [] r.rest beside))
      (among_cases r.above a rest (subst (λ f. 0 < times r.above f) front r.there))

  -- Where the first that is left of some items doesn't lie there, none of them does.
  pub all_outside : {V : Type 0} (items : List (Addressed V)) → ((c : List ℕ) → 0 < times c (addresses_of items) → 0 < times c (on_board b)) → (items ≢ [] → BeginsOutside a items) → (c : List ℕ) → 0 < times c (addresses_of items) → is_within a c ≡ false
  all_outside items on stops c there =
      let some : items ≢ [] = λ none. let k : times c (addresses_of items) ≡ 0 = ap (λ z. times c (addresses_of z)) none in omega (arith, k, there) in
      let s = stops some in
      elim (is_within a c) as (λ d. is_within a c ≡ d → d ≡ false) [
        | true ↦ λ e.
            let beside : is_left a s.first ≡ true = right_of s.first (on s.first s.there) s.outside in
            let behind : is_left c s.first ≡ true =
            subst (λ z. is_left z s.first ≡ true) (sym (within_begins a c e)) (subst (λ z. is_left (a ++ drop (length a) c) z ≡ true) (append-nil s.first) (left-below a s.first (drop (length a) c) [] beside)) in
            let is : c ≡ s.first = same_address c s.first (first_among s.first c items s.least there) (left-before c s.first behind) in
            absurd (false≢true (sym (not_left-itself c) ∙ ap (is_left c) is ∙ behind))
        | false ↦ λ e. refl
      ] refl

  module _ (queued : List (Addressed T)) (in_hand : List (List ℕ)) (ready : List (Addressed R)) (q : Leaves a b.queued queued) (h : in_hand ≡ filter (λ c. not (is_within a c)) b.in_hand) (r : Leaves a b.ready ready) where
    abbrev after : Board T R
    after = record b { queued = queued; in_hand = in_hand; ready = ready; frontier = rest }

    in_hand_fewer : (c : List ℕ) → times c in_hand ≤ times c b.in_hand
    in_hand_fewer c =
        elim (not (is_within a c)) as (λ d. times c in_hand ≡ cond d (times c b.in_hand) 0 → times c in_hand ≤ times c b.in_hand) [
          | true ↦ λ e. omega (arith, e)
          | false ↦ λ e. omega (arith, e)
        ] (ap (times c) h ∙ times-filter (λ d. not (is_within a d)) c b.in_hand)

    fewer : (c : List ℕ) → times c (on_board after) ≤ times c (on_board b)
    fewer c = omega (arith, times-on_board c b, times-on_board c after, left_and_gone a c b.queued queued q, left_and_gone a c b.ready ready r, in_hand_fewer c)

    in_hand_outside : (c : List ℕ) → 0 < times c in_hand → is_within a c ≡ false
    in_hand_outside c there =
        elim (is_within a c) as (λ d. times c in_hand ≡ cond (not d) (times c b.in_hand) 0 → d ≡ false) [
          | true ↦ λ e. absurd (omega (arith, e, there))
          | false ↦ λ e. refl
        ] (ap (times c) h ∙ times-filter (λ d. not (is_within a d)) c b.in_hand)

    pub nothing_within : (queued ≢ [] → BeginsOutside a queued) → (ready ≢ [] → BeginsOutside a ready) → (c : List ℕ) → 0 < times c (on_board after) → is_within a c ≡ false
    nothing_within qs rs c there =
        ⊎_elim
        (λ (no_queued : times c (addresses_of queued) ≡ 0).
        ⊎_elim
        (λ (no_hand : times c in_hand ≡ 0).
        all_outside ready (λ d k. omega (arith, k, times-on_board d b, left_and_gone a d b.ready ready r)) rs c (omega (arith, there, no_queued, no_hand, times-on_board c after)))
        (λ (some : 0 < times c in_hand). in_hand_outside c some)
        (eq-zero-or-pos (times c in_hand)))
        (λ (some : 0 < times c (addresses_of queued)). all_outside queued (λ d k. omega (arith, k, times-on_board d b, left_and_gone a d b.queued queued q)) qs c some)
        (eq-zero-or-pos (times c (addresses_of queued)))

    module _ (outside : (c : List ℕ) → 0 < times c (on_board after) → is_within a c ≡ false) where
      in_hand_stays : (c : List ℕ) → is_left a c ≡ true → times c in_hand ≡ times c b.in_hand
      in_hand_stays c beside =
          ap (times c) h ∙ times-filter (λ d. not (is_within a d)) c b.in_hand ∙ ap (λ d. cond (not d) (times c b.in_hand) 0) (left-outside a c beside)

      -- what lies right of the address is as often there as before
      as_often : (c : List ℕ) → is_left a c ≡ true → times c (on_board after) ≡ times c (on_board b)
      as_often c beside =
          omega (arith, times-on_board c b, times-on_board c after, stays a c b.queued queued q beside, stays a c b.ready ready r beside, in_hand_stays c beside)

      -- and nothing else is there
      nothing_else : (c : List ℕ) → is_left a c ≡ false → times c (on_board after) ≡ 0
      nothing_else c other =
          ⊎_elim
          (λ none. none)
          (λ (some : 0 < times c (on_board after)). absurd (false≢true (sym other ∙ right_of c (omega (arith, some, fewer c)) (outside c some))))
          (eq-zero-or-pos (times c (on_board after)))

      no_children : (c : List ℕ) → is_left a c ≡ false → times c (child_addresses ready) ≡ 0
      no_children c other =
          ⊎_elim
          (λ none. none)
          (λ (some : 0 < times c (child_addresses ready)).
          let p : HasParent c ready = has_parent c ready some in
          let there : 0 < times p.parent.at (on_board after) = omega (arith, times-contains ready p.parent p.there, times-on_board p.parent.at after) in
          let beside : is_left a p.parent.at ≡ true = right_of p.parent.at (omega (arith, there, fewer p.parent.at)) (outside p.parent.at there) in
          absurd (false≢true (sym other ∙ ap (is_left a) p.is ∙ left-child a p.parent.at p.index beside)))
          (eq-zero-or-pos (times c (child_addresses ready)))

      not_in_rest : (c : List ℕ) → is_left a c ≡ false → times c rest ≡ 0
      not_in_rest c other =
          ⊎_elim
          (λ none. none)
          (λ (some : 0 < times c rest). absurd (false≢true (sym other ∙ left_of-among a c rest sides.0 some)))
          (eq-zero-or-pos (times c rest))

      children_stay : (c : List ℕ) → is_left a c ≡ true → times c (child_addresses ready) ≡ times c (child_addresses b.ready)
      children_stay c beside =
          omega (arith, child_addresses-permutation c b.ready (r.gone ++ ready) r.leave, child_addresses-append c r.gone ready, none_gone_below a c r.gone r.within beside)

      each_after : (c : List ℕ) → times c (on_board after) ≡ times c rest + times c (child_addresses ready)
      each_after c =
          elim (is_left a c) as (λ d. is_left a c ≡ d → times c (on_board after) ≡ times c rest + times c (child_addresses ready)) [
            | true ↦ λ e. omega (arith, as_often c e, w.each c, ap (times c) front, first_apart a c rest e, children_stay c e)
            | false ↦ λ e. omega (arith, nothing_else c e, no_children c e, not_in_rest c e)
          ] refl

      pub whole_skipped : IsWhole after
      whole_skipped = record {
        each = each_after;
        once = λ c. omega (arith, fewer c, w.once c);
        apart = sides.1;
        unread = All-right (λ x. x.child_count ≡ 0) q.gone queued (All-permutation (λ x. x.child_count ≡ 0) b.queued (q.gone ++ queued) q.leave w.unread);
      }

module _ {T R : Type 0} where
  -- A board whose next address is passed so, and what still holds of it.
  pub record Skipped (b n : Board T R) : Type 0 where
    pub whole : IsWhole n
    pub skips : SkipsFirst b n

  pub skipped : (b : Board T R) → IsWhole b → b.frontier ≢ [] → (a : List ℕ) → a ≡ next_address b.frontier → (queued : List (Addressed T)) (in_hand : List (List ℕ)) (ready : List (Addressed R)) (frontier : List (List ℕ))
      → RemovesWithin a b.queued queued → in_hand ≡ filter (λ c. not (is_within a c)) b.in_hand → RemovesWithin a b.ready ready → frontier ≡ passed b.frontier 0
      → Skipped b (record b { queued = queued; in_hand = in_hand; ready = ready; frontier = frontier })
  skipped b w some a is queued in_hand ready frontier q h r passes =
      let f = next_and_rest b.frontier some in
      let front : b.frontier ≡ a ∷ f.0 = f.1 ∙ ap (λ z. z ∷ f.0) (sym is) in
      let to : frontier ≡ f.0 = passes ∙ ap (λ g. passed g 0) f.1 in
      let outside = nothing_within b w a f.0 front queued in_hand ready q.leaves h r.leaves q.stops r.stops in
      record {
        whole = subst (λ g. IsWhole (record b { queued = queued; in_hand = in_hand; ready = ready; frontier = g })) (sym to) (whole_skipped b w a f.0 front queued in_hand ready q.leaves h r.leaves outside);
        skips = record {
          some = some;
          queued = subst (λ z. Leaves z b.queued queued) is q.leaves;
          in_hand = subst (λ z. in_hand ≡ filter (λ c. not (is_within z c)) b.in_hand) is h;
          ready = subst (λ z. Leaves z b.ready ready) is r.leaves;
          outside = λ c there. subst (λ z. is_within z c ≡ false) is (outside c there);
          others = ap (λ g. record b { queued = queued; in_hand = in_hand; ready = ready; frontier = g }) passes;
        };
      }
