-- A rehearsal follows the run of its moves.
use Rattle.std.proofs.Common.{◌≡◌, ◌≢◌, ℕ, zero, suc, ◌+◌, ◌-◌, ◌<◌, ◌≤◌, Bool, true, false, cond, not, ◌&&◌, ◌||◌, ltb, List, [], ◌∷◌, ◌++◌, length, map, set, take, drop, replicate, refl, sym, ap, ◌∙◌, arith, subst, ⊎_elim, ◌⊎◌, Contains, All, append_assoc, Option, Some, None, length-append}
use Rattle.std.proofs.Math.Nat.{eq-zero-or-pos}
use Rattle.std.proofs.Math.Numerals.{add-one}
use Rattle.std.proofs.lemmas.Bool.{false≢true, lt-ltb, eqb-true, ltb-true, or_cases}
use Rattle.std.proofs.lemmas.List.{append-nil, map-append, map-set, drop-map, take-append-drop, take_at}
use Rattle.std.proofs.lemmas.List.Elements.{All-head, All-tail, All-nil, All-cons, All-append, All-weaker, All-contains}
use Rattle.std.proofs.lemmas.List.Sorted.{All-permutation}
use Rattle.std.proofs.lemmas.Option.{slice_get-map}
use Rattle.std.specs.Prelude.{◌==◌}
use Rattle.std.specs.List.{slice_get, find, filter, take-map}
use Rattle.std.specs.List.Sorted.{IsPermutation}
use Rattle.std.specs.Option.{option_map}
use Rattle.jwalk_order.specs.Frontier.{children_from, next_address, passed, roots as root_addresses}
use Rattle.jwalk_order.specs.IndexPath.{is_before}
use Rattle.jwalk_order.specs.Addresses.{times}
use Rattle.jwalk_board.specs.Board.{Board, on_board, IsNew}
use Rattle.jwalk_order.specs.Addressed.{Addressed, addresses_of, child_addresses, numbered, IsFirst}
use Rattle.jwalk_board.specs.Plan.{PlanTree, Falls, forest, node, read, subtree, specs_in_preorder, readings_in_preorder}
use Rattle.jwalk_board.specs.Rehearsal.{Stage, MatchesRun, IsInOrder, Follows, trees}
use Rattle.jwalk_order.specs.Siblings.{parent_address}
use Rattle.jwalk_board.specs.Run.{Run, is_among, is_queued, moved, move, taken_by, take_first, take_by, finish_by, hand_out_if_finished}
use Rattle.jwalk_board.specs.declared.board.moves.Move.{Move}
use Rattle.jwalk_order.proofs.Children.{IsChild, HasParent, has_parent, child_from_times, times_from_child, times-contains, times-child_addresses, addresses_of-numbered}
use Rattle.jwalk_board.proofs.Hands.{in_hands-taken, in_hands-finished, in_hands-none, get_set_cases, get_replicate, Splits, splits, get_past, contains_map, find_first, find_none, times-filter}
use Rattle.jwalk_board.proofs.Left.{not_before-below}
use Rattle.jwalk_board.proofs.Opens.{times-on_board, times-addresses_of, is_below, whole_taken, whole_finished, whole_handed_out, whole_new, times_finished}
use Rattle.jwalk_board.proofs.Preorders.{IsAscending, ascending-cross, ascending-once, unique, contains_first, contains_later, ascends, root_or_child, subtree-is, closed_below, children_there}
use Rattle.jwalk_order.proofs.Sets.{times-append, times-permutation, times-itself, among_cases}
use Rattle.jwalk_board.proofs.Steps.{first_among}

or_true : (b : Bool) → (b || true) ≡ true
or_true true = refl
or_true false = refl

parent_address-child : (a : List ℕ) (i : ℕ) → parent_address (a ++ i ∷ []) ≡ a
parent_address-child a i = take_at a (i ∷ []) (length (a ++ i ∷ []) - 1) (omega (arith, length-append a (i ∷ [])))

-- An address that is in the list at least once is among it.
is_among-some : (a : List ℕ) (xs : List (List ℕ)) → 0 < times a xs → is_among a xs ≡ true
is_among-some a xs h = lt-ltb 0 (times a xs) h

is_among-none : (a : List ℕ) (xs : List (List ℕ)) → times a xs ≡ 0 → is_among a xs ≡ false
is_among-none a xs h = ap (ltb 0) h

no_next : (f : List (List ℕ)) → ((a : List ℕ) → times a f ≡ 0) → f ≡ []
no_next [] h = refl
no_next (x ∷ xs) h = absurd (omega (arith, h x, times-itself x xs))

module _ (S : Type 0) where
  map_replicate : (n : ℕ) → map (option_map (λ (x : Addressed S). x.at)) (replicate n None) ≡ replicate n None
  map_replicate zero = refl
  map_replicate (suc n) = ap (λ z. None ∷ z) (map_replicate n)

module _ {V : Type 0} where
  -- An address that is there has a value.
  value_there : (a : List ℕ) (xs : List (Addressed V)) → 0 < times a (addresses_of xs) → (x : Addressed V) × Contains xs x × (x.at ≡ a)
  value_there a [] h = absurd (omega arith)
  value_there a (x ∷ xs) h =
      ⊎_elim
      (λ (e : x.at ≡ a). (x, contains_first x xs, e))
      (λ (m : 0 < times a (addresses_of xs)). let r = value_there a xs m in (r.0, contains_later x r.0 xs r.1, r.2))
      (among_cases a x.at (addresses_of xs) h)

  none_left : (xs : List (Addressed V)) → addresses_of xs ≡ [] → xs ≡ []
  none_left [] e = refl
  none_left (x ∷ xs) e = absurd (cc)

  some_left : (xs : List (Addressed V)) → xs ≢ [] → (x : Addressed V) × (rest : List (Addressed V)) × (xs ≡ x ∷ rest)
  some_left [] h = absurd (h refl)
  some_left (x ∷ xs) h = (x, xs, refl)

  get_contains : (n : ℕ) (xs : List (Addressed V)) (x : Addressed V) → slice_get xs n ≡ Some x → Contains xs x
  get_contains n [] x e = absurd (cc)
  get_contains zero (y ∷ ys) x e = let d : y ≡ x = cc in subst (Contains (y ∷ ys)) d (contains_first y ys)
  get_contains (suc n) (y ∷ ys) x e = contains_later y x ys (get_contains n ys x e)

module _ {S R : Type 0} (t : PlanTree S R) where
  among_specs : (all queued : List (Addressed S)) → All (λ x. Contains all (node t x.at x.value)) queued → (a : List ℕ) → 0 < times a (addresses_of queued) → 0 < times a (addresses_of all)
  among_specs all queued h a there =
      let x = value_there a queued there in
      subst (λ z. 0 < times z (addresses_of all)) x.2 (times-contains all (node t x.0.at x.0.value) (All-contains (λ (y : Addressed S). Contains all (node t y.at y.value)) queued x.0 h x.1))

  longer : (roots : List S) (a : List ℕ) → 0 < times a (addresses_of (specs_in_preorder t roots)) → 0 < length a
  longer roots a h =
      ⊎_elim
      (λ (k : IsChild a [] 0 (length roots)). let e : length a ≡ 1 = ap length k.3 in omega (arith, e))
      (λ (p : HasParent a (specs_in_preorder t roots)). omega (arith, ap length p.is, length-append p.parent.at (p.index ∷ [])))
      (root_or_child t roots a h)

  trees-append : (xs ys : List (Addressed S)) → trees t (xs ++ ys) ≡ trees t xs ++ trees t ys
  trees-append [] ys = refl
  trees-append (x ∷ xs) ys = ap (λ z. subtree t x.at x.value ++ z) (trees-append xs ys) ∙ sym (append_assoc (subtree t x.at x.value) (trees t xs) (trees t ys))

  trees-numbered : (a : List ℕ) (i : ℕ) (specs : List S) → forest (subtree t) a i specs ≡ trees t (numbered a i specs)
  trees-numbered a i [] = refl
  trees-numbered a i (s ∷ specs) = ap (λ z. subtree t (a ++ i ∷ []) s ++ z) (trees-numbered a (i + 1) specs)

  module _ (falls : Falls t) where
    -- Each address of a frontier is in its subtrees.
    frontier_there : (a : List ℕ) (left : List (Addressed S)) → 0 < times a (addresses_of left) → 0 < times a (addresses_of (trees t left))
    frontier_there a [] h = absurd (omega arith)
    frontier_there a (x ∷ xs) h =
        let both : times a (addresses_of (subtree t x.at x.value ++ trees t xs)) ≡ times a (addresses_of (subtree t x.at x.value)) + times a (addresses_of (trees t xs)) =
        ap (times a) (map-append (λ y. y.at) (subtree t x.at x.value) (trees t xs)) ∙ times-append a (addresses_of (subtree t x.at x.value)) (addresses_of (trees t xs)) in
        ⊎_elim
        (λ (e : x.at ≡ a).
        let here : 0 < times x.at (addresses_of (subtree t x.at x.value)) =
        subst (λ z. 0 < times x.at (addresses_of z)) (sym (subtree-is t falls x.at x.value))
        (let k = times-itself x.at (addresses_of (forest (subtree t) x.at 0 (t.children x.value))) in omega arith) in
        let here' : 0 < times a (addresses_of (subtree t x.at x.value)) = subst (λ z. 0 < times z (addresses_of (subtree t x.at x.value))) e here in omega (arith, both))
        (λ (m : 0 < times a (addresses_of xs)). omega (arith, both, frontier_there a xs m))
        (among_cases a x.at (addresses_of xs) h)

    module _ (roots : List S) (r : Run) (st : Stage S R) (f : Follows t roots r st) where
      -- The preorder is what was handed out, and the subtrees that are left.
      halves : addresses_of (specs_in_preorder t roots) ≡ take r.handed_out (addresses_of (specs_in_preorder t roots)) ++ addresses_of (trees t f.left)
      halves =
          let all = specs_in_preorder t roots in
          sym (take-append-drop r.handed_out (addresses_of all))
          ∙ ap (λ z. take r.handed_out (addresses_of all) ++ z) (drop-map (λ x. x.at) r.handed_out all ∙ ap addresses_of f.left_are)

      not_handed_out : (a : List ℕ) → 0 < times a (on_board st.made.board) → times a (take r.handed_out (addresses_of (specs_in_preorder t roots))) ≡ 0
      not_handed_out a h =
          let front : List (List ℕ) = take r.handed_out (addresses_of (specs_in_preorder t roots)) in
          let b = is_below st.made.board f.whole a h in
          let there : 0 < times b.above (addresses_of (trees t f.left)) = frontier_there b.above f.left (subst (λ z. 0 < times b.above z) (sym f.left_frontier) b.there) in
          ⊎_elim
          (λ none. none)
          (λ (some : 0 < times a front).
          absurd (false≢true
          (sym (ap (λ z. is_before z b.above) b.is ∙ not_before-below b.above b.rest)
          ∙ ascending-cross front (addresses_of (trees t f.left)) (subst IsAscending halves (ascends t roots)) a b.above some there)))
          (eq-zero-or-pos (times a front))

      not_taken : (a : List ℕ) → 0 < times a (addresses_of st.made.board.queued) → times a r.taken ≡ 0
      not_taken a h =
          let b = st.made.board in
          let h' : 0 < times a (on_board b) = omega (arith, times-on_board a b) in
          omega (arith, f.whole.once a, times-on_board a b, f.taken_are a, f.finished a, not_handed_out a h')

      spec_there : (a : List ℕ) → 0 < times a (addresses_of st.made.board.queued) → 0 < times a (addresses_of (specs_in_preorder t roots))
      spec_there a h = among_specs (specs_in_preorder t roots) st.made.board.queued f.specs a h

      queued_from_board : (a : List ℕ) → 0 < times a (addresses_of st.made.board.queued) → is_queued r a ≡ true
      queued_from_board a h =
          let b = st.made.board in
          let h' : 0 < times a (on_board b) = omega (arith, times-on_board a b) in
          let free : is_among a r.taken ≡ false = is_among-none a r.taken (not_taken a h) in
          let reached : ((length a == 1) || is_among (parent_address a) r.finished) ≡ true =
          ⊎_elim
          (λ (none : times a (root_addresses (length roots)) ≡ 0).
          let p : HasParent a f.done = has_parent a f.done (omega (arith, f.each a)) in
          let there : 0 < times (parent_address a) r.finished =
          subst (λ z. 0 < times (parent_address a) z) f.done_are (subst (λ z. 0 < times z (addresses_of f.done)) (sym (ap parent_address p.is ∙ parent_address-child p.parent.at p.index)) (times-contains f.done p.parent p.there)) in
          ap (λ v. (length a == 1) || v) (is_among-some (parent_address a) r.finished there) ∙ or_true (length a == 1))
          (λ (some : 0 < times a (root_addresses (length roots))).
          let k = child_from_times a [] 0 (length roots) some in
          ap (λ z. (length z == 1) || is_among (parent_address a) r.finished) k.3)
          (eq-zero-or-pos (times a (root_addresses (length roots)))) in
          ap (λ v. not v && ((length a == 1) || is_among (parent_address a) r.finished)) free ∙ reached

      reached_there : (a : List ℕ) → 0 < times a (addresses_of (specs_in_preorder t roots)) → ((length a == 1) || is_among (parent_address a) r.finished) ≡ true
          → 0 < times a (root_addresses (length roots)) + times a (child_addresses f.done)
      reached_there a there h =
          let all = specs_in_preorder t roots in
          ⊎_elim
          (λ (k : IsChild a [] 0 (length roots)).
          let r : 0 < times a (root_addresses (length roots)) =
          subst (λ z. 0 < times z (root_addresses (length roots))) (sym k.3) (times_from_child [] 0 (length roots) k.0 k.1 k.2) in omega arith)
          (λ (p : HasParent a all).
          ⊎_elim
          (λ (e : (length a == 1) ≡ true).
          let one : length a ≡ 1 = eqb-true (length a) 1 e in
          let more : 0 < length p.parent.at = longer roots p.parent.at (times-contains all p.parent p.there) in
          absurd (omega (arith, ap length p.is, length-append p.parent.at (p.index ∷ []))))
          (λ (e : is_among (parent_address a) r.finished ≡ true).
          let some : 0 < times (parent_address a) r.finished = ltb-true 0 (times (parent_address a) r.finished) e in
          let some' : 0 < times p.parent.at (addresses_of f.done) =
          subst (λ z. 0 < times z (addresses_of f.done)) (ap parent_address p.is ∙ parent_address-child p.parent.at p.index) (subst (λ z. 0 < times (parent_address a) z) (sym f.done_are) some) in
          let q = value_there p.parent.at f.done some' in
          let same : q.0 ≡ p.parent = unique all (ascends t roots) q.0 p.parent (All-contains (Contains all) f.done q.0 f.done_there q.1) p.there q.2 in
          let child : 0 < times a (child_addresses f.done) =
          subst (λ z. 0 < times z (child_addresses f.done)) (sym p.is) (times-child_addresses f.done p.parent p.index (subst (Contains f.done) same q.1) p.below) in omega arith)
          (or_cases (length a == 1) (is_among (parent_address a) r.finished) h))
          (root_or_child t roots a there)

      -- What is queued in the run is queued on the board.
      board_from_queued : (a : List ℕ) → 0 < times a (addresses_of (specs_in_preorder t roots)) → is_queued r a ≡ true → 0 < times a (addresses_of st.made.board.queued)
      board_from_queued a there h =
          let b = st.made.board in
          ⊎_elim
          (λ (free : times a r.taken ≡ 0).
          let reached : ((length a == 1) || is_among (parent_address a) r.finished) ≡ true =
          sym (ap (λ v. not v && ((length a == 1) || is_among (parent_address a) r.finished)) (is_among-none a r.taken free)) ∙ h in
          let more : 0 < times a (root_addresses (length roots)) + times a (child_addresses f.done) = reached_there a there reached in
          omega (arith, f.each a, times-on_board a b, f.taken_are a, f.finished a))
          (λ (some : 0 < times a r.taken).
          absurd (false≢true (ap (λ v. not v && ((length a == 1) || is_among (parent_address a) r.finished)) (sym (is_among-some a r.taken some)) ∙ h)))
          (eq-zero-or-pos (times a r.taken))

      -- ---- taking

      find_least : (x : Addressed S) → 0 < times x.at (addresses_of st.made.board.queued) → IsFirst x.at st.made.board.queued → find (is_queued r) (addresses_of (specs_in_preorder t roots)) ≡ Some x.at
      find_least x there first =
          find_first (is_queued r) (addresses_of (specs_in_preorder t roots)) x.at (ascends t roots) (queued_from_board x.at there) (spec_there x.at there)
          (λ y m q. first_among x.at y st.made.board.queued first (board_from_queued y m q))

      find_nothing : st.made.board.queued ≡ [] → find (is_queued r) (addresses_of (specs_in_preorder t roots)) ≡ None
      find_nothing empty =
          find_none (is_queued r) (addresses_of (specs_in_preorder t roots))
          (λ y m.
          elim (is_queued r y) as (λ b. is_queued r y ≡ b → b ≡ false) [
            | true ↦ λ e.
                let k : 0 < times y (addresses_of st.made.board.queued) = board_from_queued y m e in
                let none : times y (addresses_of st.made.board.queued) ≡ 0 = ap (λ z. times y (addresses_of z)) empty in
                absurd (omega arith)
            | false ↦ λ e. refl
          ] refl)

      hand_of_run : (k : ℕ) (h : Option (Addressed S)) → slice_get st.hands k ≡ Some h → slice_get r.hands k ≡ Some (option_map (λ x. x.at) h)
      hand_of_run k h e =
          ap (λ z. slice_get z k) (sym f.hands) ∙ slice_get-map (option_map (λ x. x.at)) st.hands k ∙ ap (option_map (option_map (λ x. x.at))) e

      pub busy_take : (k : ℕ) (x : Addressed S) → slice_get st.hands k ≡ Some (Some x) → take_by (addresses_of (specs_in_preorder t roots)) r k (slice_get r.hands k) ≡ r
      busy_take k x e = ap (take_by (addresses_of (specs_in_preorder t roots)) r k) (hand_of_run k (Some x) e)

      pub free_finish : (k : ℕ) → slice_get st.hands k ≡ Some None → finish_by r k (slice_get r.hands k) ≡ r
      free_finish k e = ap (finish_by r k) (hand_of_run k None e)

      pub skips_take : (k : ℕ) → slice_get st.hands k ≡ Some None → st.made.board.queued ≡ [] → take_by (addresses_of (specs_in_preorder t roots)) r k (slice_get r.hands k) ≡ r
      skips_take k free empty =
          ap (take_by (addresses_of (specs_in_preorder t roots)) r k) (hand_of_run k None free) ∙ ap (take_first r k) (find_nothing empty)

      pub follows_take : (k : ℕ) → slice_get st.hands k ≡ Some None → (x : Addressed S) (queued : List (Addressed S)) (in_hand : List (List ℕ))
          → IsPermutation st.made.board.queued (x ∷ queued) → IsFirst x.at st.made.board.queued → IsPermutation (x.at ∷ st.made.board.in_hand) in_hand
          → Follows t roots (take_by (addresses_of (specs_in_preorder t roots)) r k (slice_get r.hands k))
          (record {
            hands = set st.hands k (Some x);
            made = record { handed_out = st.made.handed_out; taken = st.made.taken ++ x.at ∷ []; board = record st.made.board { queued = queued; in_hand = in_hand } };
          })
      follows_take k free x queued in_hand q first h =
          let b = st.made.board in
          let all = specs_in_preorder t roots in
          let P : Addressed S → Type 0 = λ y. Contains all (node t y.at y.value) in
          let n : Board S R = record b { queued = queued; in_hand = in_hand } in
          let there : 0 < times x.at (addresses_of b.queued) = omega (arith, times-addresses_of x.at b.queued (x ∷ queued) q, times-itself x.at (addresses_of queued)) in
          let run : take_by (addresses_of all) r k (slice_get r.hands k) ≡ taken_by r k x.at =
          ap (take_by (addresses_of all) r k) (hand_of_run k None free) ∙ ap (take_first r k) (find_least x there first) in
          let specs : All P (x ∷ queued) = All-permutation P b.queued (x ∷ queued) q f.specs in
          let same : (a : List ℕ) → times a (on_board n) ≡ times a (on_board b) = λ a.
          omega (arith, times-on_board a n, times-on_board a b, times-addresses_of a b.queued (x ∷ queued) q, times-permutation a (x.at ∷ b.in_hand) in_hand h) in
          let result : Follows t roots (taken_by r k x.at) (record {
            hands = set st.hands k (Some x);
            made = record { handed_out = st.made.handed_out; taken = st.made.taken ++ x.at ∷ []; board = n };
          }) = record {
            whole = whole_taken b x queued in_hand f.whole q h;
            running = f.running;
            taken = ap (λ z. z ++ x.at ∷ []) f.taken;
            hands = map-set (option_map (λ y. y.at)) st.hands k (Some x) ∙ ap (λ z. set z k (Some x.at)) f.hands;
            held_specs = λ j y e.
                ⊎_elim
                (λ (d : Some x ≡ Some y). let d' : x ≡ y = cc in subst P d' (All-head P x queued specs))
                (λ (d : slice_get st.hands j ≡ Some (Some y)). f.held_specs j y d)
                (get_set_cases st.hands k j (Some x) (Some y) e);
            in_hand = λ a. omega (arith, times-permutation a (x.at ∷ b.in_hand) in_hand h, f.in_hand a, in_hands-taken a x.at r.hands k (hand_of_run k None free));
            specs = All-tail P x queued specs;
            readings = f.readings;
            done = f.done;
            done_there = f.done_there;
            done_are = f.done_are;
            each = λ a. omega (arith, same a, f.each a);
            finished = f.finished;
            taken_are = λ a. omega (arith, times-append a r.taken (x.at ∷ []), f.taken_are a, times-permutation a (x.at ∷ b.in_hand) in_hand h);
            handed_out = f.handed_out;
            left = f.left;
            left_are = f.left_are;
            left_frontier = f.left_frontier;
          } in
          subst (λ z. Follows t roots z (record {
            hands = set st.hands k (Some x);
            made = record { handed_out = st.made.handed_out; taken = st.made.taken ++ x.at ∷ []; board = n };
          })) (sym run) result

      -- ---- finishing

      pub follows_finish : (k : ℕ) (x : Addressed S) → slice_get st.hands k ≡ Some (Some x) → (queued : List (Addressed S)) (in_hand : List (List ℕ)) (ready : List (Addressed R))
          → IsPermutation st.made.board.in_hand (x.at ∷ in_hand) → IsPermutation (read t (node t x.at x.value) ∷ st.made.board.ready) ready
          → IsPermutation (numbered x.at 0 (t.children x.value) ++ st.made.board.queued) queued
          → Follows t roots (finish_by r k (slice_get r.hands k))
          (record {
            hands = set st.hands k None;
            made = record { handed_out = st.made.handed_out; taken = st.made.taken; board = record st.made.board { queued = queued; in_hand = in_hand; ready = ready } };
          })
      follows_finish k x holds queued in_hand ready h rd q =
          let b = st.made.board in
          let all = specs_in_preorder t roots in
          let P : Addressed S → Type 0 = λ y. Contains all (node t y.at y.value) in
          let Q : Addressed R → Type 0 = λ y. (z : Addressed S) × Contains all z × (y ≡ read t z) in
          let y : Addressed R = read t (node t x.at x.value) in
          let specs : List S = t.children x.value in
          let n : Board S R = record b { queued = queued; in_hand = in_hand; ready = ready } in
          let there : Contains all (node t x.at x.value) = f.held_specs k x holds in
          let run : finish_by r k (slice_get r.hands k) ≡ record r { hands = set r.hands k None; finished = x.at ∷ r.finished } =
          ap (finish_by r k) (hand_of_run k (Some x) holds) in
          let more : (a : List ℕ) → times a (on_board n) ≡ times a (children_from 0 x.at (length specs)) + times a (on_board b) = times_finished b y specs queued in_hand ready refl h rd q in
          let result : Follows t roots (record r { hands = set r.hands k None; finished = x.at ∷ r.finished }) (record {
            hands = set st.hands k None;
            made = record { handed_out = st.made.handed_out; taken = st.made.taken; board = n };
          }) = record {
            whole = whole_finished b y specs queued in_hand ready f.whole refl h rd q;
            running = f.running;
            taken = f.taken;
            hands = map-set (option_map (λ z. z.at)) st.hands k None ∙ ap (λ z. set z k None) f.hands;
            held_specs = λ j z e.
                ⊎_elim
                (λ (d : ◌≡◌ {A = Option (Addressed S)} None (Some z)). absurd (cc))
                (λ (d : slice_get st.hands j ≡ Some (Some z)). f.held_specs j z d)
                (get_set_cases st.hands k j None (Some z) e);
            in_hand = λ a. omega (arith, times-permutation a b.in_hand (x.at ∷ in_hand) h, f.in_hand a, in_hands-finished a x.at r.hands k (hand_of_run k (Some x) holds));
            specs = All-permutation P (numbered x.at 0 specs ++ b.queued) queued q
                (All-append P (numbered x.at 0 specs) b.queued
                (All-weaker (λ z. Contains (forest (subtree t) x.at 0 specs) (node t z.at z.value)) P (λ z m. closed_below t falls roots (node t x.at x.value) there (node t z.at z.value) m)
                (numbered x.at 0 specs) (children_there t falls x.at 0 specs)) f.specs);
            readings = All-permutation Q (y ∷ b.ready) ready rd (All-cons Q y b.ready (node t x.at x.value, there, refl) f.readings);
            done = node t x.at x.value ∷ f.done;
            done_there = All-cons (Contains all) (node t x.at x.value) f.done there f.done_there;
            done_are = ap (λ z. x.at ∷ z) f.done_are;
            each = λ a. omega (arith, more a, f.each a, times-append a (children_from 0 x.at (length specs)) (child_addresses f.done));
            finished = λ a. omega (arith, times-addresses_of a (y ∷ b.ready) ready rd, f.finished a);
            taken_are = λ a. omega (arith, f.taken_are a, times-permutation a b.in_hand (x.at ∷ in_hand) h);
            handed_out = f.handed_out;
            left = f.left;
            left_are = f.left_are;
            left_frontier = f.left_frontier;
          } in
          subst (λ z. Follows t roots z (record {
            hands = set st.hands k None;
            made = record { handed_out = st.made.handed_out; taken = st.made.taken; board = n };
          })) (sym run) result

      -- ---- handing out

      at_end : st.made.board.frontier ≡ [] → f.left ≡ []
      at_end e = none_left f.left (f.left_frontier ∙ e)

      pub skips_done : st.made.board.frontier ≡ [] → hand_out_if_finished r (slice_get (addresses_of (specs_in_preorder t roots)) r.handed_out) ≡ r
      skips_done e =
          let all = specs_in_preorder t roots in
          ap (hand_out_if_finished r)
          (get_past r.handed_out (addresses_of all) (drop-map (λ x. x.at) r.handed_out all ∙ ap addresses_of (f.left_are ∙ ap (trees t) (at_end e))))

      -- the next specification, and what comes after it
      pub record Next : Type 0 where
        pub item : Addressed S
        pub others : List (Addressed S)
        pub first : f.left ≡ item ∷ others
        pub is_next : item.at ≡ next_address st.made.board.frontier
        pub split : Splits r.handed_out (specs_in_preorder t roots) (node t item.at item.value) (forest (subtree t) item.at 0 (t.children item.value) ++ trees t others)

      next : st.made.board.frontier ≢ [] → Next
      next some =
          let l = some_left f.left (λ e. some (sym f.left_frontier ∙ ap addresses_of e)) in
          let rest : List (Addressed S) = forest (subtree t) l.0.at 0 (t.children l.0.value) ++ trees t l.1 in
          let e : drop r.handed_out (specs_in_preorder t roots) ≡ node t l.0.at l.0.value ∷ rest =
          f.left_are ∙ ap (trees t) l.2 ∙ ap (λ z. z ++ trees t l.1) (subtree-is t falls l.0.at l.0.value) in
          let n : Next = record {
            item = l.0;
            others = l.1;
            first = l.2;
            is_next = ap next_address (sym (ap addresses_of l.2) ∙ f.left_frontier);
            split = splits r.handed_out (specs_in_preorder t roots) (node t l.0.at l.0.value) rest e;
          } in n

      next_of_run : (n : Next) → slice_get (addresses_of (specs_in_preorder t roots)) r.handed_out ≡ Some n.item.at
      next_of_run n = slice_get-map (λ x. x.at) (specs_in_preorder t roots) r.handed_out ∙ ap (option_map (λ x. x.at)) n.split.at

      pub skips_not_ready : st.made.board.frontier ≢ []
          → (0 < times (next_address st.made.board.frontier) (addresses_of st.made.board.queued)) ⊎ (0 < times (next_address st.made.board.frontier) st.made.board.in_hand)
          → hand_out_if_finished r (slice_get (addresses_of (specs_in_preorder t roots)) r.handed_out) ≡ r
      skips_not_ready some waits =
          let b = st.made.board in
          let n = next some in
          let a : List ℕ = next_address b.frontier in
          let there : 0 < times a (addresses_of b.queued) + times a b.in_hand = ⊎_elim (λ (m : 0 < times a (addresses_of b.queued)). omega arith) (λ (m : 0 < times a b.in_hand). omega arith) waits in
          let h : 0 < times a (on_board b) = omega (arith, times-on_board a b) in
          let none : times a r.finished ≡ 0 = omega (arith, f.finished a, f.whole.once a, times-on_board a b, not_handed_out a h) in
          ap (hand_out_if_finished r) (next_of_run n ∙ ap Some n.is_next) ∙ ap (λ v. cond v (record r { handed_out = r.handed_out + 1 }) r) (is_among-none a r.finished none)

      pub follows_hand_out : st.made.board.frontier ≢ [] → (y : Addressed R) (ready : List (Addressed R)) → y.at ≡ next_address st.made.board.frontier → IsPermutation st.made.board.ready (y ∷ ready)
          → Follows t roots (hand_out_if_finished r (slice_get (addresses_of (specs_in_preorder t roots)) r.handed_out))
          (record {
            hands = st.hands;
            made = record {
              handed_out = st.made.handed_out ++ y ∷ [];
              taken = st.made.taken;
              board = record st.made.board { ready = ready; frontier = passed st.made.board.frontier y.child_count };
            };
          })
      follows_hand_out some y ready y-is rd =
          let b = st.made.board in
          let all = specs_in_preorder t roots in
          let Q : Addressed R → Type 0 = λ y. (z : Addressed S) × Contains all z × (y ≡ read t z) in
          let n = next some in
          let x : Addressed S = node t n.item.at n.item.value in
          let specs : List S = t.children n.item.value in
          let x-there : Contains all x = get_contains r.handed_out all x n.split.at in
          let readings : All Q (y ∷ ready) = All-permutation Q b.ready (y ∷ ready) rd f.readings in
          let z = All-head Q y ready readings in
          let z-is : z.0 ≡ x = unique all (ascends t roots) z.0 x z.1 x-there (ap (λ w. w.at) (sym z.2) ∙ y-is ∙ sym n.is_next) in
          let y-read : y ≡ read t x = z.2 ∙ ap (read t) z-is in
          let y-at : y.at ≡ x.at = ap (λ w. w.at) y-read in
          let was_ready : 0 < times y.at (addresses_of b.ready) = omega (arith, times-addresses_of y.at b.ready (y ∷ ready) rd, times-itself y.at (addresses_of ready)) in
          let was : 0 < times x.at r.finished = subst (λ w. 0 < times w r.finished) y-at (omega (arith, f.finished y.at)) in
          let run : hand_out_if_finished r (slice_get (addresses_of all) r.handed_out) ≡ record r { handed_out = r.handed_out + 1 } =
          ap (hand_out_if_finished r) (next_of_run n) ∙ ap (λ v. cond v (record r { handed_out = r.handed_out + 1 }) r) (is_among-some x.at r.finished was) in
          let frontier : List (List ℕ) = passed b.frontier y.child_count in
          let m : Board S R = record b { ready = ready; frontier = frontier } in
          let front : b.frontier ≡ x.at ∷ addresses_of n.others = sym f.left_frontier ∙ ap addresses_of n.first in
          let taken : take (r.handed_out + 1) all ≡ take r.handed_out all ++ x ∷ [] = ap (λ k. take k all) (add-one r.handed_out) ∙ n.split.front in
          let more : (a : List ℕ) → times a (take (r.handed_out + 1) (addresses_of all)) ≡ times a (take r.handed_out (addresses_of all)) + times a (x.at ∷ []) = λ a.
          ap (times a) (take-map (λ w. w.at) (r.handed_out + 1) all ∙ ap addresses_of taken ∙ map-append (λ w. w.at) (take r.handed_out all) (x ∷ []) ∙ ap (λ w. w ++ x.at ∷ []) (sym (take-map (λ w. w.at) r.handed_out all)))
          ∙ times-append a (take r.handed_out (addresses_of all)) (x.at ∷ []) in
          let fewer : (a : List ℕ) → times a (addresses_of b.ready) ≡ times a (x.at ∷ []) + times a (addresses_of ready) = λ a.
          omega (arith, times-addresses_of a b.ready (y ∷ ready) rd, ap (λ w. times a (w ∷ [])) y-at) in
          let result : Follows t roots (record r { handed_out = r.handed_out + 1 }) (record {
            hands = st.hands;
            made = record { handed_out = st.made.handed_out ++ y ∷ []; taken = st.made.taken; board = m };
          }) = record {
            whole = whole_handed_out b y ready frontier (addresses_of n.others) f.whole (front ∙ ap (λ w. w ∷ addresses_of n.others) (sym y-at)) refl rd;
            running = f.running;
            taken = f.taken;
            hands = f.hands;
            held_specs = f.held_specs;
            in_hand = f.in_hand;
            specs = f.specs;
            readings = All-tail Q y ready readings;
            done = f.done;
            done_there = f.done_there;
            done_are = f.done_are;
            each = λ a. omega (arith, f.each a, more a, fewer a, times-on_board a m, times-on_board a b);
            finished = λ a. omega (arith, f.finished a, more a, fewer a);
            taken_are = f.taken_are;
            handed_out = ap (λ w. w ++ y ∷ []) f.handed_out ∙ ap (λ w. map (read t) (take r.handed_out all) ++ w ∷ []) y-read ∙ sym (ap (map (read t)) taken ∙ map-append (read t) (take r.handed_out all) (x ∷ []));
            left = numbered x.at 0 specs ++ n.others;
            left_are = ap (λ k. drop k all) (add-one r.handed_out) ∙ n.split.rest ∙ ap (λ w. w ++ trees t n.others) (trees-numbered x.at 0 specs) ∙ sym (trees-append (numbered x.at 0 specs) n.others);
            left_frontier = map-append (λ w. w.at) (numbered x.at 0 specs) n.others ∙ ap (λ w. w ++ addresses_of n.others) (addresses_of-numbered x.at 0 specs)
                ∙ sym (ap (λ w. passed w y.child_count) front ∙ ap (λ w. children_from 0 x.at w ++ addresses_of n.others) (ap (λ w. w.child_count) y-read));
          } in
          subst (λ w. Follows t roots w (record {
            hands = st.hands;
            made = record { handed_out = st.made.handed_out ++ y ∷ []; taken = st.made.taken; board = m };
          })) (sym run) result

      -- ---- what is returned

      pub matches_run : MatchesRun t roots r st.made
      matches_run =
          let b = st.made.board in
          let all = specs_in_preorder t roots in
          record {
            handed_out = f.handed_out ∙ sym (take-map (read t) r.handed_out all);
            taken = f.taken;
            queued = λ a.
                let e = times-filter (is_queued r) a (addresses_of all) in
                elim (is_queued r a) as (λ v. is_queued r a ≡ v → times a (filter (is_queued r) (addresses_of all)) ≡ cond v (times a (addresses_of all)) 0 → times a (addresses_of b.queued) ≡ times a (filter (is_queued r) (addresses_of all))) [
                  | true ↦ λ q k.
                      ⊎_elim
                      (λ (none : times a (addresses_of all) ≡ 0).
                      ⊎_elim
                      (λ (free : times a (addresses_of b.queued) ≡ 0). omega arith)
                      (λ (some : 0 < times a (addresses_of b.queued)). absurd (let there : 0 < times a (addresses_of all) = spec_there a some in omega arith))
                      (eq-zero-or-pos (times a (addresses_of b.queued))))
                      (λ (some : 0 < times a (addresses_of all)).
                      let here : 0 < times a (addresses_of b.queued) = board_from_queued a some q in
                      omega (arith, ascending-once a (addresses_of all) (ascends t roots), f.whole.once a, times-on_board a b))
                      (eq-zero-or-pos (times a (addresses_of all)))
                  | false ↦ λ q k.
                      ⊎_elim
                      (λ (free : times a (addresses_of b.queued) ≡ 0). omega arith)
                      (λ (some : 0 < times a (addresses_of b.queued)). absurd (false≢true (sym q ∙ queued_from_board a some)))
                      (eq-zero-or-pos (times a (addresses_of b.queued)))
                ] refl e;
            in_hand = f.in_hand;
            ready = f.finished;
            running = f.running;
            specs = f.specs;
            readings = All-weaker (λ y. (x : Addressed S) × Contains all x × (y ≡ read t x)) (Contains (readings_in_preorder t roots))
                (λ y h. subst (Contains (readings_in_preorder t roots)) (sym h.2) (contains_map (read t) all h.0 h.1)) b.ready f.readings;
          }

      at_most_there : (a : List ℕ) → times a (take r.handed_out (addresses_of (specs_in_preorder t roots))) ≤ 1
      at_most_there a =
          let front : List (List ℕ) = take r.handed_out (addresses_of (specs_in_preorder t roots)) in
          omega (arith, ap (times a) halves, times-append a front (addresses_of (trees t f.left)), ascending-once a (addresses_of (specs_in_preorder t roots)) (ascends t roots))

      taken_once : (a : List ℕ) → times a r.taken ≤ 1
      taken_once a =
          let b = st.made.board in
          ⊎_elim
          (λ (none : times a (on_board b) ≡ 0). omega (arith, f.taken_are a, f.finished a, times-on_board a b, at_most_there a))
          (λ (some : 0 < times a (on_board b)). omega (arith, f.taken_are a, f.finished a, times-on_board a b, f.whole.once a, not_handed_out a some))
          (eq-zero-or-pos (times a (on_board b)))

      nothing_left : st.made.board.queued ≡ [] → st.made.board.in_hand ≡ [] → st.made.board.ready ≡ [] → st.made.board.frontier ≡ []
      nothing_left q h d =
          let b = st.made.board in
          no_next b.frontier
          (λ a.
          let none-q : times a (addresses_of b.queued) ≡ 0 = ap (λ z. times a (addresses_of z)) q in
          let none-h : times a b.in_hand ≡ 0 = ap (times a) h in
          let none-d : times a (addresses_of b.ready) ≡ 0 = ap (λ z. times a (addresses_of z)) d in
          omega (arith, f.whole.each a, times-on_board a b))

      pub in_order : IsInOrder (readings_in_preorder t roots) st.made
      in_order =
          let all = specs_in_preorder t roots in
          record {
            count = r.handed_out;
            beginning = f.handed_out ∙ sym (take-map (read t) r.handed_out all);
            once = λ a. omega (arith, ap (times a) f.taken, taken_once a);
            whole = λ q h d.
                let none : drop r.handed_out all ≡ [] = f.left_are ∙ ap (trees t) (at_end (nothing_left q h d)) in
                f.handed_out ∙ ap (map (read t)) (sym (append-nil (take r.handed_out all)) ∙ ap (λ z. take r.handed_out all ++ z) (sym none) ∙ take-append-drop r.handed_out all);
          }

-- ---- the start

module _ {S R : Type 0} (t : PlanTree S R) (roots : List S) where
  pub follows_start : (falls : Falls t) (n : ℕ) (b : Board S R) → IsNew roots b
      → Follows t roots (record { taken = []; hands = replicate n None; finished = []; handed_out = 0 }) (record { hands = replicate n None; made = record { handed_out = []; taken = []; board = b } })
  follows_start falls n b new =
      let all = specs_in_preorder t roots in
      let P : Addressed S → Type 0 = λ y. Contains all (node t y.at y.value) in
      let none-h : (a : List ℕ) → times a b.in_hand ≡ 0 = λ a. ap (times a) new.in_hand in
      let none-d : (a : List ℕ) → times a (addresses_of b.ready) ≡ 0 = λ a. ap (λ z. times a (addresses_of z)) new.ready in
      record {
        whole = whole_new roots b new;
        running = new.running;
        taken = refl;
        hands = map_replicate S n;
        held_specs = λ k x e. absurd (let d : ◌≡◌ {A = Option (Addressed S)} (Some x) None = get_replicate n k None (Some x) e in cc);
        in_hand = λ a. omega (arith, none-h a, ap (times a) (in_hands-none n));
        specs = All-permutation P (numbered [] 0 roots) b.queued new.queued (children_there t falls [] 0 roots);
        readings = subst (All (λ y. (x : Addressed S) × Contains all x × (y ≡ read t x))) (sym new.ready) (All-nil (λ y. (x : Addressed S) × Contains all x × (y ≡ read t x)));
        done = [];
        done_there = All-nil (Contains all);
        done_are = refl;
        each = λ a. omega (arith, times-on_board a b, none-h a, none-d a, times-addresses_of a (numbered [] 0 roots) b.queued new.queued, ap (times a) (addresses_of-numbered [] 0 roots));
        finished = λ a. omega (arith, none-d a);
        taken_are = λ a. omega (arith, none-h a);
        handed_out = refl;
        left = numbered [] 0 roots;
        left_are = trees-numbered t [] 0 roots;
        left_frontier = addresses_of-numbered [] 0 roots ∙ sym new.frontier;
      }

pub moved-push : (all : List (List ℕ)) (r : Run) (ms : List Move) (m : Move) → moved all r (ms ++ m ∷ []) ≡ move all (moved all r ms) m
moved-push all r [] m = refl
moved-push all r (n ∷ ms) m = moved-push all (move all r n) ms m
