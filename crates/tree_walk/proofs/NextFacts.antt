-- What one call returns, from what a board hands on.
use Rattle.std.proofs.Common.{◌≡◌, ◌≢◌, ◌<◌, ◌≤◌, ◌+◌, ℕ, zero, suc, true, false, cond, List, [], ◌∷◌, ◌++◌, map, length, refl, sym, ap, ◌∙◌, arith, subst, ⊎_elim, inl, inr}
use Rattle.std.specs.Prelude.{Some, All}
use Rattle.std.specs.List.Sorted.{IsPermutation}
use Rattle.std.proofs.Math.Nat.{eq-zero-or-pos}
use Rattle.std.proofs.lemmas.List.{map-append}
use Rattle.std.proofs.lemmas.List.Elements.{All-head, All-tail}
use Rattle.std.proofs.lemmas.List.Sorted.{IsPermutation-map}
use Rattle.jwalk_order.specs.Frontier.{passed, next_address}
use Rattle.jwalk_order.specs.IndexPath.{is_before}
use Rattle.jwalk_order.specs.Addresses.{is_same, times, IsAmong}
use Rattle.jwalk_order.specs.declared.ordered.Ordered.{Ordered}
use Rattle.jwalk_board.specs.Board.{Board, on_board, IsWhole, HandsOut}
use Rattle.jwalk_order.specs.Addressed.{Addressed, addressed, addresses_of}
use Rattle.jwalk_order.proofs.Sets.{same, times-append, times-permutation, times-itself}
use Rattle.jwalk_board.proofs.Opens.{times-addresses_of, times-on_board, next_least, holds_open}
use Rattle.tree_walk.specs.declared.read.Read.{Read}
use Rattle.tree_walk.specs.Reads.{spec_of, to_give, IsSound, ReadsSome}
use Rattle.tree_walk.specs.ReadAhead.{ReadAhead, ahead_on, unread, ComesBefore, ReadsLeast, HandsOnAt, EntersNext}
use Rattle.tree_walk.specs.BoardWalk.{Keeps, ReadsBatch, HandsOnNext, GoesOn}
use Rattle.tree_walk.proofs.Steps.{some_to_read, gives-handed_out}
use Rattle.tree_walk.proofs.ReadFacts.{reads_none, some_give, hands_less, some_more}

-- where an address is, there is something
some_at : {V : Type 0} (a : List ℕ) (xs : List (Addressed V)) → IsAmong a (addresses_of xs) → 1 ≤ length xs
some_at a [] there = absurd (omega (arith, there))
some_at a (x ∷ xs) there = omega arith

unread_addresses : {T R : Type 0} (xs : List (Addressed (Read T R × List T))) → addresses_of (map (unread spec_of) xs) ≡ addresses_of xs
unread_addresses [] = refl
unread_addresses (x ∷ xs) = ap (λ l. x.at ∷ l) (unread_addresses xs)

-- what comes before all of these comes before each
before_each : {V : Type 0} (x : List ℕ) (ys : List (Addressed V)) → All (λ y. is_before x y.at ≡ true) ys → (a : List ℕ) → IsAmong a (addresses_of ys) → is_before x a ≡ true
before_each x [] all a there = absurd (omega (arith, there))
before_each x (y ∷ ys) all a there =
    elim (is_same a y.at) as (λ s. is_same a y.at ≡ s → 0 < cond s 1 0 + times a (addresses_of ys) → is_before x a ≡ true) [
      | true ↦ λ e h. subst (λ z. is_before x z ≡ true) (same a y.at e) (All-head (λ y. is_before x y.at ≡ true) y ys all)
      | false ↦ λ e h. before_each x ys (All-tail (λ y. is_before x y.at ≡ true) y ys all) a (omega (arith, h))
    ] refl there

-- what is handed on was done
was_done : {T : Type 0} (at : List ℕ) (old new : ReadAhead T) → HandsOnAt at old new → IsAmong at old.done
was_done at old new h = omega (arith, times-permutation at old.done (at ∷ new.done) h.done, times-itself at new.done)

module _ {T R : Type 0} where
  -- What a board hands out is handed on.
  pub handed_on : {A : Type 0} (old new : Board T (Read T R)) (item : Ordered (Read T R) A) → IsWhole old → old.in_hand ≡ [] → HandsOut item old new → HandsOnNext old item.value.reading new
  handed_on old new item whole none h =
      let gives = gives-handed_out (λ s. s) spec_of old new [] item whole h (λ a. ap (times a) none) in
      record {
        read = item.value;
        of = refl;
        hands_on = gives.0;
        passes = ap (λ z. z.frontier) h.others ∙ ap (passed old.frontier) (sym gives.1);
        at = record {
          queue = ap (λ z. z.queued) h.others;
          done = subst (λ a. IsPermutation (addresses_of old.ready) (a ∷ addresses_of new.ready)) h.next (IsPermutation-map (λ (x : Addressed (Read T R)). x.at) old.ready (addressed item ∷ new.ready) h.ready);
        };
        none_in_hand = ap (λ z. z.in_hand) h.others ∙ none;
        running = ap (λ z. z.stopped) h.others ∙ h.running;
      }

-- while something is to be read, there is a first
pub left_first : {T R : Type 0} (b : Board T (Read T R)) → Keeps b → IsWhole b → b.frontier ≢ [] → (to_give b []).to_read ≢ []
left_first b keeps whole some = some_to_read (λ s. s) spec_of b whole keeps.none_in_hand some

module _ {T R : Type 0} (is_reading : T → R → List T → Type 0) (width : ℕ) where
  module _ (old : Board T (Read T R)) (new : ReadAhead T) (whole : IsWhole old) (reads : ReadsLeast spec_of (IsSound is_reading) width (ahead_on old) new) where
    -- what is queued is read, or left
    read_or_left : (a : List ℕ) → times a (addresses_of old.queued) ≡ times a (addresses_of reads.batch) + times a (addresses_of reads.left.queue)
    read_or_left a =
        let taken = map (unread spec_of) reads.batch in
        sym (times-addresses_of a (ahead_on old).queue (taken ++ reads.left.queue) reads.leave.queue)
        ∙ ap (times a) (map-append (λ x. x.at) taken reads.left.queue)
        ∙ times-append a (addresses_of taken) (addresses_of reads.left.queue)
        ∙ ap (λ l. times a l + times a (addresses_of reads.left.queue)) (unread_addresses reads.batch)

    -- and what is left isn't the least of all
    left_is_no_least : 1 ≤ length reads.batch → ¬ IsAmong (next_address old.frontier) (addresses_of reads.left.queue)
    left_is_no_least some there =
        elim reads.batch as (λ b. reads.batch ≡ b → 1 ≤ length b → ⊥) [
          | [] ↦ λ is h. absurd (omega (arith, h))
          | x ∷ rest ↦ λ is h.
              let first : ComesBefore (unread spec_of x) reads.left.queue = All-head (λ y. ComesBefore y reads.left.queue) (unread spec_of x) (map (unread spec_of) rest) (subst (λ b. All (λ y. ComesBefore y reads.left.queue) (map (unread spec_of) b)) is reads.leave.least) in
              let among : 0 < times x.at (addresses_of reads.batch) = subst (λ b. 0 < times x.at (addresses_of b)) (sym is) (omega (arith, times-itself x.at (addresses_of rest))) in
              let no : false ≡ true = sym (next_least old whole x.at (omega (arith, read_or_left x.at, among, times-on_board x.at old))) ∙ before_each x.at reads.left.queue first (next_address old.frontier) there in
              cc
        ] refl some

    -- The next of what is to be read, where it isn't ready, is read with the least.
    pub next_is_read : 1 ≤ width → old.in_hand ≡ [] → old.frontier ≢ [] → ¬ IsAmong (next_address old.frontier) (addresses_of old.ready) → IsAmong (next_address old.frontier) new.done
    next_is_read wide none left unread =
        let a = next_address old.frontier in
        let on : 0 < times a (on_board old) = (holds_open old whole).next_is_open left in
        let gone : times a old.in_hand ≡ 0 = ap (times a) none in
        let queued : IsAmong a (addresses_of old.queued) = ⊎_elim
        (λ (not_ready : times a (addresses_of old.ready) ≡ 0). omega (arith, on, times-on_board a old, not_ready, gone))
        (λ (there : 0 < times a (addresses_of old.ready)). absurd (unread there))
        (eq-zero-or-pos (times a (addresses_of old.ready))) in
        let some : 1 ≤ length reads.batch = omega (arith, reads.number, wide, some_at a old.queued queued) in
        let done = times-permutation a (addresses_of reads.batch ++ reads.left.done) new.done reads.join.done in
        elim (times a (addresses_of reads.left.queue)) as (λ n. times a (addresses_of reads.left.queue) ≡ n → IsAmong a new.done) [
          | zero ↦ λ is. omega (arith, is, queued, read_or_left a, done, times-append a (addresses_of reads.batch) reads.left.done)
          | suc n ↦ λ is. absurd (left_is_no_least some (omega (arith, is)))
        ] refl

  module _ (old : Board T (Read T R)) (keeps : Keeps old) where
    -- What is handed on goes on.
    goes_on : (mid new : Board T (Read T R)) (given : R) → mid.frontier ≡ old.frontier → ReadsSome is_reading width (to_give old []) (to_give mid []) → HandsOnNext mid given new
        → length (to_give mid []).made ≤ length (to_give old []).made + width → EntersNext spec_of (IsSound is_reading) width (next_address old.frontier) (ahead_on old) (Some given) (ahead_on new) → GoesOn is_reading width old (Some given) new
    goes_on mid new given stays some h few enters =
        record {
          keeps = record { running = h.running; none_in_hand = h.none_in_hand };
          ahead = omega (arith, hands_less (to_give mid []) (to_give new []) h.read h.hands_on, few);
          next = some_give is_reading width old mid new given stays some h;
          enters = enters;
        }

    -- What is handed on without a new reading goes on.
    pub ready_goes_on : (new : Board T (Read T R)) (given : R) → HandsOnNext old given new → GoesOn is_reading width old (Some given) new
    ready_goes_on new given h =
        goes_on old new given refl (reads_none is_reading width (to_give old [])) h (omega arith) (inl (was_done (next_address old.frontier) (ahead_on old) (ahead_on new) h.at, h.at))

    -- What is handed on after some were read goes on.
    pub made_goes_on : ¬ IsAmong (next_address old.frontier) (addresses_of old.ready) → (mid new : Board T (Read T R)) (given : R) → ReadsBatch is_reading width old mid
        → HandsOnNext mid given new → GoesOn is_reading width old (Some given) new
    made_goes_on unread mid new given reads h =
        let more = some_more is_reading width (to_give old []) (to_give mid []) reads.reads in
        goes_on mid new given reads.frontier reads.reads h (omega (arith, more))
        (inr (unread, (ahead_on mid, reads.least, subst (λ l. HandsOnAt (next_address l) (ahead_on mid) (ahead_on new)) reads.frontier h.at)))
