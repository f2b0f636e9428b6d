-- A specification that is taken, read and finished.
use Rattle.std.proofs.Common.{◌≡◌, ◌+◌, ◌≤◌, ℕ, List, [], ◌∷◌, ◌++◌, length, refl, sym, ap, ◌∙◌, arith, subst}
use Rattle.std.specs.Prelude.{OnErr, IfOk, Result, Ok, Err, Some}
use Rattle.std.specs.List.Sorted.{IsPermutation}
use Rattle.std.proofs.lemmas.List.Elements.{All-nil, All-cons}
use lib.ListN.{length-append}
use Rattle.std.proofs.lemmas.List.{nil_from_length, map-id}
use Rattle.std.proofs.lemmas.List.Sorted.{IsPermutation-refl, IsPermutation-trans, length_permutation}
use Rattle.jwalk_order.specs.Frontier.{passed}
use Rattle.jwalk_order.specs.Ordered.{address_of}
use Rattle.jwalk_order.specs.declared.ordered.Ordered.{Ordered}
use Rattle.jwalk_order.specs.Addresses.{times}
use Rattle.jwalk_board.specs.Board.{Board, IsWhole, Takes, Finishes}
use Rattle.jwalk_order.specs.Addressed.{addressed}
use Rattle.jwalk_order.proofs.Sets.{times-permutation}
use Rattle.jwalk_board.proofs.Opens.{whole_taken, whole_finished}
use Rattle.tree_walk.specs.declared.read.Read.{Read}
use Rattle.tree_walk.specs.ToGive.{ToGive, IsHeld, Makes, HandsOn}
use Rattle.tree_walk.specs.Reads.{spec_of, to_give, IsSound, ReadsSome}
use Rattle.tree_walk.specs.BoardWalk.{HandsOnNext, GivesFirst}
use Rattle.tree_walk.proofs.Steps.{gives-taken, gives-finished}

pub if_ok : {X F : Type 0} (r : Result X F) {P Q : X → Type 0} → ((x : X) → P x → Q x) → IfOk r P → IfOk r Q
if_ok (Ok x) f h = f x h
if_ok (Err e) f h = tt

pub on_err_always : {X F : Type 0} (r : Result X F) {P : Type 0} → P → OnErr r P
on_err_always (Ok x) p = tt
on_err_always (Err e) p = p

module _ {T R : Type 0} (is_reading : T → R → List T → Type 0) where
  -- nothing is read
  pub reads_none : (width : ℕ) (at : ToGive (Read T R) T) → ReadsSome is_reading width at at
  reads_none width at = record { readings = []; few = omega arith; sound = All-nil _; same = refl; join = IsPermutation-refl at.made }

  module _ {A : Type 0} (b m c : Board T (Read T R)) (item : Ordered T A) (q : Read T R) (children : List T) (none : b.in_hand ≡ [])
      (whole : IsWhole b) (t : Takes item b m) (f : Finishes (address_of item) q children m c) (of : q.of ≡ item.value) where
    whole_m : IsWhole m
    whole_m = subst IsWhole (sym t.others) (whole_taken b (addressed item) m.queued m.in_hand whole t.queued t.in_hand)

    whole_c : IsWhole c
    whole_c = subst IsWhole (sym f.others) (whole_finished m (record { at = address_of item; value = q; child_count = length children }) children c.queued c.in_hand c.ready whole_m refl f.in_hand f.ready f.queued)

    held_m : IsHeld m (addressed item ∷ [])
    held_m a = times-permutation a (address_of item ∷ b.in_hand) m.in_hand t.in_hand ∙ ap (λ l. times a (address_of item ∷ l)) none

    -- then nothing is in hand again
    pub none_left : c.in_hand ≡ []
    none_left = nil_from_length c.in_hand (omega (arith, length_permutation m.in_hand (address_of item ∷ c.in_hand) f.in_hand, length_permutation (address_of item ∷ b.in_hand) m.in_hand t.in_hand, ap length none))

    -- one reading is made
    pub reads_one : IsSound is_reading (q, children) → ReadsSome is_reading 1 (to_give b []) (to_give c [])
    reads_one sound =
        let taken : to_give m (addressed item ∷ []) ≡ to_give b [] = gives-taken (λ s. s) spec_of b m item [] whole t in
        let made = subst (λ l. Makes q l (to_give m (addressed item ∷ [])) (to_give c [])) (map-id children) (gives-finished (λ s. s) spec_of m c (addressed item) [] q children whole_m whole_c held_m f of) in
        record {
          readings = (q, children) ∷ [];
          few = omega arith;
          sound = All-cons (IsSound is_reading) (q, children) [] sound (All-nil _);
          same = made.same ∙ ap (λ g. g.to_read) taken;
          join = subst (λ g. IsPermutation ((q, children) ∷ g.made) (to_give c []).made) taken made.joins;
        }

  -- What is handed on after some were read is given.
  pub some_give : (width : ℕ) (old mid new : Board T (Read T R)) (given : R) → mid.frontier ≡ old.frontier → ReadsSome is_reading width (to_give old []) (to_give mid []) → HandsOnNext mid given new → GivesFirst is_reading width (Some old) given (Some new)
  some_give width old mid new given stays some h =
      let hands = h.hands_on in
      record {
        fresh = some.readings;
        few = some.few;
        sound = some.sound;
        read = h.read;
        children = hands.front;
        rest = hands.rest;
        of = h.of;
        took = sym some.same ∙ hands.took;
        left = hands.left;
        leaves = IsPermutation-trans (some.readings ++ (to_give old []).made) (to_give mid []).made ((h.read, hands.front) ∷ (to_give new []).made) some.join hands.leaves;
        passes = h.passes ∙ ap (λ l. passed l (length hands.front)) stays;
      }

  -- at most this many more are made
  pub some_more : (width : ℕ) (old new : ToGive (Read T R) T) → ReadsSome is_reading width old new → length new.made ≤ width + length old.made
  some_more width old new some = omega (arith, some.few, length_permutation (some.readings ++ old.made) new.made some.join, length-append some.readings old.made)

-- one fewer is left
pub hands_less : {T R : Type 0} (old new : ToGive (Read T R) T) (q : Read T R) → HandsOn spec_of old q new → length new.made + 1 ≡ length old.made
hands_less old new q hands = omega (arith, length_permutation old.made ((q, hands.front) ∷ new.made) hands.leaves)
