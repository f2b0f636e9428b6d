-- What is prepared, and then returned.
use Rattle.std.proofs.Common.{◌≡◌, ◌≢◌, ◌≤◌, ◌<◌, ◌+◌, ℕ, List, [], ◌∷◌, ◌++◌, length, refl, sym, ap, ◌∙◌, subst, arith, inl, inr, ⊎_elim}
use Rattle.std.specs.Prelude.{Option, Some, None, Result, Ok, Err, IsErr, ◌⊎◌}
use Rattle.std.specs.List.Sorted.{IsPermutation}
use lib.ListN.{length-append}
use Rattle.std.proofs.lemmas.List.{nil_from_length, length-map}
use Rattle.std.proofs.lemmas.List.Sorted.{length_permutation, IsPermutation-trans}
use Rattle.std.specs.declared.alloc.AllocError.{AllocError}
use Rattle.jwalk_order.specs.Frontier.{passed, next_address}
use Rattle.jwalk_order.specs.Addresses.{times, IsAmong}
use Rattle.jwalk_order.specs.Addressed.{Addressed, addresses_of}
use Rattle.jwalk_order.proofs.Sets.{times-itself}
use Rattle.jwalk_board.specs.Board.{Board, IsWhole, HoldsOpen, IsOpen, of_frontier, of_parent}
use Rattle.jwalk_board.proofs.Opens.{times-on_board}
use Rattle.tree_walk.specs.declared.read.Read.{Read}
use Rattle.tree_walk.specs.ToGive.{with_below}
use Rattle.tree_walk.specs.Reads.{spec_of, IsSound}
use Rattle.tree_walk.specs.ReadAhead.{ahead_on, Enters, HandsOnAt}
use Rattle.tree_walk.specs.BoardWalk.{Keeps, ReadsBatch, GivesFirst, Answers, ReadsForNext, Prepares, left_on, ahead_of, next_on}
use Rattle.tree_walk.proofs.NextFacts.{left_first, next_is_read}

module _ {T R : Type 0} (b : Board T (Read T R)) where
  none_open : (a : List ℕ) → b.frontier ≡ [] → IsOpen b.frontier b.ready a → ⊥
  none_open a none (of_frontier h) = let n : 0 < times a [] = rw none at h in absurd (omega (arith, n))
  none_open a none (of_parent x i there o less) = none_open x.at none o

  -- while something is queued, something is to be read
  pub frontier_some : HoldsOpen b → b.in_hand ≡ [] → length b.queued + length b.in_hand ≢ 0 → b.frontier ≢ []
  frontier_some holds none some empty =
      elim b.queued as (λ q. b.queued ≡ q → ⊥) [
        | [] ↦ λ is. some (omega (arith, ap length is, ap length none))
        | x ∷ rest ↦ λ is. none_open x.at empty ((holds.open_addresses x.at).0 (let there : 0 < times x.at (addresses_of b.queued) = rw is (omega (arith, times-itself x.at (addresses_of rest))) in omega (arith, there, times-on_board x.at b)))
      ] refl

-- as many readings are made as addresses are done
as_many_done : {T R : Type 0} (left : Option (Board T (Read T R))) → length (ahead_of left).done ≡ length (left_on left).made
as_many_done None = refl
as_many_done {T} {R} (Some b) = length-map b.ready (λ (x : Addressed (Read T R)). x.at) ∙ sym (length-map b.ready (with_below (λ s. s) spec_of b []))

module _ {T R : Type 0} (is_reading : T → R → List T → Type 0) (width : ℕ) where
  -- The next of a board that was not ready is read with the least.
  pub reads_for_next : (b c : Board T (Read T R)) → 1 ≤ width → Keeps b → IsWhole b → b.frontier ≢ [] → ¬ IsAmong (next_address b.frontier) (addresses_of b.ready) → ReadsBatch is_reading width b c → ReadsForNext is_reading width (Some b) (Some c)
  reads_for_next b c wide keeps whole some unread reads =
      let read : IsAmong (next_address b.frontier) (addresses_of c.ready) = next_is_read is_reading width b (ahead_on c) whole reads.least wide keeps.none_in_hand some unread in
      record {
        some = left_first b keeps whole some;
        unread = unread;
        reads = reads.reads;
        least = reads.least;
        frontier = reads.frontier;
        read = subst (λ l. IsAmong (next_address l) (addresses_of c.ready)) (sym reads.frontier) read;
      }

  module _ (old mid new : Option (Board T (Read T R))) (r : ReadsForNext is_reading width old mid) where
    -- what was read for the next is handed on without a reading more
    hands : Enters spec_of (IsSound is_reading) width (next_on mid) (ahead_of mid) (ahead_of new) → HandsOnAt (next_on mid) (ahead_of mid) (ahead_of new)
    hands enters = elim enters [
      | inl ready ↦ ready.1
      | inr more ↦ absurd (more.0 r.read)
    ]

    none_fresh : (given : R) (g : GivesFirst is_reading width mid given new) → HandsOnAt (next_on mid) (ahead_of mid) (ahead_of new) → g.fresh ≡ []
    none_fresh given g at =
        nil_from_length g.fresh
        (omega (arith, length_permutation (g.fresh ++ (left_on mid).made) ((g.read, g.children) ∷ (left_on new).made) g.leaves, length-append g.fresh (left_on mid).made, length_permutation (ahead_of mid).done (next_on mid ∷ (ahead_of new).done) at.done, as_many_done mid, as_many_done new))

    -- What is returned after some were read for it is what one call returns.
    gives_after : (given : R) → Enters spec_of (IsSound is_reading) width (next_on mid) (ahead_of mid) (ahead_of new) → GivesFirst is_reading width mid given new → Answers is_reading width {F = AllocError} old (Ok (Some given)) new
    gives_after given enters g =
        let at = hands enters in
        let some = r.reads in
        let leaves : IsPermutation (left_on mid).made ((g.read, g.children) ∷ (left_on new).made) = subst (λ l. IsPermutation (l ++ (left_on mid).made) ((g.read, g.children) ∷ (left_on new).made)) (none_fresh given g at) g.leaves in
        record {
          ahead = omega (arith, length_permutation (left_on mid).made ((g.read, g.children) ∷ (left_on new).made) leaves, some.few, length_permutation (some.readings ++ (left_on old).made) (left_on mid).made some.join, length-append some.readings (left_on old).made);
          stopped = tt;
          some = tt;
          next = record {
            fresh = some.readings;
            few = some.few;
            sound = some.sound;
            read = g.read;
            children = g.children;
            rest = g.rest;
            of = g.of;
            took = sym some.same ∙ g.took;
            left = g.left;
            leaves = IsPermutation-trans (some.readings ++ (left_on old).made) (left_on mid).made ((g.read, g.children) ∷ (left_on new).made) some.join leaves;
            passes = g.passes ∙ ap (λ l. passed l (length g.children)) r.frontier;
          };
          enters = inr (r.unread, (ahead_of mid, r.least, subst (λ l. HandsOnAt (next_address l) (ahead_of mid) (ahead_of new)) r.frontier at));
        }

    after_reads : 1 ≤ width → (answer : Result (Option R) AllocError) → Answers is_reading width mid answer new → Answers is_reading width old answer new
    after_reads wide (Ok (Some given)) a = gives_after given a.enters a.next
    after_reads wide (Ok None) a = absurd (r.some (sym r.reads.same ∙ a.next.0))
    after_reads wide (Err e) a = record { ahead = rw a.stopped (omega (arith, wide)); stopped = a.stopped; some = r.some; next = tt; enters = tt }

  -- What is returned after a call that prepares it is what one call returns,
  pub prepared : (old mid new : Option (Board T (Read T R))) (answer : Result (Option R) AllocError) → 1 ≤ width → (mid ≡ old) ⊎ ReadsForNext is_reading width old mid → Answers is_reading width mid answer new → Answers is_reading width old answer new
  prepared old mid new answer wide reads a =
      ⊎_elim
      (λ (same : mid ≡ old). subst (λ m. Answers is_reading width m answer new) same a)
      (λ (r : ReadsForNext is_reading width old mid). after_reads old mid new r wide answer a)
      reads

  -- and so is an error of that call.
  pub not_prepared : (old new : Option (Board T (Read T R))) (e : AllocError) (answer : Result (Option R) AllocError) → 1 ≤ width → IsErr answer → Prepares is_reading width {F = AllocError} old (Err e) new → Answers is_reading width old answer new
  not_prepared old new e (Ok o) wide is p = absurd cc
  not_prepared old new e (Err x) wide is p = record { ahead = rw p.stopped (omega (arith, wide)); stopped = p.stopped; some = p.some; next = tt; enters = tt }
