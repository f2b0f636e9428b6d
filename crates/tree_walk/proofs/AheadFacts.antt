-- What is read ahead, step by step.
use Rattle.std.proofs.Common.{◌≡◌, ℕ, ◌+◌, min, List, [], ◌∷◌, ◌++◌, map, length, refl, sym, ap, subst, ◌∙◌, arith, append_assoc, true, cond}
use Rattle.std.specs.Prelude.{All, flat_map, OnOk, Result, Ok, Err, false}
use Rattle.std.specs.Cmp.Lexicographic.{slice_cmp, nat_list_cmp_total}
use Rattle.std.specs.Ordering.{nat_cmp, is_lt, is_eq, ordering_reverse}
use Rattle.std.specs.declared.cmp.Ordering.{Ordering}
use Rattle.std.specs.declared.cmp.Ordering.TheVariants.{Less, Equal, Greater}
use Rattle.std.specs.List.{AllZip}
use Rattle.std.specs.List.Sorted.{IsPermutation}
use Rattle.std.proofs.lemmas.Grind.{flat_map-append}
use Rattle.std.proofs.lemmas.List.{append-nil, map-append, length-map}
use Rattle.std.proofs.lemmas.List.Elements.{All-nil, All-cons, All-head, All-tail, All-append, All-weaker}
use Rattle.std.proofs.lemmas.List.Sorted.{IsPermutation-refl, IsPermutation-map, IsPermutation-trans, IsPermutation-append_right, All-permutation, length_permutation}
use Rattle.jwalk_order.specs.IndexPath.{address, is_before}
use Rattle.jwalk_order.specs.Ordered.{address_of, child_count_of}
use Rattle.jwalk_order.specs.declared.ordered.Ordered.{Ordered}
use Rattle.jwalk_board.specs.Board.{Board, IsWhole, IsNew, Takes, Finishes}
use Rattle.jwalk_order.specs.Addressed.{Addressed, addressed, addresses_of, IsFirst}
use Rattle.jwalk_order.specs.Addresses.{is_same, times}
use Rattle.jwalk_board.proofs.Opens.{times-addresses_of, times-on_board}
use Rattle.jwalk_order.proofs.Sets.{times-itself}
use Rattle.tree_walk.specs.declared.read.Read.{Read}
use Rattle.tree_walk.specs.declared.batch.Made.{Made}
use Rattle.tree_walk.specs.ToGive.{IsHeld, MakesAll}
use Rattle.tree_walk.specs.Reads.{spec_of, to_give, IsSound}
use Rattle.tree_walk.specs.Batch.{hand_of, held_by, with_children, IsMadeOf, made_at}
use Rattle.tree_walk.specs.ReadAhead.{ReadAhead, ahead_on, unread, below, BeginsWith, Joins, LeastLeave, ComesBefore, ReadsLeast}
use Rattle.tree_walk.specs.BoardWalk.{ReadsBatch}
use Rattle.tree_walk.proofs.BatchFacts.{reads_batch, as_many, none_held}
use Rattle.tree_walk.proofs.ReadFacts.{reads_none, reads_one, none_left}

reversed : (o : Ordering) → is_lt o ≡ false → is_eq o ≡ false → is_lt (ordering_reverse o) ≡ true
reversed Less h k = sym h
reversed Equal h k = sym k
reversed Greater h k = refl

-- of two addresses one comes before the other
before_other : (x y : List ℕ) → is_before y x ≡ false → is_same x y ≡ false → is_before x y ≡ true
before_other x y h k = ap is_lt (nat_list_cmp_total.antisymm x y) ∙ reversed (slice_cmp nat_cmp y x) h k

first_of_others : {V : Type 0} (a : List ℕ) (ys : List (Addressed V)) → IsFirst a ys → times a (addresses_of ys) ≡ 0 → All (λ y. is_before a y.at ≡ true) ys
first_of_others a [] first none = All-nil _
first_of_others a (y ∷ ys) first none =
    elim (is_same a y.at) as (λ s. is_same a y.at ≡ s → cond s 1 0 + times a (addresses_of ys) ≡ 0 → All (λ y. is_before a y.at ≡ true) (y ∷ ys)) [
      | true ↦ λ e k. absurd (omega (arith, k))
      | false ↦ λ e k. All-cons (λ y. is_before a y.at ≡ true) y ys (before_other a y.at (All-head (λ y. is_before y.at a ≡ false) y ys first) e) (first_of_others a ys (All-tail (λ y. is_before y.at a ≡ false) y ys first) (omega (arith, k)))
    ] refl none

-- What is taken comes before all that stays.
taken_first : {T Q A : Type 0} (b c : Board T Q) (item : Ordered T A) → IsWhole b → Takes item b c → All (λ y. is_before (address_of item) y.at ≡ true) c.queued
taken_first b c item whole t =
    let a = address_of item in
    first_of_others a c.queued
    (All-tail (λ y. is_before y.at a ≡ false) (addressed item) c.queued (All-permutation (λ y. is_before y.at a ≡ false) b.queued (addressed item ∷ c.queued) t.queued t.least))
    (omega (arith, whole.once a, times-on_board a b, times-addresses_of a b.queued (addressed item ∷ c.queued) t.queued, times-itself a (addresses_of c.queued)))

module _ {T R : Type 0} where
  -- A new board begins with its roots.
  pub begins : (specs : List T) (b : Board T (Read T R)) → IsNew specs b → BeginsWith specs b.frontier (ahead_on b)
  begins specs b new = record {
    queue = new.queued;
    done = ap addresses_of new.ready;
    to_enter = new.frontier;
  }

  -- nothing has left yet
  pub none_leave : (b : Board T (Read T R)) → LeastLeave [] (ahead_on b) (ahead_on b)
  none_leave b = record { queue = IsPermutation-refl _; least = All-nil _; done = refl }

  -- one more leaves
  pub one_leaves : {A : Type 0} (first : ReadAhead T) (b c : Board T (Read T R)) (taken : List (Ordered T A)) (item : Ordered T A)
      → IsWhole b → Takes item b c → LeastLeave (map addressed taken) first (ahead_on b) → LeastLeave (map addressed (taken ++ item ∷ [])) first (ahead_on c)
  one_leaves first b c taken item whole t so_far =
      let before = (ahead_on b).queue in
      let now = (ahead_on c).queue in
      let one : Addressed T = addressed item in
      let more : IsPermutation before (one ∷ now) = t.queued in
      let is : map addressed taken ++ one ∷ now ≡ map addressed (taken ++ item ∷ []) ++ now = sym (ap (λ l. l ++ now) (map-append addressed taken (item ∷ [])) ∙ append_assoc (map addressed taken) (one ∷ []) now) in
      let still : (x : Addressed T) → ComesBefore x before → ComesBefore x now = λ x first_of. All-tail (λ y. is_before x.at y.at ≡ true) one now (All-permutation (λ y. is_before x.at y.at ≡ true) before (one ∷ now) more first_of) in
      record {
        queue = subst (IsPermutation first.queue) is (IsPermutation-trans first.queue (map addressed taken ++ before) (map addressed taken ++ one ∷ now) so_far.queue (IsPermutation-append_right (map addressed taken) before (one ∷ now) more));
        least = subst (All (λ x. ComesBefore x now)) (sym (map-append addressed taken (item ∷ []))) (All-append (λ x. ComesBefore x now) (map addressed taken) (one ∷ [])
            (All-weaker (λ x. ComesBefore x before) (λ x. ComesBefore x now) still (map addressed taken) so_far.least)
            (All-cons (λ x. ComesBefore x now) one [] (taken_first b c item whole t) (All-nil _)));
        done = ap (λ z. addresses_of z.ready) t.others ∙ so_far.done;
      }

  module _ {A : Type 0} (rest : List (Made T R A)) (m : Made T R A) (b c : Board T (Read T R)) (f : Finishes (address m.address) m.read m.children.items b c) where
    -- What joins after the last one joins with it.
    pub joins_with_last : (new : ReadAhead T) → Joins (map made_at rest) (ahead_on c) new → Joins (map made_at (rest ++ m ∷ [])) (ahead_on b) new
    joins_with_last new j =
        let q = (ahead_on b).queue in
        let d = (ahead_on b).done in
        let mine = below (made_at m) in
        let others = map made_at rest in
        let split = map-append made_at rest (m ∷ []) in
        let queued : IsPermutation (mine ++ q) (ahead_on c).queue =
        f.queued in
        let ready : IsPermutation (address m.address ∷ d) (ahead_on c).done =
        IsPermutation-map (λ (x : Addressed (Read T R)). x.at) (record { at = address m.address; value = m.read; child_count = length m.children.items } ∷ b.ready) c.ready f.ready in
        let queue_is : flat_map below (map made_at (rest ++ m ∷ [])) ++ q ≡ flat_map below others ++ (mine ++ q) =
        ap (λ l. flat_map below l ++ q) split ∙ ap (λ l. l ++ q) (flat_map-append below others (made_at m ∷ [])) ∙ ap (λ l. (flat_map below others ++ l) ++ q) (append-nil mine) ∙ append_assoc (flat_map below others) mine q in
        let done_is : addresses_of (map made_at (rest ++ m ∷ [])) ++ d ≡ addresses_of others ++ (address m.address ∷ d) =
        ap (λ l. addresses_of l ++ d) split ∙ ap (λ l. l ++ d) (map-append (λ x. x.at) others (made_at m ∷ [])) ∙ append_assoc (addresses_of others) (address m.address ∷ []) d in
        record {
          queue = subst (λ l. IsPermutation l new.queue) (sym queue_is) (IsPermutation-trans (flat_map below others ++ (mine ++ q)) (flat_map below others ++ (ahead_on c).queue) new.queue (IsPermutation-append_right (flat_map below others) (mine ++ q) (ahead_on c).queue queued) j.queue);
          done = subst (λ l. IsPermutation l new.done) (sym done_is) (IsPermutation-trans (addresses_of others ++ (address m.address ∷ d)) (addresses_of others ++ (ahead_on c).done) new.done (IsPermutation-append_right (addresses_of others) (address m.address ∷ d) (ahead_on c).done ready) j.done);
        }

  -- nothing joins
  pub none_join : (b : Board T (Read T R)) → Joins {Q = Read T R} {V = T} [] (ahead_on b) (ahead_on b)
  none_join b = record { queue = IsPermutation-refl _; done = IsPermutation-refl _ }

module _ {T R A : Type 0} (is_reading : T → R → List T → Type 0) where
  abbrev IsOf : Ordered T A → Made T R A → Type 0
  IsOf = IsMadeOf is_reading

  -- what was made is where it was taken
  stood : (taken : List (Ordered T A)) (made : List (Made T R A)) → AllZip IsOf taken made → All (λ x. child_count_of x ≡ 0) taken → map addressed taken ≡ map (unread spec_of) (map made_at made)
  stood [] [] all fresh = refl
  stood [] (m ∷ made) all fresh = absurd all
  stood (x ∷ taken) [] all fresh = absurd all
  stood (x ∷ taken) (m ∷ made) all fresh =
      rw (all.0.at, all.0.of, All-head (λ x. child_count_of x ≡ 0) x taken fresh, stood taken made all.1 (All-tail (λ x. child_count_of x ≡ 0) x taken fresh)) refl

  sound_at : (taken : List (Ordered T A)) (made : List (Made T R A)) → AllZip IsOf taken made → All (λ x. IsSound is_reading x.value) (map made_at made)
  sound_at [] [] all = All-nil _
  sound_at [] (m ∷ made) all = absurd all
  sound_at (x ∷ taken) [] all = absurd all
  sound_at (x ∷ taken) (m ∷ made) all = All-cons (λ (x : Addressed (Read T R × List T)). IsSound is_reading x.value) (made_at m) (map made_at made) all.0.sound (sound_at taken made all.1)

  -- What was taken, read and finished are the least.
  pub least_read : (width : ℕ) (old mid new : ReadAhead T) (taken : List (Ordered T A)) (made : List (Made T R A))
      → length made ≡ min width (length old.queue) → All (λ x. child_count_of x ≡ 0) taken → AllZip IsOf taken made → LeastLeave (map addressed taken) old mid → Joins (map made_at made) mid new
      → ReadsLeast spec_of (IsSound is_reading) width old new
  least_read width old mid new taken made number fresh all leave join =
      record {
        batch = map made_at made;
        left = mid;
        number = length-map made made_at ∙ number;
        sound = sound_at taken made all;
        leave = subst (λ l. LeastLeave l old mid) (stood taken made all fresh) leave;
        join = join;
      }

  -- What a batch leaves.
  pub batch_read : {X F : Type 0} (r : Result X F) (width : ℕ) (b mid c : Board T (Read T R)) (taken : List (Ordered T A)) (made : List (Made T R A))
      → length taken ≡ min width (length b.queued) → All (λ x. child_count_of x ≡ 0) taken → to_give mid (hand_of taken) ≡ to_give b [] → LeastLeave (map addressed taken) (ahead_on b) (ahead_on mid) → mid.frontier ≡ b.frontier → AllZip IsOf taken made
      → OnOk r (MakesAll (map with_children made) (to_give mid (held_by made)) (to_give c [])) → OnOk r (Joins (map made_at made) (ahead_on mid) (ahead_on c)) → OnOk r (c.frontier ≡ mid.frontier) → OnOk r (IsHeld c []) → OnOk r (c.stopped ≡ false)
      → OnOk r (ReadsBatch is_reading width b c)
  batch_read (Ok x) width b mid c taken made number fresh same leave passed all makes join passed_on held running =
      record {
        reads = reads_batch is_reading width (length b.queued) b mid c taken made number fresh same all makes;
        least = least_read width (ahead_on b) (ahead_on mid) (ahead_on c) taken made (as_many is_reading taken made all ∙ number) fresh all leave join;
        frontier = passed_on ∙ passed;
        none_in_hand = none_held c held;
        running = running;
      }
  batch_read (Err e) width b mid c taken made number fresh same leave passed all makes join passed_on held running = tt

  -- What one that is taken, read and finished leaves.
  pub one_read : {X F : Type 0} (r : Result X F) (b mid c : Board T (Read T R)) (item : Ordered T A) (made : Made T R A) → IsWhole b → b.in_hand ≡ [] → Takes item b mid → IsOf item made
      → OnOk r (Finishes (address made.address) made.read made.children.items mid c) → OnOk r (ReadsBatch is_reading 1 b c)
  one_read (Ok x) b mid c item made whole none t is f =
      let f_there = subst (λ a. Finishes a made.read made.children.items mid c) is.at f in
      let leave = one_leaves (ahead_on b) b mid [] item whole t (none_leave b) in
      let join = joins_with_last [] made mid c f (ahead_on c) (none_join c) in
      let some : length (ahead_on b).queue ≡ 1 + length mid.queued = omega (arith, length_permutation b.queued (addressed item ∷ mid.queued) t.queued) in
      record {
        reads = reads_one is_reading b mid c item made.read made.children.items none whole t f_there is.of is.sound;
        least = least_read 1 (ahead_on b) (ahead_on mid) (ahead_on c) (item ∷ []) (made ∷ []) (omega (arith, some)) (All-cons (λ x. child_count_of x ≡ 0) item [] t.unread (All-nil _)) (is, tt) leave join;
        frontier = ap (λ z. z.frontier) f.others ∙ ap (λ z. z.frontier) t.others;
        none_in_hand = none_left is_reading b mid c item made.read made.children.items none whole t f_there is.of;
        running = ap (λ z. z.stopped) f.others ∙ f.running;
      }
  one_read (Err e) b mid c item made whole none t is f = tt

module _ {T R : Type 0} (is_reading : T → R → List T → Type 0) where
  -- Where nothing is queued, nothing is read.
  pub nothing_read : (b : Board T (Read T R)) → b.queued ≡ [] → b.in_hand ≡ [] → b.stopped ≡ false → ReadsBatch is_reading 1 b b
  nothing_read b empty none running =
      record {
        reads = reads_none is_reading 1 (to_give b []);
        least = least_read {A = ℕ} is_reading 1 (ahead_on b) (ahead_on b) (ahead_on b) [] [] (rw empty refl) (All-nil _) tt (none_leave b) (none_join b);
        frontier = refl;
        none_in_hand = none;
        running = running;
      }
