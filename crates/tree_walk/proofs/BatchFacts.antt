-- What is taken together.
use Rattle.std.proofs.Common.{◌≡◌, ℕ, suc, ◌+◌, min, List, [], ◌∷◌, ◌++◌, map, length, reverse, refl, sym, ap, subst, ◌∙◌, arith, append_assoc}
use Rattle.std.specs.Prelude.{All, Ok, Result}
use Rattle.std.specs.List.{AllZip}
use Rattle.std.proofs.lemmas.List.Elements.{All-nil, All-cons, All-head, All-tail}
use Rattle.std.specs.List.Sorted.{IsPermutation}
use Rattle.std.proofs.lemmas.List.{map-id, reverse-append, map-append, length-map}
use Rattle.std.proofs.lemmas.List.Sorted.{length_permutation, IsPermutation-trans, IsPermutation-append_right}
use Rattle.jwalk_order.specs.IndexPath.{address}
use Rattle.jwalk_order.specs.Ordered.{address_of, child_count_of}
use Rattle.jwalk_order.specs.declared.ordered.Ordered.{Ordered}
use Rattle.jwalk_order.specs.Addresses.{times}
use Rattle.jwalk_board.specs.Board.{Board, IsWhole, Takes, Finishes}
use Rattle.jwalk_order.specs.Addressed.{Addressed, addressed, addresses_of}
use Rattle.jwalk_order.proofs.Sets.{times-permutation, times-itself}
use Rattle.jwalk_board.proofs.Opens.{whole_finished}
use Rattle.tree_walk.specs.declared.read.Read.{Read}
use Rattle.tree_walk.specs.ToGive.{IsHeld, Makes, MakesAll}
use Rattle.tree_walk.specs.Reads.{spec_of, to_give, IsSound, ReadsSome}
use Rattle.tree_walk.specs.Batch.{hand_of, held_by, with_children, IsMadeOf}
use Rattle.tree_walk.specs.declared.batch.Made.{Made}
use Rattle.tree_walk.proofs.Steps.{gives-taken, gives-finished}

module _ {T R A : Type 0} (b c : Board T (Read T R)) (taken : List (Ordered T A)) (item : Ordered T A) (whole : IsWhole b) (t : Takes item b c) where
  pub hand_more : hand_of (taken ++ item ∷ []) ≡ addressed item ∷ hand_of taken
  hand_more = ap (map addressed) (reverse-append taken (item ∷ []))

  pub held_more : IsHeld b (hand_of taken) → IsHeld c (hand_of (taken ++ item ∷ []))
  held_more held a =
      times-permutation a (address_of item ∷ b.in_hand) c.in_hand t.in_hand
      ∙ rw (held a) refl
      ∙ ap (λ l. times a (addresses_of l)) (sym hand_more)

  pub same_more : to_give c (hand_of (taken ++ item ∷ [])) ≡ to_give b (hand_of taken)
  same_more = rw hand_more (gives-taken (λ s. s) spec_of b c item (hand_of taken) whole t)

  pub fewer_queued : length b.queued ≡ 1 + length c.queued
  fewer_queued = omega (arith, length_permutation b.queued (addressed item ∷ c.queued) t.queued)

-- What holds of each result holds of what is in them, if all of them are there.
pub all_there : {X Y F : Type 0} (Q : X → Result Y F → Type 0) (xs : List X) (ys : List Y) (results : List (Result Y F)) → map Ok ys ≡ results → AllZip Q xs results → AllZip (λ x y. Q x (Ok y)) xs ys
all_there {X} {Y} Q xs ys results is all = by xs ys (subst (AllZip Q xs) (sym is) all)
  where
    by : (xs : List X) (ys : List Y) → AllZip Q xs (map Ok ys) → AllZip (λ x y. Q x (Ok y)) xs ys
    by [] [] all = tt
    by [] (y ∷ ys) all = absurd all
    by (x ∷ xs) [] all = absurd all
    by (x ∷ xs) (y ∷ ys) all = (all.0, by xs ys all.1)

-- and there are as many
pub as_many_there : {Y F : Type 0} (ys : List Y) (results : List (Result Y F)) → map Ok ys ≡ results → length ys ≡ length results
as_many_there {Y} {F} ys results is = sym (length-map {B = Result Y F} ys Ok) ∙ ap length is

pub AllZip-push : {X Y : Type 0} (R : X → Y → Type 0) (xs : List X) (ys : List Y) (x : X) (y : Y) → AllZip R xs ys → R x y → AllZip R (xs ++ x ∷ []) (ys ++ y ∷ [])
AllZip-push R [] [] x y all one = (one, tt)
AllZip-push R [] (b ∷ ys) x y all one = absurd all
AllZip-push R (a ∷ xs) [] x y all one = absurd all
AllZip-push R (a ∷ xs) (b ∷ ys) x y all one = (all.0, AllZip-push R xs ys x y all.1 one)

module _ {T R A : Type 0} (rest : List (Made T R A)) (m : Made T R A) where
  -- where it is, with what was to be read there
  abbrev pub taken_of : Addressed T
  taken_of = record { at = address m.address; value = m.read.of; child_count = 0 }

  pub hand_last : held_by (rest ++ m ∷ []) ≡ taken_of ∷ held_by rest
  hand_last = ap (map (λ (one : Made T R A). record { at = address one.address; value = one.read.of; child_count = 0 })) (reverse-append rest (m ∷ []))

  module _ (b c : Board T (Read T R)) (whole : IsWhole b) (f : Finishes (address m.address) m.read m.children.items b c) (held : IsHeld b (held_by (rest ++ m ∷ []))) where
    mine : IsHeld b (taken_of ∷ held_by rest)
    mine = subst (IsHeld b) hand_last held

    after : IsWhole c
    after = subst IsWhole (sym f.others) (whole_finished b (record { at = address m.address; value = m.read; child_count = length m.children.items }) m.children.items c.queued c.in_hand c.ready whole refl f.in_hand f.ready f.queued)

    makes : Makes m.read (m.children.items) (to_give b (taken_of ∷ held_by rest)) (to_give c (held_by rest))
    makes = subst (λ l. Makes m.read l (to_give b (taken_of ∷ held_by rest)) (to_give c (held_by rest))) (map-id m.children.items) (gives-finished (λ s. s) spec_of b c taken_of (held_by rest) m.read m.children.items whole after mine f refl)

    -- what was taken before it is still in hand
    pub held_less : IsHeld c (held_by rest)
    held_less a =
        let all = times-permutation a b.in_hand (address m.address ∷ c.in_hand) f.in_hand in
        omega (arith, all, mine a)

    pub same_last : (to_give c (held_by rest)).to_read ≡ (to_give b (held_by (rest ++ m ∷ []))).to_read
    same_last = makes.same ∙ ap (λ l. (to_give b l).to_read) (sym hand_last)

    pub joins_last : (all : List (Read T R × List T)) → IsPermutation all (map with_children (rest ++ m ∷ []) ++ (to_give b (held_by (rest ++ m ∷ []))).made) → IsPermutation all (map with_children rest ++ (to_give c (held_by rest)).made)
    joins_last all p =
        let before = (to_give b (held_by (rest ++ m ∷ []))).made in
        let is : map with_children (rest ++ m ∷ []) ++ before ≡ map with_children rest ++ with_children m ∷ before = ap (λ l. l ++ before) (map-append with_children rest (m ∷ [])) ∙ append_assoc (map with_children rest) (with_children m ∷ []) before in
        let joins : IsPermutation (with_children m ∷ before) (to_give c (held_by rest)).made = subst (λ l. IsPermutation (with_children m ∷ (to_give b l).made) (to_give c (held_by rest)).made) (sym hand_last) makes.joins in
        IsPermutation-trans all (map with_children rest ++ with_children m ∷ before) (map with_children rest ++ (to_give c (held_by rest)).made) (subst (IsPermutation all) is p)
        (IsPermutation-append_right (map with_children rest) (with_children m ∷ before) (to_give c (held_by rest)).made joins)

map-reverse : {X Y : Type 0} (f : X → Y) (xs : List X) → map f (reverse xs) ≡ reverse (map f xs)
map-reverse f [] = refl
map-reverse f (x ∷ xs) =
    ap (map f) (reverse-append (x ∷ []) xs) ∙ map-append f (reverse xs) (x ∷ []) ∙ ap (λ l. l ++ f x ∷ []) (map-reverse f xs) ∙ sym (reverse-append (f x ∷ []) (map f xs))

pub none_held : {T Q : Type 0} (b : Board T Q) → IsHeld b [] → b.in_hand ≡ []
none_held b held =
    elim b.in_hand as (λ l. ((a : List ℕ) → times a l ≡ 0) → l ≡ []) [
      | [] ↦ λ h. refl
      | x ∷ xs ↦ λ h. absurd (omega (arith, h x, times-itself x xs))
    ] held

module _ {T R A : Type 0} (is_reading : T → R → List T → Type 0) where
  abbrev IsOf : Ordered T A → Made T R A → Type 0
  IsOf = IsMadeOf is_reading

  -- as many are made as were taken
  pub as_many : (taken : List (Ordered T A)) (made : List (Made T R A)) → AllZip IsOf taken made → length made ≡ length taken
  as_many [] [] all = refl
  as_many [] (m ∷ made) all = absurd all
  as_many (x ∷ taken) [] all = absurd all
  as_many (x ∷ taken) (m ∷ made) all = ap suc (as_many taken made all.1)

  -- they are where those were
  same_places : (taken : List (Ordered T A)) (made : List (Made T R A)) → AllZip IsOf taken made → All (λ x. child_count_of x ≡ 0) taken
      → map (λ (m : Made T R A). record { at = address m.address; value = m.read.of; child_count = 0 }) made ≡ map addressed taken
  same_places [] [] all unread = refl
  same_places [] (m ∷ made) all unread = absurd all
  same_places (x ∷ taken) [] all unread = absurd all
  same_places (x ∷ taken) (m ∷ made) all unread =
      rw (all.0.at, all.0.of, All-head (λ x. child_count_of x ≡ 0) x taken unread, same_places taken made all.1 (All-tail (λ x. child_count_of x ≡ 0) x taken unread)) refl

  -- and are in hand as those were
  pub same_hand : (taken : List (Ordered T A)) (made : List (Made T R A)) → AllZip IsOf taken made → All (λ x. child_count_of x ≡ 0) taken → held_by made ≡ hand_of taken
  same_hand taken made all unread =
      map-reverse (λ (m : Made T R A). record { at = address m.address; value = m.read.of; child_count = 0 }) made
      ∙ ap reverse (same_places taken made all unread)
      ∙ sym (map-reverse addressed taken)

  -- each is sound
  all_sound : (taken : List (Ordered T A)) (made : List (Made T R A)) → AllZip IsOf taken made → All (IsSound is_reading) (map with_children made)
  all_sound [] [] all = All-nil _
  all_sound [] (m ∷ made) all = absurd all
  all_sound (x ∷ taken) [] all = absurd all
  all_sound (x ∷ taken) (m ∷ made) all = All-cons (IsSound is_reading) (with_children m) (map with_children made) all.0.sound (all_sound taken made all.1)

  -- What is taken, read and finished leaves some readings made.
  pub reads_batch : (width count : ℕ) (b mid c : Board T (Read T R)) (taken : List (Ordered T A)) (made : List (Made T R A))
      → length taken ≡ min width count → All (λ x. child_count_of x ≡ 0) taken → to_give mid (hand_of taken) ≡ to_give b [] → AllZip IsOf taken made → MakesAll (map with_children made) (to_give mid (held_by made)) (to_give c [])
      → ReadsSome is_reading width (to_give b []) (to_give c [])
  reads_batch width count b mid c taken made number unread same all makes =
      let before : to_give mid (held_by made) ≡ to_give b [] = ap (to_give mid) (same_hand taken made all unread) ∙ same in
      record {
        readings = map with_children made;
        few = omega (arith, length-map made with_children, as_many taken made all, number);
        sound = all_sound taken made all;
        same = makes.same ∙ ap (λ l. l.to_read) before;
        join = subst (λ l. IsPermutation (map with_children made ++ l.made) (to_give c []).made) before makes.join;
      }
