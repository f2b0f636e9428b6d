-- What is read ahead, with each directory seen as its specification.
use Rattle.std.proofs.Common.{◌≡◌, ℕ, ◌+◌, min, List, [], ◌∷◌, ◌++◌, map, refl, sym, ap, ap₂, subst, ◌∙◌, inl, inr, true}
use Rattle.std.specs.Prelude.{All, flat_map, Option, Some, None, option_map}
use Rattle.std.specs.List.Sorted.{IsPermutation}
use Rattle.std.proofs.lemmas.List.{map-append, length-map}
use Rattle.std.proofs.lemmas.List.Elements.{All-nil, All-cons, All-head, All-tail, All-map, All-weaker}
use Rattle.std.proofs.lemmas.List.Sorted.{IsPermutation-map}
use Rattle.jwalk_order.specs.IndexPath.{is_before}
use Rattle.jwalk_order.specs.Addressed.{Addressed, addresses_of, numbered}
use Rattle.jwalk_order.specs.Frontier.{roots as root_addresses}
use Rattle.jwalk_board.specs.Seen.{seen}
use Rattle.tree_walk.specs.ReadAhead.{ReadAhead, BeginsWith, ComesBefore, LeastLeave, HandsOnAt, below, Joins, unread, ReadsLeast, Enters, EntersNext}

-- specifications that are numbered are seen so
numbered-seen : {T V : Type 0} (v : T → V) (a : List ℕ) (i : ℕ) (xs : List T) → map (seen v) (numbered a i xs) ≡ numbered a i (map v xs)
numbered-seen v a i [] = refl
numbered-seen v a i (x ∷ xs) = ap (λ l. record { at = a ++ i ∷ []; value = v x; child_count = 0 } ∷ l) (numbered-seen v a (i + 1) xs)

-- values that are seen otherwise are where they were
seen_addresses : {T V : Type 0} (v : T → V) (xs : List (Addressed T)) → addresses_of (map (seen v) xs) ≡ addresses_of xs
seen_addresses v [] = refl
seen_addresses v (x ∷ xs) = ap (λ l. x.at ∷ l) (seen_addresses v xs)

-- what holds of all that is seen holds of each as it is seen
pub All-seen : {X Y : Type 0} (P : Y → Type 0) (f : X → Y) (xs : List X) → All P (map f xs) → All (λ x. P (f x)) xs
All-seen P f [] all = All-nil _
All-seen P f (x ∷ xs) all = All-cons (λ y. P (f y)) x xs (All-head P (f x) (map f xs) all) (All-seen P f xs (All-tail P (f x) (map f xs) all))

module _ {T V : Type 0} (v : T → V) where
  abbrev seen_as : ReadAhead T → ReadAhead V
  seen_as a = record { queue = map (seen v) a.queue; done = a.done }

  pub seen_begins : (roots : List T) (frontier : List (List ℕ)) (new : ReadAhead T) → BeginsWith roots frontier new → BeginsWith (map v roots) frontier (seen_as new)
  seen_begins roots frontier new b = record { queue = subst (λ l. IsPermutation l (map (seen v) new.queue)) (numbered-seen v [] 0 roots) (IsPermutation-map (seen v) (numbered [] 0 roots) new.queue b.queue); done = b.done; to_enter = b.to_enter ∙ ap root_addresses (sym (length-map roots v)) }

  seen_before : (x : Addressed T) (others : List (Addressed T)) → ComesBefore x others → ComesBefore (seen v x) (map (seen v) others)
  seen_before x others before = All-map (λ (y : Addressed V). is_before x.at y.at ≡ true) (seen v) others before

  seen_leave : (taken : List (Addressed T)) (old new : ReadAhead T) → LeastLeave taken old new → LeastLeave (map (seen v) taken) (seen_as old) (seen_as new)
  seen_leave taken old new l = record {
    queue = subst (IsPermutation (map (seen v) old.queue)) (map-append (seen v) taken new.queue) (IsPermutation-map (seen v) old.queue (taken ++ new.queue) l.queue);
    least = All-map (λ x. ComesBefore x (map (seen v) new.queue)) (seen v) taken (All-weaker (λ x. ComesBefore x new.queue) (λ x. ComesBefore (seen v x) (map (seen v) new.queue)) (λ x. seen_before x new.queue) taken l.least);
    done = l.done;
  }

  seen_hands : (at : List ℕ) (old new : ReadAhead T) → HandsOnAt at old new → HandsOnAt at (seen_as old) (seen_as new)
  seen_hands at old new h = record { queue = ap (map (seen v)) h.queue; done = h.done }

  module _ {Q : Type 0} (w : Q → T) where
    -- a reading, with what is below it seen so
    abbrev sees : Q × List T → Q × List V
    sees m = (m.0, map v m.1)

    seen_below : (made : List (Addressed (Q × List T))) → flat_map below (map (seen sees) made) ≡ map (seen v) (flat_map below made)
    seen_below [] = refl
    seen_below (x ∷ made) =
        ap₂ (λ k l. k ++ l) (sym (numbered-seen v x.at 0 x.value.1)) (seen_below made)
        ∙ sym (map-append (seen v) (numbered x.at 0 x.value.1) (flat_map below made))

    seen_joins : (made : List (Addressed (Q × List T))) (old new : ReadAhead T) → Joins made old new → Joins (map (seen sees) made) (seen_as old) (seen_as new)
    seen_joins made old new j =
        let both : map (seen v) (flat_map below made ++ old.queue) ≡ flat_map below (map (seen sees) made) ++ map (seen v) old.queue =
        map-append (seen v) (flat_map below made) old.queue ∙ ap (λ l. l ++ map (seen v) old.queue) (sym (seen_below made)) in
        record {
          queue = subst (λ l. IsPermutation l (map (seen v) new.queue)) both (IsPermutation-map (seen v) (flat_map below made ++ old.queue) new.queue j.queue);
          done = subst (λ l. IsPermutation (l ++ old.done) new.done) (sym (seen_addresses sees made)) j.done;
        }

    seen_unread : (batch : List (Addressed (Q × List T))) → map (seen v) (map (unread w) batch) ≡ map (unread (λ q. v (w q))) (map (seen sees) batch)
    seen_unread [] = refl
    seen_unread (x ∷ batch) = ap (λ l. record { at = x.at; value = v (w x.value.0); child_count = 0 } ∷ l) (seen_unread batch)

    module _ (IsSound : Q × List T → Type 0) (IsSeenSound : Q × List V → Type 0) (sound : (m : Q × List T) → IsSound m → IsSeenSound (sees m)) where
      pub seen_least : (width : ℕ) (old new : ReadAhead T) → ReadsLeast w IsSound width old new → ReadsLeast (λ q. v (w q)) IsSeenSound width (seen_as old) (seen_as new)
      seen_least width old new r = record {
        batch = map (seen sees) r.batch;
        left = seen_as r.left;
        number = length-map r.batch (seen sees) ∙ r.number ∙ ap (min width) (sym (length-map old.queue (seen v)));
        sound = All-map (λ (x : Addressed (Q × List V)). IsSeenSound x.value) (seen sees) r.batch (All-weaker (λ x. IsSound x.value) (λ x. IsSeenSound (sees x.value)) (λ x. sound x.value) r.batch r.sound);
        leave = subst (λ l. LeastLeave l (seen_as old) (seen_as r.left)) (seen_unread r.batch) (seen_leave (map (unread w) r.batch) old r.left r.leave);
        join = seen_joins r.batch r.left new r.join;
      }

      seen_enters : (width : ℕ) (at : List ℕ) (old new : ReadAhead T) → Enters w IsSound width at old new → Enters (λ q. v (w q)) IsSeenSound width at (seen_as old) (seen_as new)
      seen_enters width at old new enters = elim enters [
        | inl ready ↦ inl (ready.0, seen_hands at old new ready.1)
        | inr more ↦ inr (more.0, (seen_as more.1.0, seen_least width old more.1.0 more.1.1, seen_hands at more.1.0 new more.1.2))
      ]

      pub seen_enters_next : {X Y : Type 0} (f : X → Y) (width : ℕ) (at : List ℕ) (old new : ReadAhead T) (read : Option X) → EntersNext w IsSound width at old read new → EntersNext (λ q. v (w q)) IsSeenSound width at (seen_as old) (option_map f read) (seen_as new)
      seen_enters_next f width at old new None stays = ap seen_as stays
      seen_enters_next f width at old new (Some x) enters = seen_enters width at old new enters
